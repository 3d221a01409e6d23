use mathlib.Core.Path.{◌≡◌}
use native.Mathlib.Numerals.{add-one}
use native.Mathlib.Omega.{arith}
use Rattle.field.specs.Field.{degree}
use Rattle.split_test.proofs.Splitting.{raised-start, raised-next, splits-x}
use Rattle.split_test.proofs.may_split.Goals as goal

pub loop-k-init : goal.loop-k-init
loop-k-init c = raised-start _ _ (omega arith)

pub squared-s-requires : goal.squared-s-requires
squared-s-requires c = let p = c.requires in
    record { tables = p.tables; n_bound = (omega arith, rw (add-one c.args.d) p.d_bound.1, c.loop-k.invariant.elements) }

pub loop-k-preserved : goal.loop-k-preserved
loop-k-preserved c = raised-next _ c.loop-k.invariant (rw (add-one c.args.d) at c.squared-s.ensures)

pub returns : goal.returns
returns c = let e : c.loop-k.k ≡ degree c.args.f = omega (arith, c.degree-m.ensures) in
    λ r g. c.same.ensures.fails r (λ j b. splits-x _ _ (omega arith) (rw e at c.loop-k.invariant) g j (omega arith))

use mathlib.Core.Path.{◌≡◌}
use native.Mathlib.Omega.{arith}
use Rattle.algebra.proofs.Array.{mixed-start}
use Rattle.series.proofs.Element.{elements-small}
use Rattle.series.proofs.Arrays.{update-next, update-end}
use Rattle.series.proofs.mix.Goals as goal

pub loop-i-init : goal.loop-i-init
loop-i-init c = mixed-start _ _ (elements-small _ c.requires.elements.0)

pub scaled-p-requires : goal.scaled-p-requires
scaled-p-requires c = record { tables = c.requires.tables; x_bound = (c.requires.elements.1.small _, c.requires.e_bound.0) }

pub loop-i-preserved : goal.loop-i-preserved
loop-i-preserved c = update-next _ _ c.requires.elements.1 (omega arith) c.loop-i.invariant c.scaled-p.ensures

pub returns : goal.returns
returns c = let e : c.loop-i.i ≡ c.args.terms = omega arith in
    update-end _ c.loop-i.invariant (rw e c.requires.e_bound.2)

use mathlib.Core.Path.{◌≡◌, refl}
use native.Mathlib.Omega.{arith}
use lib.ListN.{length-set}
use Rattle.page_explain.specs.Explain.{positions}
use Rattle.page_explain.proofs.Listing.{listed_next, taken-below}
use Rattle.page_explain.proofs.flips.list_flips.Goals as goal

pub loop-i-init : goal.loop-i-init
unfolding positions
loop-i-init c = (refl, refl)

pub flip_position-requires : goal.flip_position-requires
flip_position-requires c = let p = c.requires in
    (p.planned.0, p.planned.1, taken-below _ _ c.args.n c.loop-i.i p.planned.2 (omega (arith, p.exponents_len.0, p.exponents_len.1)) (omega arith))

pub bounds-list-i : goal.bounds-list-i
bounds-list-i c = omega (arith, c.loop-i.invariant.0, c.requires.exponents_len.2)

pub loop-i-preserved : goal.loop-i-preserved
loop-i-preserved c = let p = c.requires in (
  simp length-set c.loop-i.invariant.0,
  listed_next _ _ _ _ c.loop-i.i (omega (arith, p.exponents_len.0, p.exponents_len.1)) (omega (arith, p.exponents_len.2)) c.loop-i.invariant.1 c.flip_position.ensures,
)

pub shape_of-list : goal.shape_of-list
shape_of-list c = c.loop-i.invariant.0

pub returns : goal.returns
returns c = let e : c.loop-i.i ≡ c.args.n = omega arith in
    rw e at c.loop-i.invariant.1

use Rattle.text.proofs.Bytes.{placed-next}
use mathlib.Core.Path.{◌≡◌, refl, ap, ◌∙◌}
use native.Mathlib.Omega.{arith}
use Rattle.text.specs.Bytes.{placed}
use borrow.Author.Rules.{rules}
use Rattle.text.proofs.pairs.place.Goals as goal

pub loop-i-init : goal.loop-i-init
unfolding placed
loop-i-init c = (refl, refl)

pub loop-i-preserved : goal.loop-i-preserved
loop-i-preserved c = (search rules, placed-next _ _ _ _ _ c.loop-i.invariant.1 c.pair.ensures)

pub returns : goal.returns
returns c = let e : c.loop-i.i ≡ c.args.n = omega arith in c.loop-i.invariant.1 ∙ ap (placed c.args.text.now c.args.out.now) e

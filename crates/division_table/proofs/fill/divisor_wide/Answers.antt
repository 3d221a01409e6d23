use mathlib.Core.Path.{refl, ◌∙◌}
use native.Mathlib.Omega.{arith}
use borrow.Author.Rules.{rules}
use lib.ListN.{get_or, length-set}
use Rattle.code.specs.Register.{low}
use Rattle.remainder.proofs.Words.{zeros-at, zeros-store}
use Rattle.division_table.proofs.Filling.{copied_next, copied-end}
use Rattle.division_table.proofs.fill.divisor_wide.Goals as goal

pub loop-i-init : goal.loop-i-init
unfolding low
loop-i-init c = (refl, refl, λ k h. zeros-at 15 k)

pub loop-i-preserved : goal.loop-i-preserved
loop-i-preserved c = let s = c.loop-i in
    let row = c.args.row in (
      length-set s.words s.i (get_or row s.i 0) ∙ s.invariant.0,
      copied_next s.words row s.i (omega arith) s.invariant.1,
      zeros-store s.words s.i (get_or row s.i 0) s.invariant.2,
    )

pub returns : goal.returns
returns c = let s = c.loop-i in
    let a = c.args in
    copied-end s.words a.row (λ k. search rules) a.used (omega arith) (omega arith) s.invariant.1 s.invariant.2

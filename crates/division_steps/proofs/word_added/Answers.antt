use mathlib.Core.Path.{◌≡◌}
use native.Mathlib.Omega.{arith}
use borrow.Author.Rules.{rules}
use Rattle.division_steps.specs.Sums.{word_sum}
use Rattle.division_steps.proofs.Rows.{sum-next}
use Rattle.division_steps.proofs.word_added.Goals as goal

pub loop-b-init : goal.loop-b-init
unfolding word_sum
loop-b-init c = search rules

pub overflow_add-at : goal.overflow_add-at
overflow_add-at c = let h = c.requires.2 c.loop-b.b (omega arith) in
    record { fits = omega arith }

pub eight_low-sum-requires : goal.eight_low-sum-requires
eight_low-sum-requires c = let h = c.requires.2 c.loop-b.b (omega arith) in
    omega arith

pub loop-b-preserved : goal.loop-b-preserved
loop-b-preserved c = let s = c.loop-b in
    let a = c.args in
    sum-next a.table.now a.at a.i s.b a.start c.eight_low-sum.ensures s.invariant

pub returns : goal.returns
returns c = let s = c.loop-b in
    let e : s.b ≡ 8 = omega arith in
    rw e at s.invariant

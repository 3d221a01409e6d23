use Prim.Native.Nat.{◌<◌, ◌+◌}
use mathlib.Core.Path.{◌≡◌, ◌∙◌}
use native.Mathlib.Omega.{arith}
use borrow.Author.Rules.{rules}
use lib.ListN.{length}
use lib.Seq.{get_or-set_same, get_or-set_other}
use Rattle.division_steps.proofs.Steps.{words-zero, word_more, up-store, word-up-end}
use Rattle.division_steps.proofs.word_up.Goals as goal

pub loop-i-init : goal.loop-i-init
loop-i-init c = let a = c.args in
    let v = a.state.words in
    let l : length v ≡ 15 = search rules in (
      search rules,
      get_or-set_same v 0 0 0 (omega arith),
      λ k h. absurd (omega arith),
      λ k h. get_or-set_other v 0 k 0 0 (omega arith) ∙ words-zero v (a.used + 1) (rw (word_more a.used) at c.requires.2) k h,
    )

pub loop-i-preserved : goal.loop-i-preserved
loop-i-preserved c = let s = c.loop-i in
    let v = c.args.state.words in
    let l : s.i + 1 < length s.words = omega arith in (
      search rules,
      get_or-set_other s.words (s.i + 1) 0 _ 0 (omega arith) ∙ s.invariant.1,
      up-store s.words v s.i l s.invariant.2,
      λ k h. get_or-set_other s.words (s.i + 1) k _ 0 (omega arith) ∙ s.invariant.3 k h,
    )

pub returns : goal.returns
returns c = let s = c.loop-i in
    let a = c.args in
    let v = a.state.words in
    let l : length v ≡ 15 = search rules in
    let e : s.i ≡ a.used = omega arith in
    word-up-end s.words v (λ k. search rules) a.used a.w (omega arith) (omega arith) (omega arith) s.invariant.1 (rw e at s.invariant.2) s.invariant.3

use mathlib.Core.List.{List}
use Prim.Native.Nat.{ℕ}
use mathlib.Core.Path.{◌≡◌, ◌∙◌, sym}
use native.Mathlib.Nat.{le_refl}
use native.Mathlib.Omega.{arith}
use borrow.Author.Rules.{rules}
use lib.ListN.{length, drop}
use lib.Seq.{get_or-drop}
use Rattle.code.specs.Register.{low}
use Rattle.remainder.proofs.Words.{xor-store, xor-low-end, above-store, words-drop, low-lt}
use Rattle.remainder.proofs.add.row_added.Goals as goal

pub loop-i-init : goal.loop-i-init
unfolding low
loop-i-init c = search rules

pub loop-i-preserved : goal.loop-i-preserved
loop-i-preserved c = let s = c.loop-i in
    let a = c.args in
    let row : List ℕ = drop a.from a.words.now in (
      search rules,
      xor-store s.sum a.state.words row s.i (omega arith) (low-lt a.state.words (λ k. search rules) s.i)
          (low-lt row (words-drop _ c.shared_slice_known-1.given a.from) s.i) s.invariant.1 (sym (get_or-drop a.from _ s.i 0)) (s.invariant.2 _ (le_refl _)),
      above-store s.sum a.state.words s.i _ s.invariant.2,
    )

pub returns : goal.returns
returns c = let s = c.loop-i in
    let v = c.args.state.words in
    let l : length v ≡ 14 = search rules in
    let e : s.i ≡ c.args.used = omega arith in
    xor-low-end s.sum v (drop c.args.from c.args.words.now) s.i (omega arith) (s.invariant.0 ∙ sym l) s.invariant.1 s.invariant.2 (rw e c.requires.2) ∙ rw e

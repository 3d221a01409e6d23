use mathlib.Core.List.{List}
use Prim.Native.Nat.{ℕ, ◌*◌}
use mathlib.Core.Path.{◌≡◌, ◌∙◌, sym}
use native.Mathlib.Nat.{le_refl}
use native.Mathlib.Omega.{arith}
use borrow.Author.Rules.{rules}
use lib.ListN.{length, drop}
use Rattle.code.specs.Register.{low}
use Rattle.remainder.proofs.Words.{above-store, low-lt}
use Rattle.wide.specs.Bytes.{little}
use Rattle.wide.proofs.Bytes.{bytes_drop, little-from}
use Rattle.wide.proofs.Steps.{xor-next, xor-end}
use Rattle.wide.proofs.row_added.Goals as goal

pub loop-i-init : goal.loop-i-init
unfolding low little
loop-i-init c = search rules

pub loop-i-preserved : goal.loop-i-preserved
loop-i-preserved c = let s = c.loop-i in
    let a = c.args in
    let row : List ℕ = drop a.from a.rows.now in (
      search rules,
      xor-next s.sum a.state.words row s.i (omega arith) (low-lt a.state.words (λ k. search rules) s.i)
          (bytes_drop _ (λ j. (c.shared_slice_known-1.given j).fits) a.from) s.invariant.1 (c.eight_low.ensures ∙ sym (little-from a.rows.now a.from (8 * s.i) 8)) (s.invariant.2 _ (le_refl _)),
      above-store s.sum a.state.words s.i _ s.invariant.2,
    )

pub returns : goal.returns
returns c = let s = c.loop-i in
    let v = c.args.state.words in
    let l : length v ≡ 15 = search rules in
    let e : s.i ≡ c.args.count = omega arith in
    xor-end s.sum v s.i (little (drop c.args.from c.args.rows.now) (8 * s.i)) (omega arith) (s.invariant.0 ∙ sym l) s.invariant.1 s.invariant.2 (rw e c.requires.2) ∙ rw e

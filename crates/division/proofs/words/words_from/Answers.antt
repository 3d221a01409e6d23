use Prim.Native.Nat.{ℕ, ◌+◌, ◌*◌, ◌/◌}
use mathlib.Core.Path.{◌≡◌, ap, ◌∙◌}
use native.Mathlib.Omega.{arith}
use borrow.Author.Rules.{rules}
use Rattle.bits.specs.Bits.{bit_of, run, number}
use Rattle.division.specs.Turned.{turned_word}
use Rattle.division.proofs.Turned.{word-twice, turned-next}
use Rattle.division.proofs.words.words_from.Goals as goal

pub returns-then-from-bytes : goal.returns-then-from-bytes
returns-then-from-bytes c = let a = c.args in
    let e : 8 * (a.at / 8) ≡ a.at = omega arith in
    λ k h. c.sixteen_words.ensures k (omega arith) ∙ ap (λ (p : ℕ). number (run (bit_of a.bytes.now) (p + 64 * k) 64)) e

pub loop-i-init : goal.loop-i-init
loop-i-init c = (search rules, λ k h. absurd (omega arith))

pub loop-i-preserved : goal.loop-i-preserved
loop-i-preserved c = let s = c.loop-i in
    let a = c.args in
    (search rules, turned-next (λ k. number (run (bit_of a.bytes.now) (a.at + 64 * k) 64)) s.words s.i _ (omega arith) s.invariant.1 (ap turned_word c.turned_word.ensures ∙ word-twice _ (search rules) ∙ c.word_at-w.ensures))

pub returns : goal.returns
returns c = let s = c.loop-i in
    λ k h. s.invariant.1 k (omega arith)

use Prim.Native.Nat.{◌+◌, ◌*◌, ◌/◌, ◌%◌}
use mathlib.Core.Path.{◌≡◌, ◌∙◌, ap₂}
use native.Mathlib.Omega.{arith}
use borrow.Author.Rules.{rules}
use lib.ListN.{length}
use Rattle.bits.specs.Bits.{bit_of, run, number}
use Rattle.bits.proofs.Pages.{number-run-lt}
use Rattle.remainder.proofs.Words.{top-store}
use Rattle.register_digits.proofs.Bytes.{words-top}
use Rattle.register_digits.proofs.number_at.Goals as goal

pub returns-then-odd-eq0 : goal.returns-then-odd-eq0
returns-then-odd-eq0 c = let a = c.args in
    let p : a.at + a.n % 64 ≡ a.at = omega arith in
    let q : 64 * (a.n / 64) ≡ a.n = omega arith in
    c.whole_words-whole.ensures ∙ ap₂ (λ x y. number (run (bit_of a.bytes.now) x y)) p q

pub returns : goal.returns
returns c = let a = c.args in
    let r = c.whole_words-whole.result.words in
    let e = c.whole_words-whole.ensures in
    let l : length r ≡ 14 = search rules in
    words-top a.bytes.now a.at a.n (omega arith) e c.word_at.ensures (top-store r (a.n / 64) _ (omega arith) (rw e (number-run-lt _ _ _)))

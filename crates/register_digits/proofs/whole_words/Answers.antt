use Prim.Native.Nat.{◌-◌, ◌+◌, ◌*◌}
use mathlib.Core.Path.{◌≡◌, ◌∙◌, ap₂}
use native.Mathlib.Omega.{arith}
use borrow.Author.Rules.{rules}
use Rattle.bits.specs.Bits.{bit_of, run, number}
use Rattle.remainder.proofs.Words.{zeros-at, zeros-store, register-zeros}
use Rattle.register_digits.proofs.Bytes.{words-start, words-next}
use Rattle.register_digits.proofs.whole_words.Goals as goal

pub loop-i-init : goal.loop-i-init
loop-i-init c = (search rules, words-start _ _ _, λ k h. zeros-at 14 k)

pub loop-i-preserved : goal.loop-i-preserved
loop-i-preserved c = let s = c.loop-i in
    let a = c.args in
    (search rules, words-next a.bytes.now s.words a.at a.count s.i (omega arith) (omega arith) s.invariant.1 c.word_at.ensures, zeros-store s.words s.i _ s.invariant.2)

pub returns : goal.returns
returns c = let s = c.loop-i in
    let a = c.args in
    let e : s.i ≡ a.count = omega arith in
    let p : a.at + 64 * (a.count - s.i) ≡ a.at = omega arith in
    register-zeros s.words s.i (omega arith) s.invariant.2 ∙ s.invariant.1 ∙ ap₂ (λ q n. number (run (bit_of a.bytes.now) q (64 * n))) p e

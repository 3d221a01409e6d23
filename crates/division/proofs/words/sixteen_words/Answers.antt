use Prim.Native.Nat.{ℕ, ◌+◌, ◌*◌}
use mathlib.Core.Path.{◌≡◌, ap, ◌∙◌}
use native.Mathlib.Omega.{arith}
use borrow.Author.Rules.{rules}
use Rattle.bits.specs.Bits.{bit_of, run, number}
use Rattle.division.proofs.Turned.{word-turned, turned-next}
use Rattle.division.proofs.words.sixteen_words.Goals as goal

pub loop-i-init : goal.loop-i-init
loop-i-init c = (search rules, λ k h. absurd (omega arith))

pub loop-i-preserved : goal.loop-i-preserved
loop-i-preserved c = let s = c.loop-i in
    let a = c.args in
    let e : 8 * (a.from + 8 * s.i) ≡ 8 * a.from + 64 * s.i = omega arith in
    let w = word-turned a.bytes.now (λ j. (c.shared_slice_known-1.given j).fits) (a.from + 8 * s.i) c.eight_low.ensures in
    (search rules, turned-next (λ k. number (run (bit_of a.bytes.now) (8 * a.from + 64 * k) 64)) s.words s.i _ (omega arith) s.invariant.1 (w ∙ ap (λ (p : ℕ). number (run (bit_of a.bytes.now) p 64)) e))

pub returns : goal.returns
returns c = let s = c.loop-i in
    λ k h. s.invariant.1 k (omega arith)

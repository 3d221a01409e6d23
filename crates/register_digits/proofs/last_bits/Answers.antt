use Prim.Native.Nat.{◌-◌, ◌/◌}
use mathlib.Core.Path.{◌≡◌}
use native.Mathlib.Omega.{arith}
use borrow.Author.Rules.{rules}
use lib.ListN.{length}
use Rattle.code.specs.Register.{register}
use Rattle.register_digits.proofs.Bytes.{word_byte, bytes_next, bytes-digits}
use Rattle.register_digits.proofs.last_bits.Goals as goal

pub loop-i-init : goal.loop-i-init
loop-i-init c = (search rules, λ k h l. absurd (omega arith))

pub loop-i-preserved : goal.loop-i-preserved
loop-i-preserved c = let s = c.loop-i in
    let a = c.args in
    let v = a.state.words in
    let l : length v ≡ 14 = search rules in
    (search rules, bytes_next s.bytes (register v) ((896 - a.n) / 8) s.i _ (omega arith) s.invariant.1 (word_byte v (λ k. search rules) l s.i (omega arith)))

pub returns : goal.returns
returns c = let s = c.loop-i in
    let e : s.i ≡ 112 = omega arith in
    bytes-digits s.bytes (register c.args.state.words) c.args.n c.requires (rw e at s.invariant.1)

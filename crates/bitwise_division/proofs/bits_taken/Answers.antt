use Prim.Native.Nat.{◌<◌, ◌+◌, ◌*◌, ◌^◌}
use mathlib.Core.Path.{◌≡◌, ap, ◌∙◌}
use native.Mathlib.Omega.{arith}
use borrow.Author.Rules.{rules}
use Rattle.bits.specs.Bits.{bit_of, run}
use Rattle.bits.proofs.Pages.{bit_at_lt}
use Rattle.bit_reader.proofs.Walking.{bit_in-read}
use Rattle.code.specs.Register.{low, register}
use Rattle.remainder.specs.Parity.{parity_from}
use Rattle.bitwise_division.proofs.Single.{taken-below, run-start, run-next}
use Rattle.bitwise_division.proofs.bits_taken.Goals as goal

pub loop-i-init : goal.loop-i-init
loop-i-init c = run-start _ _ _ _ _

pub bit_taken-r-requires : goal.bit_taken-r-requires
bit_taken-r-requires c = let l = c.loop-i in
    let e = bit_in-read c.args.bytes.now _ c.next_bit-read.ensures c.bit_or_zero-b.ensures (omega arith) in
    (c.requires.0, taken-below _ c.args.row c.requires.0 (λ k. search rules) _ _ c.requires.1 l.invariant, rw e (bit_at_lt _ _))

pub loop-i-preserved : goal.loop-i-preserved
loop-i-preserved c = let l = c.loop-i in
    let e = bit_in-read c.args.bytes.now _ c.next_bit-read.ensures c.bit_or_zero-b.ensures (omega arith) in
    let b : c.bit_or_zero-b.result < 2 = rw e (bit_at_lt _ _) in
    run-next _ _ _ c.args.bytes.now c.args.at l.i l.invariant (grind arith) b c.bit_taken-r.ensures

pub returns : goal.returns
returns c = let s = c.args in
    let l = c.loop-i in
    let e : l.i ≡ s.n = omega arith in
    l.invariant ∙ ap (λ k. parity_from (64 * s.used) (2 ^ (64 * s.used) + low s.row s.used) (register s.state.words) (run (bit_of s.bytes.now) s.at k)) e

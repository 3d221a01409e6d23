use mathlib.Core.Path.{◌≡◌, refl}
use Prim.Native.Nat.{◌+◌, ◌/◌}
use native.Mathlib.Omega.{arith}
use borrow.Author.Rules.{rules}
use Rattle.bit_writing.proofs.Parts.{byte_next}
use Rattle.bits.proofs.Placed.{placed-none}
use Rattle.bits.proofs.Steps.{byte-run}
use Rattle.bit_writing.proofs.copy.copy_aligned.Goals as goal

pub loop-i-init : goal.loop-i-init
loop-i-init c = (refl, placed-none _ _ _ _ _ (record { count = refl; small = λ j. (c.slice_known-1.given j).fits }) (omega arith))

pub loop-i-preserved : goal.loop-i-preserved
loop-i-preserved c = let i = c.loop-i.i in
    let first = c.byte_of-first.result in
    let h : c.byte_of-first.result ≡ c.args.at / 8 = c.byte_of-first.ensures in
    let g : c.byte_of-start.result ≡ c.args.position / 8 = c.byte_of-start.ensures in (
      search rules,
      byte_next _ _ _ _ _ _ c.loop-i.invariant.1
          (byte-run _ (first + i) _ (omega arith) refl (c.shared_slice_known-in-loop-i-1.given (first + i)).fits) (omega arith) (omega arith),
    )

pub returns : goal.returns
returns c = let e : c.loop-i.i ≡ c.args.count = omega arith in
    rw (← e) c.loop-i.invariant.1

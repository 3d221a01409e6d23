use mathlib.Core.Path.{◌≡◌, refl, ap, ◌∙◌}
use Prim.Native.Nat.{◌/◌}
use native.Mathlib.Omega.{arith}
use borrow.Author.Rules.{rules}
use Rattle.bits.specs.Bits.{placed}
use Rattle.bits.proofs.Numbers.{ones-run}
use Rattle.bit_writing.proofs.Parts.{byte_next, ones-byte}
use Rattle.bits.proofs.Placed.{placed-none}
use Rattle.bit_writing.proofs.fill.fill_bytes.Goals as goal

pub loop-i-init : goal.loop-i-init
loop-i-init c = (refl, placed-none _ _ _ _ _ (record { count = refl; small = λ j. (c.slice_known-1.given j).fits }) (omega arith))

pub loop-i-preserved : goal.loop-i-preserved
loop-i-preserved c = let g : c.byte_of-start.result ≡ c.args.position / 8 = c.byte_of-start.ensures in
    (search rules, byte_next _ _ _ _ _ _ c.loop-i.invariant.1 (ones-byte _) (omega arith) (omega arith))

pub returns : goal.returns
returns c = let e : c.loop-i.i ≡ c.args.count = omega arith in
    rw (← e) (c.loop-i.invariant.1 ∙ ap (placed _ _) (ones-run _ _))

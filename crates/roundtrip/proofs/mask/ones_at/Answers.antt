use Prim.Native.Nat.{◌-◌}
use mathlib.Core.Path.{◌≡◌}
use native.Mathlib.Omega.{arith}
use Rattle.roundtrip.proofs.Masks.{bit-low, ones_none, ones-next}
use Rattle.roundtrip.proofs.mask.ones_at.Goals as goal

pub loop-i-init : goal.loop-i-init
loop-i-init c = (omega arith, ones_none _ _ _)

pub overflow_add-count : goal.overflow_add-count
overflow_add-count c = let a = c.args in
    let l = c.loop-i in
    let h = bit-low a.mask.now _ c.bit_at-bit.ensures in
    record { fits = omega arith }

pub loop-i-preserved : goal.loop-i-preserved
loop-i-preserved c = let a = c.args in
    let l = c.loop-i in
    let e = c.bit_at-bit.ensures in
    let h = bit-low a.mask.now _ e in
    (omega arith, rw e (ones-next a.mark a.mask.now a.position l.i l.invariant.1 c.place-at.ensures))

pub returns : goal.returns
returns c = let e : c.loop-i.i ≡ c.args.n = omega arith in
    rw (← e) c.loop-i.invariant.1

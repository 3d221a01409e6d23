use mathlib.Core.Path.{refl, ap, ◌∙◌}
use native.Mathlib.Omega.{arith}
use lib.ListN.{get_or}
use lib.Seq.{take_all}
use Rattle.bits.specs.Bits.{bit_of, run}
use Rattle.block_claim.proofs.Claims.{flip-turned, flipped-start, flipped-next}
use Rattle.block_claim.proofs.flip_claims.Goals as goal

pub loop-i-init : goal.loop-i-init
loop-i-init c = flipped-start _ c.args.claims.now

pub overflow_cast-exponent : goal.overflow_cast-exponent
overflow_cast-exponent c = omega (arith, c.shared_slice_known-in-loop-i-1.given c.loop-i.i)

pub overflow_sub-n : goal.overflow_sub-n
overflow_sub-n c = omega (arith, c.requires.0 c.loop-i.i c.loop-i-test.true)

pub overflow_sub-n-in-loop-i : goal.overflow_sub-n-in-loop-i
overflow_sub-n-in-loop-i c = omega (arith, c.requires.0 c.loop-i.i c.loop-i-test.true)

pub loop-i-preserved : goal.loop-i-preserved
loop-i-preserved c = let s = c.loop-i in
    let l = c.loop-i-test.true in
    let h = c.requires.0 s.i l in
    let t = flip-turned s.bytes c.args.n (get_or c.args.claims.now s.i 0) h (omega arith) refl in
    flipped-next _ c.args.claims.now s.i l s.invariant (ap (λ v. run (bit_of v) 0 c.args.n) c.flip_bit.ensures ∙ t)

pub returns : goal.returns
returns c = let a = c.args in
    let e = take_all c.loop-i.i a.claims.now c.loop-i-test.false in
    c.loop-i.invariant ∙ rw e

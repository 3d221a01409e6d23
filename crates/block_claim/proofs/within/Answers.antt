use native.Mathlib.Omega.{arith}
use Rattle.bits.proofs.Decides.{decides-true, decides-false}
use Rattle.block_claim.proofs.Claims.{within-next}
use Rattle.block_claim.proofs.within.Goals as goal

pub overflow_cast-claims : goal.overflow_cast-claims
overflow_cast-claims c = omega (arith, c.shared_slice_known-1.given c.loop-i.i)

pub returns-then-n-claims : goal.returns-then-n-claims
returns-then-n-claims c = decides-false (λ h. let l = h c.loop-i.i (omega arith) in omega arith)

pub loop-i-preserved : goal.loop-i-preserved
loop-i-preserved c = within-next _ c.args.claims.now _ c.loop-i.invariant c.if-n-claims.false

pub returns : goal.returns
returns c = decides-true (λ k l. c.loop-i.invariant k (omega arith))

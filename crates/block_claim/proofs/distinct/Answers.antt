use native.Mathlib.Omega.{arith}
use Rattle.bits.proofs.Decides.{decides-true, decides-false}
use Rattle.block_claim.proofs.Claims.{row-start, row_next, rows_start, rows_next, rows_end}
use Rattle.block_claim.proofs.distinct.Goals as goal

pub loop-i-init : goal.loop-i-init
loop-i-init c = rows_start _

pub loop-j-init : goal.loop-j-init
loop-j-init c = row-start _ _

pub loop-j-preserved : goal.loop-j-preserved
loop-j-preserved c = row_next _ _ _ c.loop-j.invariant c.if-claims-i.false

pub loop-i-preserved : goal.loop-i-preserved
loop-i-preserved c = rows_next _ _ _ c.loop-i.invariant c.loop-j.invariant c.loop-j-test.false

pub returns-then-claims-i : goal.returns-then-claims-i
returns-then-claims-i c = decides-false (λ d. d c.loop-i.i c.loop-j.j (omega arith) (omega arith) c.if-claims-i.true)

pub returns : goal.returns
returns c = decides-true (rows_end _ _ c.loop-i.invariant c.loop-i-test.false)

use Rattle.block_claim.proofs.Claims.{Row, Rows}
use Rattle.block_claim.proofs.distinct.Given as goal

abbrev pub invariant-loop-i : goal.invariant-loop-i
invariant-loop-i l = Rows l.claims l.i

abbrev pub invariant-loop-j : goal.invariant-loop-j
invariant-loop-j l = Row l.claims l.i l.j

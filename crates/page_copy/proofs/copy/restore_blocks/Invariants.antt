use Rattle.page_copy.specs.Copying.{RestoredAll}
use Rattle.page_copy.proofs.copy.restore_blocks.Given as goal

abbrev pub invariant-loop-b : goal.invariant-loop-b
invariant-loop-b l = RestoredAll l.plan l.b l.places l.flips l.initial.metadata l.initial.data l.metadata l.data

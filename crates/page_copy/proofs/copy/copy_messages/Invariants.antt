use mathlib.Core.List.{◌++◌}
use Rattle.bits.specs.Bits.{placed}
use Rattle.payload.specs.Payload.{Joined}
use Rattle.page_copy.specs.Copying.{texts}
use Rattle.page_copy.proofs.copy.copy_messages.Given as goal

abbrev pub invariant-loop-b : goal.invariant-loop-b
invariant-loop-b l = Joined l.initial.metadata l.initial.data l.metadata l.data (placed (l.initial.metadata ++ l.initial.data) 0 (texts l.plan l.page l.b))

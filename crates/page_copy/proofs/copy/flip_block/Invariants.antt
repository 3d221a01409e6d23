use Rattle.page_keep.specs.Keeping.{kept}
use Rattle.page_copy.specs.Copying.{FlippedIn}
use Rattle.page_copy.proofs.copy.flip_block.Given as goal

abbrev pub invariant-loop-i : goal.invariant-loop-i
invariant-loop-i l = FlippedIn l.plan l.block (kept l.places l.block l.i) l.initial.metadata l.initial.data l.metadata l.data

use mathlib.Core.List.{◌++◌}
use Rattle.page_write.proofs.Writing.{Streamed}
use Rattle.page_write.proofs.write.write_blocks.Given as goal

abbrev pub invariant-loop-block : goal.invariant-loop-block
invariant-loop-block l = Streamed l.plan (l.metadata ++ l.data) l.initial.page l.block l.page

use Rattle.std.proofs.Common.{◌<◌}
use Rattle.root_finder.proofs.trace.trace.Given as goal

abbrev pub invariant-loop-k : goal.invariant-loop-k
invariant-loop-k l = l.e < 16384

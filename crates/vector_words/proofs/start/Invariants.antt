use Rattle.std.proofs.Common.{◌≤◌, length}
use Rattle.vector_words.proofs.start.Given as goal

abbrev pub invariant-loop : goal.invariant-loop
invariant-loop l = l.at ≤ length l.fn.line

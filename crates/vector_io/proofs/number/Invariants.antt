use Rattle.std.proofs.Common.{◌≡◌}
use Rattle.vector_io.specs.Number.{number_at}
use Rattle.vector_io.proofs.number.Given as goal

abbrev pub invariant-loop-i : goal.invariant-loop-i
invariant-loop-i l = l.v ≡ number_at l.fn.bytes l.fn.at l.i

use Rattle.decoder.proofs.Locating.{Reversing}
use Rattle.decoder.proofs.reversed.Given as goal

abbrev pub invariant-loop-i : goal.invariant-loop-i
invariant-loop-i l = Reversing l.count l.places l.i l.v

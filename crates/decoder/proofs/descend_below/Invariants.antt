use Rattle.decoder.proofs.Locating.{Ordered}
use Rattle.decoder.proofs.descend_below.Given as goal

abbrev pub invariant-loop-k : goal.invariant-loop-k
invariant-loop-k l = Ordered l.n l.k l.bound l.places

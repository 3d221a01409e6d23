use Rattle.root_search.proofs.Search.{Searching}
use Rattle.root_search.proofs.locate.Given as goal

abbrev pub invariant-loop-p : goal.invariant-loop-p
invariant-loop-p l = Searching l.f l.c l.len l.n l.exponents l.count l.p

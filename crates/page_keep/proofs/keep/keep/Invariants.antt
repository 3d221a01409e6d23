use Rattle.page_keep.specs.Keeping.{KeptFor}
use Rattle.page_keep.proofs.keep.keep.Given as goal

abbrev pub invariant-loop-i : goal.invariant-loop-i
invariant-loop-i l = KeptFor l.block l.i l.exponents l.initial.places l.places

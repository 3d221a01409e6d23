use Rattle.std.proofs.Common.{arith}
use Rattle.std.proofs.lemmas.Bool.Decides.{nat_tests}
use Rattle.fragments.specs.Calls.{offered}
use Rattle.fragments.proofs.request.is_offered.Goals as goal

pub returns-in-2 : goal.returns-in-2
unfolding offered
returns-in-2 c = let h = c.in-2.is in grind (arith, nat_tests)

pub returns-in_default : goal.returns-in_default
unfolding offered
returns-in_default c = let h = c.in_default in grind (arith, nat_tests)

use Rattle.page_theory.proofs.Demand1.{write-ends}
use Rattle.roundtrip.proofs.Trips.{write-told}
use Rattle.roundtrip.proofs.round.write.Goals as goal

pub returns : goal.returns
returns c = write-told _ (write-ends _ _ _ _).block c.answer_number.ensures c.write_page.ensures

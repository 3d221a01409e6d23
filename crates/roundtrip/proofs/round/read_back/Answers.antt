use Rattle.roundtrip.proofs.Trips.{back-refused, back-taken}
use Rattle.roundtrip.proofs.round.read_back.Goals as goal

pub returns-then-looked-ne0 : goal.returns-then-looked-ne0
returns-then-looked-ne0 c = back-refused _ _ _ _ _ _ c.look_page.ensures c.answer_number-looked.ensures c.if-looked-ne0.true

pub returns : goal.returns
returns c = back-taken _ _ _ _ _ _ _ c.look_page.ensures c.answer_number-looked.ensures c.if-looked-ne0.false c.take_page.ensures c.answer_number.ensures

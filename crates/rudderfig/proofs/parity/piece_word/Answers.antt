use Rattle.rudderfig.proofs.parity.piece_word.Goals as goal

pub returns : goal.returns
returns c = rw (← c.answer_number.ensures) c.answer_word.ensures

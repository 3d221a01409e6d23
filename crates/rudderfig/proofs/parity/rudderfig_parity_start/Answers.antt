use Rattle.rudderfig.proofs.Pieces.{state-returns}
use Rattle.rudderfig.proofs.parity.rudderfig_parity_start.Goals as goal

pub returns : goal.returns
returns c = state-returns _ c.start.ensures c.piece_word.ensures

use Rattle.rudderfig.proofs.Pieces.{parity-returns}
use Rattle.rudderfig.proofs.parity.rudderfig_parity_finish.Goals as goal

pub returns : goal.returns
returns c = parity-returns _ c.finish.ensures c.piece_word.ensures

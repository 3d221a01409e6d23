use Rattle.rudderfig.proofs.Pieces.{state-returns}
use Rattle.rudderfig.proofs.parity.rudderfig_parity_feed.Goals as goal

pub returns : goal.returns
returns c = state-returns _ c.feed.ensures c.piece_word.ensures

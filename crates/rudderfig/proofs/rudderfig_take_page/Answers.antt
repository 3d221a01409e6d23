use Rattle.rudderfig.proofs.Returns.{take-returns}
use Rattle.rudderfig.proofs.rudderfig_take_page.Goals as goal

pub returns : goal.returns
returns c = take-returns _ c.plain_word.ensures c.take_page.ensures

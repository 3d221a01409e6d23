use Rattle.rudderfig.proofs.Returns.{look-returns}
use Rattle.rudderfig.proofs.rudderfig_look_page.Goals as goal

pub returns : goal.returns
returns c = look-returns _ c.plain_word.ensures c.look_page.ensures

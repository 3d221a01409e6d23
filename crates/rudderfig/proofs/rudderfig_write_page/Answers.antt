use Rattle.rudderfig.proofs.Returns.{write-returns}
use Rattle.rudderfig.proofs.rudderfig_write_page.Goals as goal

pub returns : goal.returns
returns c = write-returns _ c.plain_word.ensures c.write_page.ensures

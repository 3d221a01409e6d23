use Rattle.rudderfig.proofs.Returns.{explain-returns}
use Rattle.rudderfig.proofs.explaining.rudderfig_explain_block.Goals as goal

pub returns : goal.returns
returns c = explain-returns c.explain_block-answer.ensures c.block_word.ensures

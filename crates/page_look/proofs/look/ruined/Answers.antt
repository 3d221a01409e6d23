use mathlib.Core.Path.{refl}
use Rattle.replies.specs.Replies.{number, block, verdict_number, verdict_block}
use Rattle.page_look.proofs.look.ruined.Goals as goal

pub returns : goal.returns
unfolding verdict_number verdict_block number block
returns c = (refl, refl)

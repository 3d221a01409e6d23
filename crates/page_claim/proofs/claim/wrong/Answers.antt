use mathlib.Core.Path.{refl}
use Rattle.replies.specs.Replies.{number, verdict_number}
use Rattle.page_claim.proofs.claim.wrong.Goals as goal

pub returns : goal.returns
unfolding verdict_number number
returns c = refl

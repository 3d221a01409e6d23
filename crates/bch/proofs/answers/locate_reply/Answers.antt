use Rattle.std.proofs.Common.{rules}
use Rattle.replies.specs.Replies.{verdict_number}
use Rattle.bch.proofs.answers.locate_reply.Goals as goal

pub returns-in-Ok : goal.returns-in-Ok
unfolding verdict_number
returns-in-Ok c = search rules

pub returns-in-Err : goal.returns-in-Err
unfolding verdict_number
returns-in-Err c = search rules

use borrow.Author.Tests.{lt-ltb, le-ltb}
use Rattle.replies.specs.Replies.{number}
use Rattle.version_list.specs.Plain.{use_of}
use Rattle.store.specs.Answers.{refusal_number, verdict_reply, answer_version, listed}
use Rattle.store.proofs.Store.version_in_use.Goals as goal

pub returns-then-chip-ge16 : goal.returns-then-chip-ge16
unfolding verdict_reply answer_version refusal_number number use_of
returns-then-chip-ge16 c = rw (le-ltb _ _ c.if-chip-ge16.true)

pub returns : goal.returns
unfolding verdict_reply answer_version use_of listed
returns c = rw (lt-ltb _ _ c.if-chip-ge16.false)

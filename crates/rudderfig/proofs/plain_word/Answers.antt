use mathlib.Core.Path.{sym, ◌∙◌}
use Rattle.replies.specs.Replies.{verdict_number, verdict_block}
use Rattle.answer_words.specs.Answer.{done_word, refused_word}
use Rattle.rudderfig.proofs.plain_word.Goals as goal

pub returns-in-Ok : goal.returns-in-Ok
unfolding done_word verdict_number verdict_block
returns-in-Ok c = c.done.ensures ∙ rw c.in-Ok.is

pub returns-in-Err : goal.returns-in-Err
unfolding refused_word verdict_number verdict_block
returns-in-Err c = c.refused_by.ensures ∙ rw c.in-Err.is

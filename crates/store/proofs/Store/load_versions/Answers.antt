use mathlib.Core.Path.{sym, ◌∙◌}
use Rattle.replies.specs.Replies.{number}
use Rattle.version_list.specs.Plain.{with_uses}
use Rattle.store.specs.Answers.{refusal_number, verdict_reply, listed}
use Rattle.version_bytes.proofs.Saved.{load-length, load-unknown, load-done}
use Rattle.store.proofs.Store.load_versions.Goals as goal

pub returns-then-buffer-ne32 : goal.returns-then-buffer-ne32
unfolding verdict_reply refusal_number number
returns-then-buffer-ne32 c = load-length _ _ c.if-buffer-ne32.true

pub returns-then-not-are_known : goal.returns-then-not-are_known
unfolding verdict_reply refusal_number number
returns-then-not-are_known c = load-unknown _ _ c.if-buffer-ne32.false (rw c.numbers_in-uses.ensures at (sym c.are_known.ensures ∙ c.if-not-are_known.true))

pub returns : goal.returns
unfolding verdict_reply listed with_uses
returns c = rw c.numbers_in-uses.ensures
    (load-done _ _ c.if-buffer-ne32.false (rw c.numbers_in-uses.ensures at (sym c.are_known.ensures ∙ c.if-not-are_known.false)))

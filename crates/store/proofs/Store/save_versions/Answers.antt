use mathlib.Core.Path.{ap}
use borrow.Author.Tests.{eq-eqb, ne_eqb}
use Rattle.replies.specs.Replies.{number}
use Rattle.version_bytes.specs.Saved.{saving, save_of}
use Rattle.store.specs.Answers.{refusal_number, verdict_reply, listed}
use Rattle.store.proofs.Store.save_versions.Goals as goal

pub returns-then-buffer-ne32 : goal.returns-then-buffer-ne32
unfolding verdict_reply refusal_number number save_of
returns-then-buffer-ne32 c = rw (ne_eqb _ _ c.if-buffer-ne32.true)

pub returns : goal.returns
unfolding verdict_reply save_of listed
returns c = rw (eq-eqb _ 32 c.if-buffer-ne32.false) (ap (saving 0) c.put_numbers.ensures)

use Rattle.version_list.specs.Plain.{added}
use Rattle.store.specs.Answers.{refusal_number, verdict_reply, answer_version, listed}
use Rattle.version_list.proofs.Steps.{held-length, placed-taken, add-full, add-used-up, add_done}
use Rattle.store.proofs.Store.add_layout.Goals as goal

pub returns-then-is_full : goal.returns-then-is_full
unfolding verdict_reply answer_version refusal_number listed
returns-then-is_full c = let h = c.held-count in
    add-full _ _ _ (rw (held-length _ _ _ h.ensures.1 h.ensures.0) (c.is_full.ensures.0 c.if-is_full.true))

pub returns-then-are_used_up : goal.returns-then-are_used_up
unfolding verdict_reply answer_version refusal_number listed
returns-then-are_used_up c = let h = c.held-count in
    add-used-up _ _ _ (rw (held-length _ _ _ h.ensures.1 h.ensures.0) (c.is_full.ensures.1 c.if-is_full.false))
    (c.are_used_up.ensures.0 c.if-are_used_up.true)

pub returns : goal.returns
unfolding verdict_reply answer_version listed added
returns c = let h = c.held-count in
    let room = c.is_full.ensures.1 c.if-is_full.false in
    rw (placed-taken _ _ _ h.ensures.1 h.ensures.0 _ room)
    (add_done _ _ _ (rw (held-length _ _ _ h.ensures.1 h.ensures.0) room) (c.are_used_up.ensures.1 c.if-are_used_up.false))

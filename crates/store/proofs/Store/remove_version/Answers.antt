use mathlib.Core.Path.{sym, ◌∙◌}
use Rattle.replies.specs.Replies.{number}
use Rattle.version_list.specs.Plain.{removed}
use Rattle.store.specs.Answers.{refusal_number, verdict_reply, listed}
use Rattle.version_list.proofs.Lookups.{held_small}
use Rattle.version_list.proofs.Steps.{held_none, held_found, taken_out, remove-unknown, remove-used, remove-done}
use Rattle.store.proofs.Store.remove_version.Goals as goal

pub index_of-at-requires : goal.index_of-at-requires
index_of-at-requires c = rw c.held-count.ensures.0 (held_small _)

pub returns-then-count-at : goal.returns-then-count-at
unfolding verdict_reply refusal_number number listed
returns-then-count-at c = let h = c.held-count in
    remove-unknown _ _ (held_none _ _ _ h.ensures.1 h.ensures.0 _ _ c.index_of-at.ensures c.if-count-at.true)

pub returns-then-is_used : goal.returns-then-is_used
unfolding verdict_reply refusal_number listed
returns-then-is_used c = let h = c.held-count in
    remove-used _ _ (held_found _ _ _ h.ensures.1 h.ensures.0 _ _ c.index_of-at.ensures c.if-count-at.false) (sym c.is_used.ensures ∙ c.if-is_used.true)

pub close_gap-self-requires : goal.close_gap-self-requires
close_gap-self-requires c = (c.if-count-at.false, rw c.held-count.ensures.0 (held_small _))

pub returns : goal.returns
unfolding verdict_reply listed removed
returns c = let h = c.held-count in
    rw (c.close_gap-self.ensures, taken_out _ _ _ h.ensures.1 h.ensures.0 _ _ c.index_of-at.ensures c.if-count-at.false)
    (remove-done _ _ (held_found _ _ _ h.ensures.1 h.ensures.0 _ _ c.index_of-at.ensures c.if-count-at.false) (sym c.is_used.ensures ∙ c.if-is_used.false))

use mathlib.Core.Path.{sym, ◌∙◌}
use Rattle.replies.specs.Replies.{number, verdict_number}
use Rattle.piece_rules.proofs.Replies.{usable-going}
use Rattle.piece_states.proofs.Replies.{feed-unusable, feed-past, feed-taken}
use Rattle.piece_states.proofs.feed_in.Goals as goal

pub returns-then-not-is_usable : goal.returns-then-not-is_usable
unfolding verdict_number number
returns-then-not-is_usable c = feed-unusable _ _ _ (sym c.is_usable.ensures ∙ c.if-not-is_usable.true)

pub passes_length-requires : goal.passes_length-requires
passes_length-requires c = (usable-going _ _ (sym c.is_usable.ensures ∙ c.if-not-is_usable.false)).inside

pub returns-then-passes_length : goal.returns-then-passes_length
unfolding verdict_number number
returns-then-passes_length c = let u = sym c.is_usable.ensures ∙ c.if-not-is_usable.false in
    feed-past _ _ _ u (c.passes_length.ensures.0 c.if-passes_length.true)

pub advanced-requires : goal.advanced-requires
advanced-requires c = let u = sym c.is_usable.ensures ∙ c.if-not-is_usable.false in
    (u, c.passes_length.ensures.1 c.if-passes_length.false)

pub returns : goal.returns
unfolding verdict_number number
returns c = let u = sym c.is_usable.ensures ∙ c.if-not-is_usable.false in
    feed-taken _ _ _ u (c.passes_length.ensures.1 c.if-passes_length.false) c.advanced.ensures

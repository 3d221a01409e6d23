use mathlib.Core.Path.{refl, ◌∙◌, sym}
use Rattle.fragments.proofs.Replies.{lengths-bytes, lengths-count}
use Rattle.fragments.proofs.request.has_lengths.Goals as goal

pub returns-then-bytes-bytes_for : goal.returns-then-bytes-bytes_for
returns-then-bytes-bytes_for c = lengths-bytes _ _ _ (λ e. c.if-bytes-bytes_for.true (e ∙ sym c.bytes_for.ensures))

pub returns : goal.returns
returns c = lengths-count _ _ _ (c.if-bytes-bytes_for.false ∙ c.bytes_for.ensures) refl

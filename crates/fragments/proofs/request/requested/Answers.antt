use mathlib.Core.Path.{sym, ap, ◌∙◌}
use native.Mathlib.Omega.{arith}
use Rattle.std.specs.Prelude.{Ok}
use Rattle.fragments.specs.Calls.{requested}
use Rattle.fragments.proofs.Replies.{offered-level, offered-bits, measured}
use Rattle.fragments.proofs.request.requested.Goals as goal

pub returns-then-not-is_offered : goal.returns-then-not-is_offered
unfolding requested
returns-then-not-is_offered c = let offered = sym c.is_offered.ensures ∙ c.if-not-is_offered.true in rw offered

pub parity_bits-bits-requires : goal.parity_bits-bits-requires
parity_bits-bits-requires c = offered-level _ (sym c.is_offered.ensures ∙ c.if-not-is_offered.false)

pub has_lengths-requires : goal.has_lengths-requires
has_lengths-requires c = omega (arith, c.parity_bits-bits.ensures, offered-bits _ (sym c.is_offered.ensures ∙ c.if-not-is_offered.false))

pub returns-then-not-has_lengths : goal.returns-then-not-has_lengths
unfolding requested
returns-then-not-has_lengths c = let offered = sym c.is_offered.ensures ∙ c.if-not-is_offered.false in
    let fits = measured _ _ _ c.parity_bits-bits.ensures c.has_lengths.ensures c.if-not-has_lengths.true in
    rw (offered, fits)

pub returns : goal.returns
unfolding requested
returns c = let offered = sym c.is_offered.ensures ∙ c.if-not-is_offered.false in
    let fits = measured _ _ _ c.parity_bits-bits.ensures c.has_lengths.ensures c.if-not-has_lengths.false in
    rw (offered, fits) (ap Ok c.parity_bits-bits.ensures)

use mathlib.Core.Path.{◌≡◌, sym, ap, ◌∙◌}
use native.Mathlib.Omega.{arith}
use Rattle.std.specs.Prelude.{Err}
use Rattle.std.proofs.Common.{rules}
use Rattle.register_fragments.specs.Fragments.{fragments_of}
use Rattle.fragments.specs.Calls.{export_of}
use Rattle.fragments.proofs.Replies.{offered-bits, fitting-lengths, requested-right, requested-ends, ends-high, ends-done, tested, few_bytes}
use Rattle.fragments.proofs.export_fragments.Goals as goal

pub returns-in_err-bits : goal.returns-in_err-bits
unfolding export_of
returns-in_err-bits c = let e : c.from_residual.result ≡ Err c.in_err-bits.field-0.0 = search rules in
    rw e (requested-ends _ _ _ _ _ _ _ (search rules))

pub from_bytes-state-requires : goal.from_bytes-state-requires
from_bytes-state-requires c = let r = requested-right _ _ _ _ (sym c.in_ok-bits.was ∙ c.requested.ensures) in
    omega (arith, few_bytes _ _ _ r.level r.lengths)

pub is_below-requires : goal.is_below-requires
is_below-requires c = let r = requested-right _ _ _ _ (sym c.in_ok-bits.was ∙ c.requested.ensures) in
    omega (arith, r.number, offered-bits _ r.level)

pub returns-then-not-is_below : goal.returns-then-not-is_below
unfolding export_of
returns-then-not-is_below c = let r = requested-right _ _ _ _ (sym c.in_ok-bits.was ∙ c.requested.ensures) in
    ends-high _ _ _ _ _ _ r.level r.lengths (tested _ _ c.from_bytes-state.ensures r.number c.is_below.ensures c.if-not-is_below.true)

pub to_fragments-requires : goal.to_fragments-requires
to_fragments-requires c = let r = requested-right _ _ _ _ (sym c.in_ok-bits.was ∙ c.requested.ensures) in
    (fitting-lengths _ _ _ r.lengths).1

pub returns : goal.returns
unfolding export_of
returns c = let r = requested-right _ _ _ _ (sym c.in_ok-bits.was ∙ c.requested.ensures) in
    ends-done _ _ _ _ _ _ r.level r.lengths (tested _ _ c.from_bytes-state.ensures r.number c.is_below.ensures c.if-not-is_below.false)
    (c.to_fragments.ensures ∙ ap fragments_of c.from_bytes-state.ensures)

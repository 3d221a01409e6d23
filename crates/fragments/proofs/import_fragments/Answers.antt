use mathlib.Core.Path.{◌≡◌, sym, ap, ◌∙◌}
use native.Mathlib.Omega.{arith}
use Rattle.std.specs.Prelude.{Err}
use Rattle.std.proofs.Common.{rules}
use Rattle.remainder.specs.Remainder.{bytes_of}
use Rattle.fragments.specs.Calls.{import_of}
use Rattle.fragments.proofs.Replies.{offered-bits, fitting-lengths, requested-right, requested-ends, ends-high, ends-done, tested, few_bytes}
use Rattle.fragments.proofs.import_fragments.Goals as goal

pub returns-in_err-bits : goal.returns-in_err-bits
unfolding import_of
returns-in_err-bits c = let e : c.from_residual.result ≡ Err c.in_err-bits.field-0.0 = search rules in
    rw e (requested-ends _ _ _ _ _ _ _ (search rules))

pub from_fragments-held-requires : goal.from_fragments-held-requires
from_fragments-held-requires c = let r = requested-right _ _ _ _ (sym c.in_ok-bits.was ∙ c.requested.ensures) in
    (fitting-lengths _ _ _ r.lengths).1

pub is_below-requires : goal.is_below-requires
is_below-requires c = let r = requested-right _ _ _ _ (sym c.in_ok-bits.was ∙ c.requested.ensures) in
    omega (arith, r.number, offered-bits _ r.level)

pub returns-then-not-is_below : goal.returns-then-not-is_below
unfolding import_of
returns-then-not-is_below c = let r = requested-right _ _ _ _ (sym c.in_ok-bits.was ∙ c.requested.ensures) in
    ends-high _ _ _ _ _ _ r.level r.lengths (tested _ _ c.from_fragments-held.ensures r.number c.is_below.ensures c.if-not-is_below.true)

pub to_bytes-requires : goal.to_bytes-requires
to_bytes-requires c = let r = requested-right _ _ _ _ (sym c.in_ok-bits.was ∙ c.requested.ensures) in
    omega (arith, few_bytes _ _ _ r.level r.lengths)

pub returns : goal.returns
unfolding import_of
returns c = let r = requested-right _ _ _ _ (sym c.in_ok-bits.was ∙ c.requested.ensures) in
    ends-done _ _ _ _ _ _ r.level r.lengths (tested _ _ c.from_fragments-held.ensures r.number c.is_below.ensures c.if-not-is_below.false)
    (c.to_bytes.ensures ∙ ap (bytes_of _) c.from_fragments-held.ensures)

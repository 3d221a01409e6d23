use mathlib.Core.Path.{sym, ◌∙◌}
use mathlib.Core.List.{[]}
use Prim.Native.Nat.{◌^◌}
use native.Mathlib.Omega.{arith}
use borrow.Author.Tests.{eqb-true, ltb-true}
use Rattle.code.specs.Register.{register}
use Rattle.remainder.proofs.Fold.{parity-bits-below}
use Rattle.bch.proofs.Replies.{remainder-test, remainder-high, remainder-zero, remainder-listed}
use Rattle.bch.proofs.request.locate_remainder.Goals as goal

pub is_below-requires : goal.is_below-requires
is_below-requires c = omega (arith, c.parity_bits-bits.ensures, parity-bits-below c.args.f c.args.t c.requires.0)

pub returns-then-not-is_below : goal.returns-then-not-is_below
returns-then-not-is_below c = remainder-high _ _ _ _ _ (remainder-test c.args.f c.args.t c.args.n _ [] c.from_bytes-state.ensures c.parity_bits-bits.ensures c.is_below.ensures c.if-not-is_below.true)

pub returns-then-is_zero : goal.returns-then-is_zero
returns-then-is_zero c = let z = eqb-true _ _ (sym c.is_zero.ensures ∙ c.if-is_zero.true) in
    remainder-zero _ _ _ _ _
    (record { short = λ l. c.requires.2; level = c.requires.0 })
    (remainder-test c.args.f c.args.t c.args.n _ [] c.from_bytes-state.ensures c.parity_bits-bits.ensures c.is_below.ensures c.if-not-is_below.false)
    (sym c.from_bytes-state.ensures ∙ z)

pub locate_by_tables-requires : goal.locate_by_tables-requires
locate_by_tables-requires c = let low = ltb-true (register c.from_bytes-state.result.words) (2 ^ c.parity_bits-bits.result) (sym c.is_below.ensures ∙ c.if-not-is_below.false) in
    (record { fits = record { short = λ l. c.requires.2; level = c.requires.0 }; room = c.requires.1; low = rw c.parity_bits-bits.ensures at low }, c.requires.4)

pub returns : goal.returns
returns c = remainder-listed _ _ _ _ _
    (remainder-test c.args.f c.args.t c.args.n _ [] c.from_bytes-state.ensures c.parity_bits-bits.ensures c.is_below.ensures c.if-not-is_below.false)
    (rw c.from_bytes-state.ensures at c.locate_by_tables.ensures)

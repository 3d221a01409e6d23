use Rattle.text.proofs.Numbers.{is-hex-long, number-empty, number-hex, number-decimal}
use mathlib.Core.Path.{sym, ◌∙◌}
use native.Mathlib.Omega.{arith}
use Rattle.text.proofs.digits.parse_number.Goals as goal

pub returns-then-is_empty : goal.returns-then-is_empty
returns-then-is_empty c = number-empty _ (sym c.if-is_empty.true ∙ c.is_empty.ensures)

pub slice_bounds-digits-count : goal.slice_bounds-digits-count
slice_bounds-digits-count c = let h = is-hex-long _ (sym c.if-is_hex.true ∙ c.is_hex.ensures) in omega arith

pub slice_bounds-digits-start : goal.slice_bounds-digits-start
slice_bounds-digits-start c = let h = is-hex-long _ (sym c.if-is_hex.true ∙ c.is_hex.ensures) in omega arith

pub returns-then-is_hex : goal.returns-then-is_hex
returns-then-is_hex c = c.digits.ensures ∙ number-hex _ (sym c.if-is_empty.false ∙ c.is_empty.ensures) (sym c.if-is_hex.true ∙ c.is_hex.ensures)

pub returns : goal.returns
returns c = c.digits-2.ensures ∙ number-decimal _ (sym c.if-is_empty.false ∙ c.is_empty.ensures) (sym c.if-is_hex.false ∙ c.is_hex.ensures)

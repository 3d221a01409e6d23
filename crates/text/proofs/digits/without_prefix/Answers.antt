use mathlib.Core.Path.{sym, ◌∙◌}
use native.Mathlib.Omega.{arith}
use Rattle.text.proofs.Numbers.{is-hex-long, prefix-dropped, prefix-missing}
use Rattle.text.proofs.digits.without_prefix.Goals as goal

pub slice_bounds-result-count : goal.slice_bounds-result-count
slice_bounds-result-count c = let h = is-hex-long _ (sym c.if-is_hex.true ∙ c.is_hex.ensures) in omega arith

pub slice_bounds-result-start : goal.slice_bounds-result-start
slice_bounds-result-start c = let h = is-hex-long _ (sym c.if-is_hex.true ∙ c.is_hex.ensures) in omega arith

pub returns-then-is_hex : goal.returns-then-is_hex
returns-then-is_hex c = prefix-dropped _ (sym c.if-is_hex.true ∙ c.is_hex.ensures)

pub returns : goal.returns
returns c = prefix-missing _ (sym c.if-is_hex.false ∙ c.is_hex.ensures)

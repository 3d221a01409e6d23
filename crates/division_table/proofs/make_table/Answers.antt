use mathlib.Core.Path.{◌∙◌, ap}
use native.Mathlib.Omega.{arith}
use borrow.Author.Rules.{rules}
use Rattle.division_table.specs.Table.{width}
use Rattle.division_table.proofs.Level.{level-wide, table-made}
use Rattle.division_table.proofs.make_table.Goals as goal

pub returns-then-t-eq0 : goal.returns-then-t-eq0
returns-then-t-eq0 c = record { level = omega arith; rests = λ h. absurd (omega arith); generates = λ h. absurd (omega arith) }

pub fill-requires : goal.fill-requires
fill-requires c = let w = level-wide c.args.f c.args.t (omega arith) c.parity_bits.ensures c.row_words-used.ensures in
    (w, omega arith)

pub returns : goal.returns
returns c = table-made c.args.f c.args.t (omega arith) (c.row_words-used.ensures ∙ ap width c.parity_bits.ensures) c.divisor_row-divisor.result (λ k. search rules)
    c.divisor_row-divisor.ensures c.fill.ensures

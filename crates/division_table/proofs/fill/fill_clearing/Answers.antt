use Prim.Native.Nat.{◌+◌, ◌^◌, ◌*◌}
use mathlib.Core.Path.{◌∙◌}
use borrow.Author.Rules.{rules}
use Rattle.code.specs.Register.{low}
use Rattle.remainder.proofs.Words.{low-lt}
use Rattle.division_table.proofs.Filling.{wide-two, divisor-monic, size-kept, first-room, sums-room, sums-room-odd, even-last, even-apart, clearing-rows, clearing-made}
use Rattle.division_table.proofs.fill.fill_clearing.Goals as goal

pub clear_row-requires : goal.clear_row-requires
clear_row-requires c = let p = c.requires in
    (p.2, first-room _ p.2 p.3)

pub even_powers-requires : goal.even_powers-requires
even_powers-requires c = let p = c.requires in
    (p.0, p.1, p.2, size-kept c.clear_row.auto.rows p.3)

pub odd_powers-requires : goal.odd_powers-requires
odd_powers-requires c = let p = c.requires in
    (p.2, size-kept c.even_powers.auto.table (size-kept c.clear_row.auto.rows p.3))

pub fill_sums-requires : goal.fill_sums-requires
fill_sums-requires c = let p = c.requires in
    sums-room _ p.2 (size-kept c.odd_powers.auto.table (size-kept c.even_powers.auto.table (size-kept c.clear_row.auto.rows p.3)))

pub fill_sums-requires-2 : goal.fill_sums-requires-2
fill_sums-requires-2 c = let p = c.requires in
    sums-room-odd _ p.2 (size-kept c.fill_sums.auto.table (size-kept c.odd_powers.auto.table (size-kept c.even_powers.auto.table (size-kept c.clear_row.auto.rows p.3))))

pub shape_of-table : goal.shape_of-table
shape_of-table c = c.fill_sums-2.auto.table ∙ c.fill_sums.auto.table ∙ c.odd_powers.auto.table ∙ c.even_powers.auto.table ∙ c.clear_row.auto.rows

pub returns : goal.returns
returns c = let u = c.args.used in
    let n = c.args.n in
    let rest = low c.args.divisor u in
    let monic = divisor-monic u rest (low-lt c.args.divisor (λ j. search rules) u) in
    clearing-made n (64 * u) (2 ^ (64 * u) + rest)
    (clearing-rows n u (2 ^ (64 * u) + rest) 256 272 (wide-two c.requires.0) c.requires.1 monic even-last even-apart c.clear_row.ensures.0 c.even_powers.ensures c.odd_powers.ensures
    c.fill_sums.ensures c.fill_sums-2.ensures)

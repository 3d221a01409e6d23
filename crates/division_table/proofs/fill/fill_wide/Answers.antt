use mathlib.Core.Path.{◌∙◌}
use borrow.Author.Rules.{rules}
use Rattle.division_table.proofs.Filling.{wide-two, wide-most, words-room, size-kept, higher-below, sums-room-bytes, filled-made}
use Rattle.division_table.proofs.fill.fill_wide.Goals as goal

pub fill_clearing-requires : goal.fill_clearing-requires
fill_clearing-requires g c = let p = c.requires in
    let room = words-room p.0 p.1 in
    (p.0, room.0, room.1, p.2)

pub word_higher-higher-requires : goal.word_higher-higher-requires
word_higher-higher-requires g c = wide-most c.requires.0

pub reduce-row-requires : goal.reduce-row-requires
reduce-row-requires g c = let p = c.requires in
    (wide-two p.0, wide-most p.0, size-kept c.fill_clearing.auto.table p.2, higher-below g.row.USED c.args.divisor (λ j. search rules) c.word_higher-higher.ensures)

pub byte_powers-requires : goal.byte_powers-requires
byte_powers-requires g c = let p = c.requires in
    ((words-room p.0 p.1).1, size-kept c.fill_clearing.auto.table p.2)

pub fill_sums-requires : goal.fill_sums-requires
fill_sums-requires g c = let p = c.requires in
    sums-room-bytes g.row.N (words-room p.0 p.1).1 (size-kept c.byte_powers.auto.table (size-kept c.fill_clearing.auto.table p.2))

pub returns : goal.returns
returns g c = let p = c.requires in
    filled-made g.row.USED g.row.N p.0 p.1 (words-room p.0 p.1).0 c.args.divisor (λ j. search rules) c.fill_clearing.ensures c.word_higher-higher.ensures c.reduce-row.ensures
    c.byte_powers.ensures c.fill_sums.ensures (size-kept (c.fill_sums.auto.table ∙ c.byte_powers.auto.table ∙ c.fill_clearing.auto.table) p.2)

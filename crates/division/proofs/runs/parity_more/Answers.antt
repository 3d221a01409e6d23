use native.Mathlib.Omega.{arith}
use Rattle.division_table.proofs.Level.{level-words, level-room}
use Rattle.division_steps.proofs.Level.{up-below, up_fits, up-divided, table-rests, table-divides}
use Rattle.division.proofs.runs.parity_more.Goals as goal

pub overflow_mul-gap : goal.overflow_mul-gap
overflow_mul-gap c = let l = level-words c.args.f c.args.t c.requires.0.level c.parity_bits-d.ensures c.row_words-used.ensures in
    record { fits = omega arith }

pub overflow_sub-gap : goal.overflow_sub-gap
overflow_sub-gap c = level-room c.args.f c.args.t c.requires.0.level c.parity_bits-d.ensures c.row_words-used.ensures

pub feed_run-after-requires : goal.feed_run-after-requires
feed_run-after-requires c = let ed = c.parity_bits-d.ensures in
    let eu = c.row_words-used.ensures in
    (table-rests c.args.f c.args.t c.requires.0 c.requires.1 ed eu, up-below c.args.f c.args.t c.requires.1 c.requires.0.level ed eu _ c.requires.2 c.raised-before.ensures, c.requires.3)

pub lowered-requires : goal.lowered-requires
lowered-requires c = let l = level-words c.args.f c.args.t c.requires.0.level c.parity_bits-d.ensures c.row_words-used.ensures in
    omega arith

pub returns : goal.returns
returns c = let f = c.args.f in
    let t = c.args.t in
    let ed = c.parity_bits-d.ensures in
    let eu = c.row_words-used.ensures in
    up-divided f t c.requires.1 c.requires.0.level ed eu _ c.requires.2 _ (table-divides f t c.requires.0 c.requires.1 ed eu) (up_fits f t c.requires.1 c.requires.0.level ed eu _ c.requires.2 c.raised-before.ensures) c.feed_run-after.ensures
    c.lowered.ensures

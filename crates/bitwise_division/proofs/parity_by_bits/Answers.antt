use Prim.Native.Nat.{◌≤◌}
use native.Mathlib.Omega.{arith}
use Rattle.division_table.proofs.Level.{level-wide, level-words, level-room}
use Rattle.division_steps.proofs.Level.{up-below, up_fits, up-divided, divisor-is}
use Rattle.bitwise_division.proofs.parity_by_bits.Goals as goal

pub overflow_mul-gap : goal.overflow_mul-gap
overflow_mul-gap c = let w = level-words c.args.f c.args.t (omega arith) c.parity_bits-d.ensures c.row_words-used.ensures in
    record { fits = omega arith }

pub overflow_sub-gap : goal.overflow_sub-gap
overflow_sub-gap c = level-room c.args.f c.args.t (omega arith) c.parity_bits-d.ensures c.row_words-used.ensures

pub bits_taken_fixed-after-requires : goal.bits_taken_fixed-after-requires
bits_taken_fixed-after-requires c = let ed = c.parity_bits-d.ensures in
    let eu = c.row_words-used.ensures in
    (level-wide c.args.f c.args.t (omega arith) ed eu, up-below c.args.f c.args.t c.requires.1 (omega arith) ed eu _ c.requires.3 c.raised-before.ensures, c.requires.4)

pub lowered-requires : goal.lowered-requires
lowered-requires c = let w = level-words c.args.f c.args.t (omega arith) c.parity_bits-d.ensures c.row_words-used.ensures in
    omega arith

pub returns : goal.returns
returns c = let f = c.args.f in
    let t = c.args.t in
    let most : t ≤ 62 = omega arith in
    let ed = c.parity_bits-d.ensures in
    let eu = c.row_words-used.ensures in
    up-divided f t c.requires.1 most ed eu _ c.requires.3 _ (divisor-is f t ed eu _ c.divisor_row-row.ensures)
    (up_fits f t c.requires.1 most ed eu _ c.requires.3 c.raised-before.ensures) c.bits_taken_fixed-after.ensures c.lowered.ensures

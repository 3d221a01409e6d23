use mathlib.Core.Path.{◌≡◌, ◌∙◌}
use Prim.Native.Nat.{◌*◌, ◌<◌, ◌^◌}
use native.Mathlib.Omega.{arith}
use lib.Pow.{pow_pos}
use Rattle.bits.specs.Bits.{bit_of, run}
use Rattle.field.specs.Field.{degree}
use Rattle.code.specs.Register.{register}
use Rattle.remainder.specs.Parity.{parity_from}
use Rattle.division_table.specs.Table.{divisor_of}
use Rattle.division_table.proofs.Level.{level-words, level-room}
use Rattle.division_steps.proofs.Level.{up-below, up_fits, up-divided, table-rests, table-divides, message-parity}
use Rattle.division.proofs.runs.two_parities.Goals as goal

pub overflow_sub-gap : goal.overflow_sub-gap
overflow_sub-gap c = level-room c.args.f c.args.t c.requires.0.level c.parity_bits-d.ensures c.row_words-used.ensures

pub feed_two_runs-pair-requires : goal.feed_two_runs-pair-requires
feed_two_runs-pair-requires c = let ed = c.parity_bits-d.ensures in
    let eu = c.row_words-used.ensures in
    let e = c.if-used-ne4.false in
    record {
      rests = (
        rw e at (table-rests c.args.f c.args.t c.requires.0 c.requires.1 ed eu),
        rw e at (up-below c.args.f c.args.t c.requires.1 c.requires.0.level ed eu _ (rw c.zero.ensures (pow_pos _)) c.raised-start.ensures),
      );
      n_bound = (c.requires.2, c.requires.3);
    }

pub lowered-first-requires : goal.lowered-first-requires
lowered-first-requires c = let l = level-words c.args.f c.args.t c.requires.0.level c.parity_bits-d.ensures c.row_words-used.ensures in
    omega arith

pub lowered-second-requires : goal.lowered-second-requires
lowered-second-requires c = let l = level-words c.args.f c.args.t c.requires.0.level c.parity_bits-d.ensures c.row_words-used.ensures in
    omega arith

pub returns : goal.returns
returns c = let f = c.args.f in
    let t = c.args.t in
    let ed = c.parity_bits-d.ensures in
    let eu = c.row_words-used.ensures in
    let e = c.if-used-ne4.false in
    let z = c.zero.ensures in
    let n = register c.zero.result.words in
    let small : n < 2 ^ (degree f * t) = rw z (pow_pos _) in
    let u = c.row_words-used.result in
    let g = divisor_of u c.args.table.now in
    let v = register c.raised-start.result.words in
    let p = c.feed_two_runs-pair.result in
    let first : register p.first.words ≡ parity_from (64 * u) g v (run (bit_of c.args.bytes.now) c.args.at c.args.n) = c.feed_two_runs-pair.ensures.words_value ∙ rw e in
    let second : register p.second.words ≡ parity_from (64 * u) g v (run (bit_of c.args.bytes.now) c.args.to c.args.n) = c.feed_two_runs-pair.ensures.words_value_2 ∙ rw e in
    let d = table-divides f t c.requires.0 c.requires.1 ed eu in
    let w = up_fits f t c.requires.1 c.requires.0.level ed eu n small c.raised-start.ensures in
    record { words_value = message-parity f t c.requires.1 _ z (up-divided f t c.requires.1 c.requires.0.level ed eu n small _ d w first c.lowered-first.ensures); words_value_2 = message-parity f t c.requires.1 _ z (up-divided f t c.requires.1 c.requires.0.level ed eu n small _ d w second c.lowered-second.ensures) }

use native.Mathlib.Omega.{arith}
use borrow.Author.Rules.{rules}
use Rattle.remainder.proofs.Fold.{parity-bits-below}
use Rattle.syndrome_lanes.proofs.Rows.{lanes_start, lanes-below, lanes-digit, lanes-done}
use Rattle.syndrome_lanes.proofs.lane_values.Goals as goal

pub overflow_add-n : goal.overflow_add-n
overflow_add-n c = omega (arith, c.parity_bits-d.ensures, parity-bits-below c.args.f c.args.t c.requires.t_bound.0)

pub loop-i-init : goal.loop-i-init
loop-i-init c = (search rules, (λ k. search rules), lanes_start _ _ _)

pub offset_bounds-words-at : goal.offset_bounds-words-at
offset_bounds-words-at c = let d = c.parity_bits-d.ensures in
    let most = parity-bits-below c.args.f c.args.t c.requires.t_bound.0 in
    omega (arith, d, most)

pub bounds-words-at : goal.bounds-words-at
bounds-words-at c = let d = c.parity_bits-d.ensures in
    let most = parity-bits-below c.args.f c.args.t c.requires.t_bound.0 in
    omega (arith, d, most)

pub raise-requires : goal.raise-requires
raise-requires c = record { tables = c.requires.tables.0; t_bound = (c.requires.t_bound.0, c.loop-i.invariant.2.full, lanes-below _ _ c.loop-i.invariant.2) }

pub add_digit_fixed-requires : goal.add_digit_fixed-requires
add_digit_fixed-requires c = (c.raise.ensures.full, c.requires.t_bound.0)

pub loop-i-preserved : goal.loop-i-preserved
loop-i-preserved c = let d = c.parity_bits-d.ensures in
    let most = parity-bits-below c.args.f c.args.t c.requires.t_bound.0 in
    (c.loop-i.invariant.0, c.loop-i.invariant.1, lanes-digit _ _ _ _ c.loop-i.i c.loop-i.invariant.1 (omega arith) (omega (arith, d, most, c.loop-i.invariant.0)) c.requires.tables.1 c.loop-i.invariant.2 c.raise.ensures c.add_digit_fixed.ensures)

pub returns : goal.returns
returns c = let d = c.parity_bits-d.ensures in
    let most = parity-bits-below c.args.f c.args.t c.requires.t_bound.0 in
    lanes-done _ _ c.args.state.words _ c.loop-i.i _ (omega arith) c.requires.t_bound.1 (omega (arith, d)) c.loop-i.invariant.2

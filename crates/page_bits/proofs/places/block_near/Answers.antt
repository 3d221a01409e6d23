use Prim.Native.Nat.{◌-◌}
use native.Mathlib.Nat.{div-le_self}
use native.Mathlib.Omega.{arith}
use Rattle.page_bits.proofs.Placing.{first_some, near_first, near-later, near_none}
use Rattle.page_bits.proofs.places.block_near.Goals as goal

pub nonzero_div-result : goal.nonzero_div-result
nonzero_div-result c = omega (arith, first_some _ _ c.block_start-ahead.ensures.eq c.pitch.ensures.eq c.if-at-ahead.true)

pub returns-then-at-ahead : goal.returns-then-at-ahead
returns-then-at-ahead c = let a = c.args in
    record { eq = near_first _ _ c.block_start-ahead.ensures.eq c.pitch.ensures.eq c.if-at-ahead.true; small = omega (arith, div-le_self a.position c.pitch.result) }

pub returns-then-step-eq0 : goal.returns-then-step-eq0
returns-then-step-eq0 c = record { eq = near_none _ _ c.block_start-ahead.ensures.eq c.pitch-step.ensures.eq (omega arith) c.if-step-eq0.true; small = omega arith }

pub overflow_add-result : goal.overflow_add-result
overflow_add-result c = let a = c.args in
    omega (arith, div-le_self (a.position - c.block_start-ahead.result) c.pitch-step.result)

pub returns : goal.returns
returns c = let a = c.args in
    record { eq = near-later _ _ c.block_start-ahead.ensures.eq c.pitch-step.ensures.eq (omega arith) (omega arith); small = omega (arith, div-le_self (a.position - c.block_start-ahead.result) c.pitch-step.result) }

use native.Mathlib.Nat.{pos_of_ne-zero}
use native.Mathlib.Omega.{arith}
use Rattle.series.proofs.Element.{small-elements}
use Rattle.key_equation.proofs.KeyEquation.{step-divisor, step-terms, step_kept, step-patched, step-grown}
use Rattle.key_equation.proofs.step.Goals as goal

pub discrepancy-d-requires : goal.discrepancy-d-requires
discrepancy-d-requires c = let p = c.requires in
    record { tables = p.tables; len_le_k = (p.holds.state.state.fits, omega arith); elements = (p.h_lt_t.2.elements, small-elements _ p.holds.small-c) }

pub returns-then-d-eq0 : goal.returns-then-d-eq0
returns-then-d-eq0 c = let p = c.requires in
    step_kept _ p.h_lt_t.2 p.h_lt_t.0 p.holds c.discrepancy-d.ensures c.if-d-eq0.true

pub quotient-e-requires : goal.quotient-e-requires
quotient-e-requires c = let p = c.requires in
    let b = step-divisor _ p.holds in
    record { tables = p.tables; d_nonzero = (pos_of_ne-zero c.if-d-eq0.false, c.discrepancy-d.ensures.low, b.0, b.1) }

pub keeps_length-requires : goal.keeps_length-requires
keeps_length-requires c = let p = c.requires in
    (p.holds.state.state.fits, omega arith)

pub mix-requires : goal.mix-requires
mix-requires c = let p = c.requires in
    let h = p.holds in
    record { tables = p.tables; elements = (small-elements _ h.small-c, small-elements _ h.small-u); e_bound = (c.quotient-e.ensures.0, omega (arith, h.room), step-terms _ h) }

pub returns-then-keeps_length : goal.returns-then-keeps_length
returns-then-keeps_length c = let p = c.requires in
    step-patched _ p.h_lt_t.2 p.h_lt_t.0 p.holds c.discrepancy-d.ensures _ c.quotient-e.ensures.1 c.mix.ensures (c.keeps_length.ensures.0 c.if-keeps_length.true)

pub mix-requires-2 : goal.mix-requires-2
mix-requires-2 c = let p = c.requires in
    let h = p.holds in
    record { tables = p.tables; elements = (small-elements _ h.small-c, small-elements _ h.small-u); e_bound = (c.quotient-e.ensures.0, omega (arith, h.room), step-terms _ h) }

pub grown_length-grown-requires : goal.grown_length-grown-requires
grown_length-grown-requires c = let p = c.requires in
    (p.holds.state.state.fits, omega arith)

pub returns : goal.returns
returns c = let p = c.requires in
    rw c.grown_length-grown.ensures (
    step-grown _ p.h_lt_t.2 p.h_lt_t.0 p.holds c.discrepancy-d.ensures _ c.quotient-e.ensures.1 c.mix-2.ensures
    c.if-d-eq0.false (c.keeps_length.ensures.1 c.if-keeps_length.false))

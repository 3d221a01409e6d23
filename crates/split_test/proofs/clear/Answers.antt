use native.Mathlib.Nat.{pos_of_ne-zero}
use native.Mathlib.Omega.{arith}
use Rattle.split_test.proofs.Splitting.{cleared-none, cleared-mix}
use Rattle.split_test.proofs.clear.Goals as goal

pub returns-then-q-eq0 : goal.returns-then-q-eq0
returns-then-q-eq0 c = let p = c.requires in cleared-none _ _ _ p.len_bound.2 c.if-q-eq0.true

pub quotient-e-requires : goal.quotient-e-requires
quotient-e-requires c = let p = c.requires in
    record { tables = p.tables; d_nonzero = (pos_of_ne-zero c.if-q-eq0.false, p.len_bound.2.small _, p.len_bound.1.start, p.len_bound.1.elements.small 0) }

pub mix-requires : goal.mix-requires
mix-requires c = let p = c.requires in
    record { tables = p.tables; elements = (p.len_bound.2, p.len_bound.1.elements); e_bound = (c.quotient-e.ensures.0, omega arith, λ j l. p.len_bound.1.ends j (omega arith)) }

pub returns : goal.returns
returns c = let p = c.requires in
    cleared-mix _ _ _ p.len_bound.1 p.len_bound.2 c.quotient-e.ensures.1 c.mix.ensures

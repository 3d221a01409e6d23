use native.Mathlib.Omega.{arith}
use Rattle.piece_parity.specs.Carried.{bits_of}
use Rattle.piece_parity.proofs.Carrying.{carried_none, carried-more}
use Rattle.piece_parity.proofs.carried.Goals as goal

pub returns-then-level-eq0 : goal.returns-then-level-eq0
returns-then-level-eq0 c = carried_none _ _ _ _ (omega arith) c.requires.1

pub overflow_mul-n : goal.overflow_mul-n
overflow_mul-n c = let l = c.requires.2 (omega arith) in
    record { fits = omega arith }

pub parity_by_bits-requires : goal.parity_by_bits-requires
parity_by_bits-requires c = let l = c.requires.2 (omega arith) in
    (omega arith, omega arith, omega arith, c.requires.1, omega arith)

pub returns-then-piece-lt36 : goal.returns-then-piece-lt36
unfolding bits_of
returns-then-piece-lt36 c = carried-more _ _ (omega arith) _ _ c.parity_by_bits.ensures

pub parity_by_table-requires : goal.parity_by_table-requires
parity_by_table-requires c = (omega arith, omega arith, omega arith, c.requires.1)

pub returns : goal.returns
unfolding bits_of
returns c = carried-more _ _ (omega arith) _ _ c.parity_by_table.ensures

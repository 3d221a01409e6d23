use native.Mathlib.Omega.{arith}
use Rattle.mark.proofs.Runs.{near-less, near-place}
use Rattle.page_runs.proofs.Copies.{word-before, word-parts}
use Rattle.page_runs.proofs.read.copy_word.Goals as goal

pub returns-then-first-n : goal.returns-then-first-n
returns-then-first-n c = let a = c.args in
    word-before a.mark a.page.now a.at a.n c.near-first.ensures _ c.if-first-n.true c.copy_bits.ensures

pub overflow_add-at : goal.overflow_add-at
overflow_add-at c = let l = near-less _ _ _ c.near-first.ensures c.if-first-n.false in record { fits = omega arith }

pub place-beyond-requires : goal.place-beyond-requires
place-beyond-requires c = let l = near-less _ _ _ c.near-first.ensures c.if-first-n.false in omega arith

pub copy_bits-requires-2 : goal.copy_bits-requires-2
copy_bits-requires-2 c = let l = near-less _ _ _ c.near-first.ensures c.if-first-n.false in
    (record { ends = omega arith; fits = omega arith }, record { ends = omega arith; fits = omega arith })

pub overflow_sub-n : goal.overflow_sub-n
overflow_sub-n c = let l = near-less _ _ _ c.near-first.ensures c.if-first-n.false in
    omega arith

pub copy_bits-requires-3 : goal.copy_bits-requires-3
copy_bits-requires-3 c = let l = near-less _ _ _ c.near-first.ensures c.if-first-n.false in
    let i = near-place _ _ _ c.near-first.ensures c.if-first-n.false c.place-beyond.ensures in
    (record { ends = omega arith; fits = omega arith }, record { ends = omega arith; fits = omega arith })

pub returns : goal.returns
returns c = let a = c.args in
    word-parts a.mark a.page.now a.at a.n c.near-first.ensures _ c.if-first-n.false c.place-beyond.ensures
    c.copy_bits-2.ensures c.copy_bits-3.ensures

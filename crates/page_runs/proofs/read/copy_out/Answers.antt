use native.Mathlib.Omega.{arith}
use Rattle.mark.proofs.Runs.{near-less, near-place}
use Rattle.page_runs.proofs.Copies.{payload-before, payload-parts}
use Rattle.page_runs.proofs.read.copy_out.Goals as goal

pub returns-then-first-n : goal.returns-then-first-n
returns-then-first-n c = let a = c.args in
    payload-before a.mark a.page.now a.at a.n c.near-first.ensures _ _ _ c.if-first-n.true c.copy_to.ensures

pub overflow_add-at : goal.overflow_add-at
overflow_add-at c = let l = near-less _ _ _ c.near-first.ensures c.if-first-n.false in record { fits = omega arith }

pub place-beyond-requires : goal.place-beyond-requires
place-beyond-requires c = let l = near-less _ _ _ c.near-first.ensures c.if-first-n.false in omega arith

pub copy_to-requires-2 : goal.copy_to-requires-2
copy_to-requires-2 c = let l = near-less _ _ _ c.near-first.ensures c.if-first-n.false in
    record { inside = (record { ends = omega arith; fits = omega arith }, c.requires.in_stream.1); n_bound = omega arith }

pub overflow_add-position : goal.overflow_add-position
overflow_add-position c = let l = near-less _ _ _ c.near-first.ensures c.if-first-n.false in
    record { fits = omega arith }

pub overflow_sub-n : goal.overflow_sub-n
overflow_sub-n c = let l = near-less _ _ _ c.near-first.ensures c.if-first-n.false in
    omega arith

pub copy_to-requires-3 : goal.copy_to-requires-3
copy_to-requires-3 c = let l = near-less _ _ _ c.near-first.ensures c.if-first-n.false in
    let i = near-place _ _ _ c.near-first.ensures c.if-first-n.false c.place-beyond.ensures in
    record { inside = (record { ends = omega arith; fits = omega arith }, record { metadata = omega arith; «data» = omega arith }); n_bound = omega arith }

pub returns : goal.returns
returns c = let a = c.args in
    payload-parts a.mark a.page.now a.at a.n c.near-first.ensures _ _ _ c.if-first-n.false c.place-beyond.ensures
    c.copy_to-2.ensures c.copy_to-3.ensures

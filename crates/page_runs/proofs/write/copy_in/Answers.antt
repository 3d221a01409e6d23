use native.Mathlib.Omega.{arith}
use Rattle.mark.proofs.Runs.{near-less, near-place}
use Rattle.page_runs.proofs.Puts.{put-before-run, put-parts-run}
use Rattle.page_runs.proofs.write.copy_in.Goals as goal

pub returns-then-first-n : goal.returns-then-first-n
returns-then-first-n c = let a = c.args in
    put-before-run a.mark a.page.now a.position a.n c.near-first.ensures _ _ c.if-first-n.true c.copy_from.ensures

pub overflow_add-position : goal.overflow_add-position
overflow_add-position c = let l = near-less _ _ _ c.near-first.ensures c.if-first-n.false in record { fits = omega arith }

pub place-beyond-requires : goal.place-beyond-requires
place-beyond-requires c = let l = near-less _ _ _ c.near-first.ensures c.if-first-n.false in omega arith

pub copy_from-requires-2 : goal.copy_from-requires-2
copy_from-requires-2 c = let l = near-less _ _ _ c.near-first.ensures c.if-first-n.false in
    (c.requires.0, record { ends = omega arith; fits = omega arith }, record { ends = omega arith; fits = omega arith })

pub overflow_add-at : goal.overflow_add-at
overflow_add-at c = let l = near-less _ _ _ c.near-first.ensures c.if-first-n.false in
    record { fits = omega arith }

pub overflow_sub-n : goal.overflow_sub-n
overflow_sub-n c = let l = near-less _ _ _ c.near-first.ensures c.if-first-n.false in
    omega arith

pub copy_from-requires-3 : goal.copy_from-requires-3
copy_from-requires-3 c = let l = near-less _ _ _ c.near-first.ensures c.if-first-n.false in
    let i = near-place _ _ _ c.near-first.ensures c.if-first-n.false c.place-beyond.ensures in
    (c.requires.0, record { ends = omega arith; fits = omega arith }, record { ends = omega arith; fits = omega arith })

pub returns : goal.returns
returns c = let a = c.args in
    put-parts-run a.mark a.page.now a.position a.n c.near-first.ensures c.if-first-n.false c.place-beyond.ensures _ _
    c.copy_from-2.ensures c.copy_from-3.ensures

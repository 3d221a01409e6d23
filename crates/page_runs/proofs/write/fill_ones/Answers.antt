use native.Mathlib.Omega.{arith}
use Rattle.mark.proofs.Runs.{near-less, near-place}
use Rattle.page_runs.proofs.Puts.{put-before-ones, put-parts-ones}
use Rattle.page_runs.proofs.write.fill_ones.Goals as goal

pub returns-then-first-n : goal.returns-then-first-n
returns-then-first-n c = let a = c.args in
    put-before-ones a.mark a.page.now a.position a.n c.near-first.ensures c.if-first-n.true c.fill_ones.ensures

pub overflow_add-position : goal.overflow_add-position
overflow_add-position c = let l = near-less _ _ _ c.near-first.ensures c.if-first-n.false in record { fits = omega arith }

pub place-beyond-requires : goal.place-beyond-requires
place-beyond-requires c = let l = near-less _ _ _ c.near-first.ensures c.if-first-n.false in omega arith

pub fill_ones-requires-2 : goal.fill_ones-requires-2
fill_ones-requires-2 c = let l = near-less _ _ _ c.near-first.ensures c.if-first-n.false in
    record { ends = omega arith; fits = omega arith }

pub overflow_sub-n : goal.overflow_sub-n
overflow_sub-n c = let l = near-less _ _ _ c.near-first.ensures c.if-first-n.false in
    omega arith

pub fill_ones-requires-3 : goal.fill_ones-requires-3
fill_ones-requires-3 c = let l = near-less _ _ _ c.near-first.ensures c.if-first-n.false in
    let i = near-place _ _ _ c.near-first.ensures c.if-first-n.false c.place-beyond.ensures in
    record { ends = omega arith; fits = omega arith }

pub returns : goal.returns
returns c = let a = c.args in
    put-parts-ones a.mark a.page.now a.position a.n c.near-first.ensures c.if-first-n.false c.place-beyond.ensures
    c.fill_ones-2.ensures c.fill_ones-3.ensures

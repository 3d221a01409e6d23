use native.Mathlib.Omega.{arith}
use Rattle.mark.proofs.Runs.{near-less, near-place}
use Rattle.page_runs.proofs.Zeros.{zeros_to-le, zeros-before, zeros-parts}
use Rattle.page_runs.proofs.read.zeros_in.Goals as goal

pub returns-then-first-n : goal.returns-then-first-n
returns-then-first-n c = let a = c.args in
    zeros-before a.mark a.page.now a.at a.n a.limit c.near-first.ensures c.if-first-n.true c.zeros_to.ensures

pub overflow_add-at : goal.overflow_add-at
overflow_add-at c = let l = near-less _ _ _ c.near-first.ensures c.if-first-n.false in record { fits = omega arith }

pub place-beyond-requires : goal.place-beyond-requires
place-beyond-requires c = let l = near-less _ _ _ c.near-first.ensures c.if-first-n.false in omega arith

pub zeros_to-found-requires : goal.zeros_to-found-requires
zeros_to-found-requires c = let l = near-less _ _ _ c.near-first.ensures c.if-first-n.false in
    record { ends = omega arith; fits = omega arith }

pub overflow_sub-n : goal.overflow_sub-n
overflow_sub-n c = let l = near-less _ _ _ c.near-first.ensures c.if-first-n.false in
    omega arith

pub overflow_sub-limit : goal.overflow_sub-limit
overflow_sub-limit c = zeros_to-le _ _ c.zeros_to-found.ensures

pub zeros_to-more-requires : goal.zeros_to-more-requires
zeros_to-more-requires c = let l = near-less _ _ _ c.near-first.ensures c.if-first-n.false in
    let i = near-place _ _ _ c.near-first.ensures c.if-first-n.false c.place-beyond.ensures in
    record { ends = omega arith; fits = omega arith }

pub overflow_add-result : goal.overflow_add-result
overflow_add-result c = let l = zeros_to-le _ _ c.zeros_to-more.ensures in
    let m = zeros_to-le _ _ c.zeros_to-found.ensures in
    record { fits = omega arith }

pub returns : goal.returns
returns c = let a = c.args in
    zeros-parts a.mark a.page.now a.at a.n a.limit c.near-first.ensures c.if-first-n.false c.place-beyond.ensures
    c.zeros_to-found.ensures c.zeros_to-more.ensures

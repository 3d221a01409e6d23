use native.Mathlib.Omega.{arith}
use Rattle.mark.proofs.Runs.{near-less, near-place}
use Rattle.page_runs.proofs.Parts.{run-before, run-after}
use Rattle.page_runs.proofs.divide.run_place.Goals as goal

pub returns-then-first-n : goal.returns-then-first-n
returns-then-first-n c = let a = c.args in
    (omega arith, λ page. run-before a.mark page a.at a.n c.near-first.ensures c.if-first-n.true)

pub overflow_add-at : goal.overflow_add-at
overflow_add-at c = let l = near-less _ _ _ c.near-first.ensures c.if-first-n.false in record { fits = omega arith }

pub place-beyond-requires : goal.place-beyond-requires
place-beyond-requires c = let l = near-less _ _ _ c.near-first.ensures c.if-first-n.false in omega arith

pub returns-then-first-eq0 : goal.returns-then-first-eq0
returns-then-first-eq0 c = let a = c.args in
    let i = near-place _ _ _ c.near-first.ensures c.if-first-n.false c.place-beyond.ensures in
    (omega arith, λ page. run-after a.mark page a.at a.n c.near-first.ensures c.if-first-n.false c.place-beyond.ensures c.if-first-eq0.true)

use native.Mathlib.Omega.{arith}
use Rattle.mark.proofs.Runs.{near-less, near-place}
use Rattle.page_runs.proofs.Division.{parity-before, parity-none, parity-below, parity-after, parity-parts}
use Rattle.page_runs.proofs.divide.parity_in.Goals as goal

pub returns-then-first-n : goal.returns-then-first-n
returns-then-first-n c = let a = c.args in
    parity-before a.f a.t a.mark a.page.now a.at a.n c.near-first.ensures c.if-first-n.true c.parity_of.ensures

pub overflow_add-at : goal.overflow_add-at
overflow_add-at c = let l = near-less _ _ _ c.near-first.ensures c.if-first-n.false in record { fits = omega arith }

pub place-beyond-requires : goal.place-beyond-requires
place-beyond-requires c = let l = near-less _ _ _ c.near-first.ensures c.if-first-n.false in omega arith

pub parity_of-requires-then-first-eq0 : goal.parity_of-requires-then-first-eq0
parity_of-requires-then-first-eq0 c = let i = near-place _ _ _ c.near-first.ensures c.if-first-n.false c.place-beyond.ensures in
    (c.requires.0, omega arith)

pub returns-then-first-eq0 : goal.returns-then-first-eq0
returns-then-first-eq0 c = let a = c.args in
    parity-after a.f a.t a.mark a.page.now a.at a.n c.near-first.ensures c.if-first-n.false c.place-beyond.ensures c.if-first-eq0.true
    c.parity_of-then-first-eq0.ensures

pub parity_of-before-requires : goal.parity_of-before-requires
parity_of-before-requires c = let l = near-less _ _ _ c.near-first.ensures c.if-first-n.false in
    (c.requires.0, omega arith)

pub returns-then-t-eq0 : goal.returns-then-t-eq0
returns-then-t-eq0 c = let a = c.args in
    parity-none a.f a.t a.mark a.page.now a.at a.n c.near-first.ensures c.if-t-eq0.true c.parity_of-before.ensures

pub overflow_sub-n : goal.overflow_sub-n
overflow_sub-n c = let l = near-less _ _ _ c.near-first.ensures c.if-first-n.false in
    omega arith

pub parity_more-requires : goal.parity_more-requires
parity_more-requires c = let l = near-less _ _ _ c.near-first.ensures c.if-first-n.false in
    let i = near-place _ _ _ c.near-first.ensures c.if-first-n.false c.place-beyond.ensures in
    let b = parity-below c.args.f c.args.t c.args.mark c.args.page.now c.args.at c.args.n c.near-first.ensures
    c.requires.0.level c.parity_of-before.ensures in
    (c.requires.0, omega arith, b, omega arith)

pub returns : goal.returns
returns c = let a = c.args in
    parity-parts a.f a.t a.mark a.page.now a.at a.n c.near-first.ensures c.if-first-n.false c.place-beyond.ensures (omega arith)
    c.parity_of-before.ensures c.parity_more.ensures

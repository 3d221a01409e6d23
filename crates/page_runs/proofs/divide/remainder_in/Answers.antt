use native.Mathlib.Omega.{arith}
use Rattle.mark.proofs.Runs.{near-place}
use Rattle.page_runs.proofs.Division.{remainder-before, remainder-after}
use Rattle.page_runs.proofs.divide.remainder_in.Goals as goal

pub returns-then-first-n : goal.returns-then-first-n
returns-then-first-n c = let a = c.args in
    remainder-before a.f a.t a.mark a.page.now a.at a.n c.near-first.ensures c.if-first-n.true c.remainder_of.ensures

pub remainder_of-requires-then-first-eq0 : goal.remainder_of-requires-then-first-eq0
remainder_of-requires-then-first-eq0 c = let i = near-place _ _ _ c.near-first.ensures c.if-first-n.false c.place-beyond.ensures in
    (c.requires.0, omega arith)

pub returns-then-first-eq0 : goal.returns-then-first-eq0
returns-then-first-eq0 c = let a = c.args in
    remainder-after a.f a.t a.mark a.page.now a.at a.n c.near-first.ensures c.if-first-n.false c.place-beyond.ensures c.if-first-eq0.true
    c.remainder_of-then-first-eq0.ensures

use native.Mathlib.Omega.{arith}
use Rattle.page_runs.proofs.Copies.{number-before, number-copied}
use Rattle.page_runs.proofs.divide.number_in.Goals as goal

pub returns-then-first-n : goal.returns-then-first-n
returns-then-first-n c = let a = c.args in
    number-before a.mark a.page.now a.at a.n c.near-first.ensures c.if-first-n.true c.number_at.ensures

pub returns : goal.returns
returns c = let a = c.args in
    number-copied a.mark a.page.now a.at a.n _ (omega arith) c.copy_word.ensures c.number_at-2.ensures

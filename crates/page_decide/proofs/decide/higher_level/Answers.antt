use native.Mathlib.Omega.{arith}
use Rattle.page_decide.proofs.Deciding.{levels-below}
use Rattle.page_decide.proofs.decide.higher_level.Goals as goal

pub returns : goal.returns
returns c = let p = c.requires in
    let a = p.first.small in
    let b = p.later.small in
    (omega arith, levels-below _ _ p (omega arith) (omega arith))

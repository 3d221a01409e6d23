use mathlib.Core.Path.{◌≡◌}
use native.Mathlib.Omega.{arith}
use borrow.Author.Rules.{rules}
use Rattle.division_steps.proofs.Rows.{added_none, added_next}
use Rattle.division_steps.proofs.words_added.Goals as goal

pub loop-i-init : goal.loop-i-init
loop-i-init c = (search rules, search rules, added_none _ _ _ _)

pub loop-i-preserved : goal.loop-i-preserved
loop-i-preserved c = let s = c.loop-i in
    let a = c.args in
    (omega arith, search rules, added_next _ _ s.i a.to _ s.words (omega arith) (omega arith) (omega arith) s.invariant.2 (grind arith))

pub returns : goal.returns
returns c = let s = c.loop-i in
    let e : s.i ≡ c.args.from = omega arith in
    rw e at s.invariant.2

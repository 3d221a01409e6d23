use mathlib.Core.Path.{◌≡◌, refl, ◌∙◌}
use native.Mathlib.Omega.{arith}
use native.Mathlib.Nat.{mod-eq_of_lt}
use borrow.Author.Rules.{rules}
use Rattle.wide.specs.Bytes.{little}
use Rattle.wide.proofs.Steps.{only_next, byte-stored}
use Rattle.wide.proofs.store_word.Goals as goal

pub loop-i-init : goal.loop-i-init
unfolding little
loop-i-init c = search rules

pub loop-i-preserved : goal.loop-i-preserved
loop-i-preserved c = let s = c.loop-i in
    let x = c.args in
    (search rules, byte-stored x.to s.i x.w _ s.rows (omega arith) s.invariant.1 refl, only_next x.to s.i _ s.invariant.2)

pub returns : goal.returns
returns c = let s = c.loop-i in
    let x = c.args in
    let e : s.i ≡ 8 = omega arith in
    (rw e at s.invariant.1 ∙ mod-eq_of_lt (search rules), rw e at s.invariant.2)

use Prim.Native.Nat.{◌-◌}
use mathlib.Core.Path.{◌≡◌, ◌∙◌, sym, ap}
use native.Mathlib.Omega.{arith}
use borrow.Author.Rules.{rules}
use lib.ListN.{length, drop}
use Rattle.code.specs.Register.{low}
use Rattle.remainder.proofs.Words.{zeros-at, zeros-store, register-zeros, register-drop}
use Rattle.register_shifts.proofs.Shifts.{move-next}
use Rattle.register_shifts.proofs.without_words.Goals as goal

pub loop-i-init : goal.loop-i-init
unfolding low
loop-i-init c = (search rules, search rules, λ k h. zeros-at 14 k)

pub loop-i-preserved : goal.loop-i-preserved
loop-i-preserved c = let s = c.loop-i in
    let a = c.args in
    (search rules, move-next s.words a.state.words a.q s.i (omega arith) s.invariant.1, zeros-store s.words s.i _ s.invariant.2)

pub returns : goal.returns
returns c = let s = c.loop-i in
    let a = c.args in
    let v = a.state.words in
    let l : length v ≡ 14 = search rules in
    let e : s.i ≡ length v - a.q = omega arith in
    register-zeros s.words s.i (omega arith) s.invariant.2 ∙ s.invariant.1 ∙ ap (low (drop a.q v)) e ∙ sym (register-drop v (λ k. search rules) a.q (omega arith))

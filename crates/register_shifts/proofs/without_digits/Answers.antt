use mathlib.Core.Path.{◌≡◌}
use native.Mathlib.Omega.{arith}
use borrow.Author.Rules.{rules}
use mir.Syntax.{w64}
use mir.Val.{Fits}
use lib.ListN.{length, get_or}
use Rattle.register_shifts.proofs.Shifts.{down_fits, down-start, down-next, down-end}
use Rattle.register_shifts.proofs.without_digits.Goals as goal

pub loop-i-init : goal.loop-i-init
loop-i-init c = (search rules, down-start _ _ c.args.k)

pub overflow_add-words-in-loop-i : goal.overflow_add-words-in-loop-i
overflow_add-words-in-loop-i c = let s = c.loop-i in
    let a = c.args in
    let v = a.state.words in
    let f : Fits w64 (get_or v s.i 0) = search rules in
    record { fits = down_fits (get_or v s.i 0) _ a.k (omega arith) f.fits }

pub loop-i-preserved : goal.loop-i-preserved
loop-i-preserved c = let s = c.loop-i in
    let a = c.args in
    (search rules, down-next s.words a.state.words s.i a.k (omega arith) (omega arith) s.invariant.1)

pub returns : goal.returns
returns c = let s = c.loop-i in
    let a = c.args in
    let v = a.state.words in
    let l : length v ≡ 14 = search rules in
    let e : s.i ≡ 13 = omega arith in
    down-end s.words v 13 a.k s.invariant.0 l (rw e at s.invariant.1)

use mathlib.Core.Path.{◌≡◌, refl}
use native.Mathlib.Omega.{arith}
use borrow.Author.Rules.{rules}
use mir.Syntax.{w64}
use mir.Val.{Fits}
use lib.ListN.{length, get_or}
use lib.Pow.{pow_pos}
use Rattle.code.specs.Register.{low, register}
use Rattle.remainder.proofs.Words.{zeros-at, zeros-store}
use Rattle.register_shifts.proofs.Shifts.{shift_fits, shift-store, carry-below, store_below}
use Rattle.division_steps.proofs.Rows.{words-many}
use Rattle.division_steps.proofs.Steps.{carry-next, start-end, start-stands}
use Rattle.division_steps.proofs.start.Goals as goal

pub loop-i-init : goal.loop-i-init
unfolding low
loop-i-init c = let u = words-many c.requires.0 in
    (refl, pow_pos _, omega arith, λ j h. zeros-at 15 j, omega arith, u.1)

pub overflow_add-words : goal.overflow_add-words
overflow_add-words c = record { fits = shift_fits _ _ _ (omega arith) c.loop-i.invariant.1 }

pub loop-i-preserved : goal.loop-i-preserved
loop-i-preserved c = let s = c.loop-i in
    let a = c.args in
    let v = a.state.words in
    let e = carry-next (get_or v s.i 0) a.k (omega arith) in
    let f : Fits w64 (get_or v s.i 0) = search rules in (
      search rules,
      rw e (carry-below _ _ (omega arith) f.fits),
      rw e (shift-store s.words v s.i a.k s.carry 0 (omega arith) (omega arith) s.invariant.2 refl),
      zeros-store s.words s.i _ s.invariant.3,
      store_below s.words s.i _ (omega arith) (shift_fits _ _ _ (omega arith) s.invariant.1) s.invariant.4,
      s.invariant.5,
    )

pub returns : goal.returns
returns c = let s = c.loop-i in
    let p = c.requires in
    let u = c.args.used in
    let v = c.args.state.words in
    let l : length v ≡ 14 = search rules in
    let e : s.i ≡ u = omega arith in
    start-stands p.0 c.args.k (register v) c.args.b p.1 p.2 p.3
    (start-end s.words v u c.args.k s.carry c.args.b (omega arith) (omega arith) p.1 (rw e at s.invariant.4) (rw e at s.invariant.2) (rw e at s.invariant.3))

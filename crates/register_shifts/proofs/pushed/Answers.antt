use mathlib.Core.Path.{◌≡◌, ◌∙◌, sym}
use native.Mathlib.Nat.{le_refl}
use native.Mathlib.Omega.{arith}
use borrow.Author.Rules.{rules}
use mir.Syntax.{w64}
use mir.Val.{Fits}
use lib.ListN.{length, get_or}
use Rattle.code.specs.Register.{low}
use Rattle.remainder.proofs.Words.{above-store}
use Rattle.register_shifts.proofs.Shifts.{shift_fits, shift-next, shift-end, carry-below, store_below}
use Rattle.register_shifts.proofs.pushed.Goals as goal

pub loop-i-init : goal.loop-i-init
unfolding low
loop-i-init c = search rules

pub overflow_add-words : goal.overflow_add-words
overflow_add-words c = record { fits = shift_fits _ _ _ (omega arith) c.loop-i.invariant.1 }

pub loop-i-preserved : goal.loop-i-preserved
loop-i-preserved c = let s = c.loop-i in
    let v = c.args.state.words in
    let e = s.invariant.3 s.i (le_refl s.i) in
    let f : Fits w64 (get_or v s.i 0) = search rules in (
      search rules,
      carry-below _ _ (omega arith) (rw e f.fits),
      shift-next _ _ _ _ _ _ (omega arith) (omega arith) s.invariant.2 e,
      above-store s.words v s.i _ s.invariant.3,
      store_below s.words s.i _ (omega arith) (shift_fits _ _ _ (omega arith) s.invariant.1) s.invariant.4,
    )

pub returns : goal.returns
returns c = let s = c.loop-i in
    let v = c.args.state.words in
    let l : length v ≡ 14 = search rules in
    let e : s.i ≡ c.args.used = omega arith in
    shift-end s.words v s.i c.args.k s.carry c.args.lowest (omega arith) (s.invariant.0 ∙ sym l) s.invariant.4 s.invariant.2 s.invariant.3 (rw e c.requires.4) ∙ rw e

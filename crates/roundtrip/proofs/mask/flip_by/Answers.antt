use Prim.Native.Nat.{◌-◌}
use mathlib.Core.Path.{◌≡◌}
use native.Mathlib.Omega.{arith}
use lib.ListN.{length}
use borrow.Author.Rules.{rules}
use Rattle.roundtrip.proofs.Masks.{flipped-start, flipped-next, flipped-end}
use Rattle.roundtrip.proofs.mask.flip_by.Goals as goal

pub loop-i-init : goal.loop-i-init
loop-i-init c = (search rules, flipped-start _ _)

pub loop-i-preserved : goal.loop-i-preserved
loop-i-preserved c = let l = c.loop-i in
    (search rules, flipped-next _ _ l.i l.page l.invariant.1 (search rules) (c.slice_known-1.given l.i).fits (c.shared_slice_known-1.given l.i).fits)

pub returns : goal.returns
returns c = let l = c.loop-i in
    let a = c.args in
    let e : l.i ≡ length a.page.now = omega arith in
    flipped-end a.mask.now a.page.now l.page (rw e at l.invariant.1)

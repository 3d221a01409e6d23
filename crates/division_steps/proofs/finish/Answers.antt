use Prim.Native.Nat.{◌*◌}
use mathlib.Core.Path.{◌≡◌, refl}
use native.Mathlib.Omega.{arith}
use borrow.Author.Rules.{rules}
use lib.ListN.{length}
use Rattle.code.specs.Register.{low}
use Rattle.remainder.proofs.Words.{zeros-at, zeros-store}
use Rattle.division_steps.proofs.Rows.{words-many}
use Rattle.division_steps.proofs.Steps.{copy-next, copy-end}
use Rattle.division_steps.proofs.finish.Goals as goal

pub reduce-whole-requires : goal.reduce-whole-requires
reduce-whole-requires c = let p = c.requires in
    let u = words-many p.0.wide in
    (u.0, u.1, p.0.size, p.1)

pub loop-i-init : goal.loop-i-init
unfolding low
loop-i-init c = let u = words-many c.requires.0.wide in
    (search rules, refl, λ k h. zeros-at 14 k, u.1)

pub loop-i-preserved : goal.loop-i-preserved
loop-i-preserved c = let s = c.loop-i in
    let v = c.reduce-whole.result.words in
    (search rules, copy-next s.words v s.i (omega arith) s.invariant.1, zeros-store s.words s.i _ s.invariant.2, s.invariant.3)

pub returns : goal.returns
returns c = let s = c.loop-i in
    let r = c.reduce-whole in
    let p = c.requires in
    let u = words-many p.0.wide in
    let l : length r.result.words ≡ 15 = search rules in
    let e : s.i ≡ c.args.used = omega arith in
    copy-end s.words r.result.words c.args.used (64 * c.args.used) _ _ refl (omega arith) (omega arith) (omega arith) p.0.monic p.1 (r.ensures _ p.0.clearing p.0.monic) (rw e at s.invariant.1) (rw e at s.invariant.2)

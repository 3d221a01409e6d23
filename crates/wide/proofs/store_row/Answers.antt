use mathlib.Core.Path.{◌≡◌}
use native.Mathlib.Omega.{arith}
use borrow.Author.Rules.{rules}
use Rattle.code.specs.Register.{low}
use Rattle.wide.specs.Bytes.{little}
use Rattle.wide.proofs.Steps.{only-more, word-stored}
use Rattle.wide.proofs.store_row.Goals as goal

pub loop-i-init : goal.loop-i-init
unfolding low little
loop-i-init c = search rules

pub loop-i-preserved : goal.loop-i-preserved
loop-i-preserved c = let s = c.loop-i in
    let x = c.args in
    let called = c.store_word in
    (search rules, word-stored x.to s.i s.rows called.new.rows x.row.words s.invariant.1 called.ensures.0 called.ensures.1, only-more x.to s.i s.invariant.2 called.ensures.1)

pub returns : goal.returns
returns c = let s = c.loop-i in
    let e : s.i ≡ c.args.count = omega arith in
    (rw e at s.invariant.1, rw e at s.invariant.2)

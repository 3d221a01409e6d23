use Prim.Native.Nat.{◌-◌}
use mathlib.Core.Path.{◌≡◌, sym, ap, ◌∙◌}
use native.Mathlib.Omega.{arith}
use Rattle.roundtrip.specs.Mask.{few_below}
use Rattle.roundtrip.proofs.Masks.{few-none, few-next, few-not}
use Rattle.roundtrip.proofs.mask.blocks_allowed.Goals as goal

pub loop-block-init : goal.loop-block-init
loop-block-init c = few-none _ _

pub returns-then-not-block_allowed : goal.returns-then-not-block_allowed
returns-then-not-block_allowed c = let a = c.args in
    sym (few-not a.plan a.mask.now _ _ (sym c.block_allowed.ensures ∙ c.if-not-block_allowed.true) c.loop-block-test.true)

pub loop-block-preserved : goal.loop-block-preserved
loop-block-preserved c = let a = c.args in
    let l = c.loop-block in
    few-next a.plan a.mask.now l.block l.invariant (sym c.block_allowed.ensures ∙ c.if-not-block_allowed.false)

pub returns : goal.returns
returns c = let l = c.loop-block in
    let e : l.block ≡ c.args.plan.blocks = omega arith in
    sym l.invariant ∙ ap (few_below _ _) e

use Prim.Native.Nat.{◌-◌, ◌≤◌}
use mathlib.Core.Path.{◌≡◌}
use mathlib.Core.Bool.{true}
use Rattle.roundtrip.specs.Mask.{few_below}
use Rattle.roundtrip.proofs.mask.blocks_allowed.Given as goal

abbrev pub invariant-loop-block : goal.invariant-loop-block
invariant-loop-block l = few_below l.plan l.mask l.block ≡ true

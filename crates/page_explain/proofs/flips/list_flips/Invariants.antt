use mathlib.Core.Path.{◌≡◌}
use mathlib.Core.List.{◌++◌}
use Prim.Native.Nat.{◌-◌, ◌≤◌}
use lib.ListN.{length, take, drop}
use Rattle.page_explain.specs.Explain.{positions}
use Rattle.page_explain.proofs.flips.list_flips.Given as goal

abbrev pub invariant-loop-i : goal.invariant-loop-i
invariant-loop-i l = (length l.list ≡ length l.initial.list) × (l.list ≡ positions l.plan l.block (take l.i l.exponents) ++ drop l.i l.initial.list)

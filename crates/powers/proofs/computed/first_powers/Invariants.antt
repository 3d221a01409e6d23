use mathlib.Core.Path.{◌≡◌}
use Prim.Native.Nat.{◌^◌}
use Rattle.field.specs.declared.Field.TheVariants.{Fourteen}
use Rattle.powers.specs.Begun.{Begun}
use Rattle.powers.proofs.computed.first_powers.Given as goal

abbrev pub invariant-loop-k : goal.invariant-loop-k
invariant-loop-k l = Begun Fourteen l.k l.powers × (l.x ≡ 2 ^ l.k)

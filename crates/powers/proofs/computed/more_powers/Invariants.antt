use Rattle.field.specs.declared.Field.TheVariants.{Fourteen}
use Rattle.powers.specs.Begun.{Begun}
use Rattle.powers.proofs.computed.more_powers.Given as goal

abbrev pub invariant-loop-k : goal.invariant-loop-k
invariant-loop-k l = Begun Fourteen l.k l.powers

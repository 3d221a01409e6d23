use mathlib.Core.Path.{◌≡◌}
use Rattle.std.specs.Prelude.{Some}
use Rattle.text.specs.Numbers.{digits_to}
use Rattle.text.proofs.digits.digits.Given as goal

abbrev pub invariant-loop-c : goal.invariant-loop-c
invariant-loop-c l = Some l.v ≡ digits_to l.base l.text l.c-index

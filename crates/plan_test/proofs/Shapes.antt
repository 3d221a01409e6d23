-- What the test of a shape answers.
--
-- shaped-odd                   where t is odd
-- shaped-none, shaped-code     where all but the last comparison hold, at t = 0 and above
use mathlib.Core.Path.{◌≡◌}
use mathlib.Core.Bool.{true, false}
use Prim.Native.Nat.{◌+◌, ◌*◌, ◌%◌, ◌≤◌}
use lib.Dec.{leb}
use borrow.Author.Tests.{eq-eqb, ne_eqb, le-leb}
use Rattle.field.specs.Field.{degree, longest}
use Rattle.layout_plan.specs.declared.Shape.{Shape}
use Rattle.plan_test.specs.Together.{shaped}

pub shaped-odd : (s : Shape) → (s.level % 2 ≡ 0 → ⊥) → false ≡ shaped s
unfolding shaped
shaped-odd s odd = simp (ne_eqb _ _ odd)

module _ (s : Shape) (even : s.level % 2 ≡ 0) (small : s.level ≤ 62) (none : s.pads ≡ 0) (sum : s.covered ≡ s.message + degree s.field * s.level) where
  pub shaped-none : s.level ≡ 0 → true ≡ shaped s
  unfolding shaped
  shaped-none z = simp (eq-eqb _ _ even, le-leb _ _ small, eq-eqb _ _ none, eq-eqb _ _ sum, eq-eqb _ _ z)

  pub shaped-code : (s.level ≡ 0 → ⊥) → leb s.covered (longest s.field) ≡ shaped s
  unfolding shaped
  shaped-code z = simp (eq-eqb _ _ even, le-leb _ _ small, eq-eqb _ _ none, eq-eqb _ _ sum, ne_eqb _ _ z)

-- Inner promises: fields of characteristic 2.
--   BinaryField   the operations and their laws, as far as the decoder needs them: no inverses, but no divisors of zero
use Rattle.std.specs.Prelude.{◌≡◌}

-- `nil` is the zero, `one` the unit. Characteristic 2 is `add-self`: each element is its own negative.
pub record BinaryField : Type 1 where
  pub carrier : Type 0
  pub add : carrier → carrier → carrier
  pub mul : carrier → carrier → carrier
  pub nil : carrier
  pub one : carrier
  pub add_assoc : (a b c : carrier) → add (add a b) c ≡ add a (add b c)
  pub add_comm : (a b : carrier) → add a b ≡ add b a
  pub add-nil : (a : carrier) → add a nil ≡ a
  pub add-self : (a : carrier) → add a a ≡ nil
  pub mul_assoc : (a b c : carrier) → mul (mul a b) c ≡ mul a (mul b c)
  pub mul_comm : (a b : carrier) → mul a b ≡ mul b a
  pub mul-one : (a : carrier) → mul a one ≡ a
  pub mul-add : (a b c : carrier) → mul a (add b c) ≡ add (mul a b) (mul a c)
  pub one-not-nil : ¬ (one ≡ nil)
  pub no-divisors : (a b : carrier) → mul a b ≡ nil → ¬ (a ≡ nil) → b ≡ nil

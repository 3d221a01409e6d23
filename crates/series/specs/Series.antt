-- Inner promises: arrays of 128 numbers as power series over a field K, where the numbers N stand for its elements. The contracts say
-- them of the field f itself.
--
-- Elements f l                l has 128 entries, each the number of an element
-- Represents f K N v r        the number r is the element v
-- Updated f K N c u e gap v   v is c + a^e x^gap u
use Rattle.std.specs.Prelude.{◌≡◌, List, ℕ, ◌^◌, ◌<◌, length, get_or}
use Rattle.algebra.specs.Field.{BinaryField}
use Rattle.algebra.specs.Number.{Numbers}
use Rattle.algebra.specs.Array.{coef, mix-of}
use Rattle.field.specs.declared.Field.{Field}
use Rattle.field.specs.Field.{degree, a^}

module _ (f : Field) where
  pub record Elements (l : List ℕ) : Type 0 where
    pub full : length l ≡ 128
    pub small : (i : ℕ) → get_or l i 0 < 2 ^ degree f

  module _ (K : BinaryField) (N : Numbers K) where
    pub record Represents (v : K.carrier) (r : ℕ) : Type 0 where
      pub low : r < 2 ^ degree f
      pub is : N.el r ≡ v

    pub record Updated (c u : List ℕ) (e gap : ℕ) (v : List ℕ) : Type 0 where
      pub elements : Elements v
      pub mixed : (i : ℕ) → coef K N v i ≡ mix-of K N c u (a^ f e) gap i

-- Inner promises: whether a polynomial has as many roots among the powers of a as its degree, by x^(2^m) modulo the polynomial.
-- A polynomial of degree len is an array of coefficients, the highest power first: c_0 x^len + .. + c_len. Values are in a field K,
-- where the numbers N stand for its elements; the contracts say it of the field f itself.
--
-- Divisor f c len               c is a polynomial of degree len: c_0 is not 0, and nothing stands after c_len
-- Lowered t from n v            v has the n coefficients of t from `from` on, and zeros after them
-- Zero K N c len z              z is a root of c
-- Splits K N a c len            c has len distinct roots among the powers of a
-- Spread f K N s n v            v has the squares of the first n coefficients of s, with zeros between
-- Cleared f K N c len t i v     v has no coefficient at i, those of t before it, and the value of t at each root of c
-- Reduced f K N c len t n v     v has no coefficient before n, and the value of t at each root of c, both as words of 2n + 1 coefficients
-- Squared f K N c len s v       v has the square of the value of s at each root of c, both as words of len coefficients
use Rattle.std.specs.Prelude.{◌≡◌, List, ℕ, suc, ◌+◌, ◌≤◌, ◌<◌, length, get_or}
use Rattle.algebra.specs.Field.{BinaryField}
use Rattle.algebra.specs.Number.{Numbers}
use Rattle.algebra.specs.Polynomial.{pow, horner, value, Distinct}
use Rattle.algebra.specs.Array.{coef}
use Rattle.field.specs.declared.Field.{Field}
use Rattle.series.specs.Series.{Elements}

pub record Lowered (t : List ℕ) (from n : ℕ) (v : List ℕ) : Type 0 where
  pub full : length v ≡ 128
  pub at : (j : ℕ) → j < n → get_or v j 0 ≡ get_or t (from + j) 0
  pub past : (j : ℕ) → n ≤ j → get_or v j 0 ≡ 0

pub record Divisor (f : Field) (c : List ℕ) (len : ℕ) : Type 0 where
  pub elements : Elements f c
  pub start : 0 < get_or c 0 0
  pub ends : (i : ℕ) → len < i → get_or c i 0 ≡ 0

module _ (K : BinaryField) (N : Numbers K) where
  abbrev pub Zero : List ℕ → ℕ → K.carrier → Type 0
  Zero c len z = value K (coef K N c) z len ≡ K.nil

  pub record Splits (a : K.carrier) (c : List ℕ) (len : ℕ) : Type 0 where
    pub place : ℕ → ℕ
    pub apart : Distinct K len (λ i. pow K a (place i))
    pub zeros : (i : ℕ) → i < len → Zero c len (pow K a (place i))

module _ (f : Field) (K : BinaryField) (N : Numbers K) where
  pub record Spread (s : List ℕ) (n : ℕ) (v : List ℕ) : Type 0 where
    pub elements : Elements f v
    pub even : (i : ℕ) → i < n → coef K N v (i + i) ≡ K.mul (coef K N s i) (coef K N s i)
    pub odd : (i : ℕ) → coef K N v (suc (i + i)) ≡ K.nil

  pub record Cleared (c : List ℕ) (len : ℕ) (t : List ℕ) (i : ℕ) (v : List ℕ) : Type 0 where
    pub elements : Elements f v
    pub zero : coef K N v i ≡ K.nil
    pub before : (j : ℕ) → j < i → coef K N v j ≡ coef K N t j
    pub same : (z : K.carrier) → Zero K N c len z → (r : ℕ)
        → horner K (coef K N v) z (i + (suc len + r)) ≡ horner K (coef K N t) z (i + (suc len + r))

  pub record Reduced (c : List ℕ) (len : ℕ) (t : List ℕ) (n : ℕ) (v : List ℕ) : Type 0 where
    pub elements : Elements f v
    pub zeros : (j : ℕ) → j < n → coef K N v j ≡ K.nil
    pub same : (z : K.carrier) → Zero K N c len z → horner K (coef K N v) z (suc (n + n)) ≡ horner K (coef K N t) z (suc (n + n))

  pub record Squared (c : List ℕ) (len : ℕ) (s v : List ℕ) : Type 0 where
    pub elements : Elements f v
    pub squares : (z : K.carrier) → Zero K N c len z
        → horner K (coef K N v) z len ≡ K.mul (horner K (coef K N s) z len) (horner K (coef K N s) z len)

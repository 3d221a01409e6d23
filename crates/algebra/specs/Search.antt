-- Inner promises: the search for roots a^p of a polynomial, whose coefficients an array holds.
--   Root p         a^p is a root of the polynomial of degree len with the coefficients c, the highest power first
--   Found l n w    the first w entries of l are the p below n for which a^p is a root, in ascending order
use Rattle.std.specs.Prelude.{List, ◌≡◌, ℕ, get_or}
use Rattle.algebra.specs.Field.{BinaryField}
use Rattle.algebra.specs.Polynomial.{pow, value}
use Rattle.algebra.specs.Word.{Lists}
use Rattle.algebra.specs.Number.{Numbers}
use Rattle.algebra.specs.Array.{coef}

module _ (K : BinaryField) (N : Numbers K) (c : List ℕ) (len : ℕ) (a : K.carrier) where
  -- The value at a^p is zero.
  abbrev pub Root : ℕ → Type 0
  Root p = value K (coef K N c) (pow K a p) len ≡ K.nil

  -- All the roots below n, and no other place, are listed.
  pub record Found (l : List ℕ) (n w : ℕ) : Type 0 where
    pub lists : Lists Root n w (λ i. get_or l i 0)

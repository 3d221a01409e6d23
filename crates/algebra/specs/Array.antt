-- Inner promises: arrays of 128 numbers as series, how the code of the key equation states what it computes.
--   Small l                    l has 128 entries, each a number that stands for an element
--   coef l                     l as a series
--   dot c s k n                c_0 s_k + c_1 s_(k - 1) + .., n terms: a discrepancy
--   mix-of c u q gap           c + q x^gap u, as a series: a recurrence and a multiple of its update
--   Holds s h len b c u gap    `BinaryState` before term 2h, its recurrence the array c and its update x^gap u
use Rattle.std.specs.Prelude.{List, ◌≡◌, ℕ, ◌+◌, ◌-◌, ◌≤◌, ◌<◌, get_or, length}
use Rattle.algebra.specs.Field.{BinaryField}
use Rattle.algebra.specs.Series.{shift}
use Rattle.algebra.specs.Sum.{sum}
use Rattle.algebra.specs.Binary.{BinaryState}
use Rattle.algebra.specs.Number.{Numbers}

module _ (K : BinaryField) (N : Numbers K) where
  open K use {carrier as F}

  -- What is read past the end counts as 0.
  pub record Small (l : List ℕ) : Type 0 where
    pub full : length l ≡ 128
    pub small : (i : ℕ) → get_or l i 0 < N.size

  -- the coefficient at i
  unfoldable pub coef : List ℕ → ℕ → F
  coef l i = N.el (get_or l i 0)

  -- Where c ends at len, `dot c s k (len + 1)` is the coefficient at k of the product.
  unfoldable pub dot : List ℕ → List ℕ → ℕ → ℕ → F
  dot c s k n = sum K n (λ j. K.mul (coef c j) (coef s (k - j)))

  -- q is the discrepancy divided by that of the update
  unfoldable pub mix-of : List ℕ → List ℕ → ℕ → ℕ → ℕ → F
  mix-of c u q gap i = K.add (coef c i) (K.mul (N.el q) (shift K gap (coef u) i))

  -- `room` says that the update, which has 2h + 2 - len terms with its gap, has at least one besides.
  pub record Holds (s : List ℕ) (h len b : ℕ) (c u : List ℕ) (gap : ℕ) : Type 0 where
    pub state : BinaryState K (coef s) h len (N.el b) (coef c) (shift K gap (coef u))
    pub small-c : Small c
    pub small-u : Small u
    pub small_b : b < N.size
    pub room : len + gap ≤ h + h + 1

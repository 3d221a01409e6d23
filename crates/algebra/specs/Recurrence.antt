-- Inner promises: linear recurrences of a sequence S, as the algorithm of Berlekamp and Massey builds them.
--   Generates S C L k     the recurrence C of length L holds for the terms of S below k
--   State S k L b C T     what the algorithm knows before it looks at term k
--   unit-series           the polynomial 1
--   locator X v           (1 + X 0 x) .. (1 + X (v - 1) x), the error locator of the elements X
use Rattle.std.specs.Prelude.{◌≡◌, ℕ, zero, suc, ◌+◌, ◌≤◌, ◌<◌}
use Rattle.algebra.specs.Field.{BinaryField}
use Rattle.algebra.specs.Series.{cons, conv}

module _ (K : BinaryField) where
  open K use {carrier as F, add as ◌⊕◌, mul as ◌⊗◌, nil as 𝟘, one as 𝟙}

  infixl 60 ◌⊕◌
  infixl 70 ◌⊗◌
  -- C has degree at most L, C 0 is not zero, and C 0 S_j + .. + C L S_(j - L) = 0 for each j from L on and below k.
  pub record Generates (S C : ℕ → F) (L k : ℕ) : Type 0 where
    pub short : (i : ℕ) → L < i → C i ≡ 𝟘
    pub zeros : (j : ℕ) → L ≤ j → j < k → conv K C S j ≡ 𝟘
    pub start : ¬ (C 0 ≡ 𝟘)

  -- C is a shortest recurrence of the first k terms, and L its length. T is the update: its product with S is zero from k + 1 - L on and
  -- below k, and b at k once L is not 0, so that C + (d / b) T corrects a discrepancy d of C at k.
  pub record State (S : ℕ → F) (k L : ℕ) (b : F) (C T : ℕ → F) : Type 0 where
    pub generates : Generates S C L k
    pub fits : L ≤ k
    pub short : (i : ℕ) → suc k < L + i → T i ≡ 𝟘
    pub start : T 0 ≡ 𝟘
    pub zeros : (j : ℕ) → suc k ≤ L + j → j < k → conv K T S j ≡ 𝟘
    pub hit : 0 < L → conv K T S k ≡ b
    pub unit : ¬ (b ≡ 𝟘)
    pub least : (D : ℕ → F) (v : ℕ) → Generates S D v k → L ≤ v

  -- 1, 0, 0, ..
  unfoldable pub unit-series : ℕ → F
  unit-series = cons K 𝟙 (λ i. 𝟘)

  -- One factor 1 + X v x more: C + X v x C.
  unfoldable pub locator : (ℕ → F) → ℕ → ℕ → F
  locator X zero = unit-series
  locator X (suc v) = λ i. locator X v i ⊕ X v ⊗ cons K 𝟘 (locator X v) i

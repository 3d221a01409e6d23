-- Laws of finite sums, and the product of series as a sum.
use mathlib.Core.Path.{◌≡◌, refl, ◌∙◌}
use Prim.Native.Nat.{ℕ, zero, suc, ◌≤◌, ◌<◌, ◌-◌}
use native.Mathlib.Omega.{arith}
use native.Mathlib.Decide.{dec_le}
use Rattle.algebra.specs.Field.{BinaryField}
use Rattle.algebra.specs.Series.{conv}
use Rattle.algebra.specs.Sum.{sum}
use Rattle.algebra.proofs.Field.{ring}
use Rattle.algebra.proofs.Series.{conv-zero, conv-suc, conv-add-right, conv-scale-right, conv-nil}

module _ (K : BinaryField) where
  open K use {carrier as F, add as ◌⊕◌, mul as ◌⊗◌, nil as 𝟘, one as 𝟙}

  infixl 60 ◌⊕◌
  infixl 70 ◌⊗◌
  pub sum-zero : (f : ℕ → F) → sum K 0 f ≡ 𝟘
  unfolding sum
  sum-zero f = refl

  pub sum-suc : (n : ℕ) (f : ℕ → F) → sum K (suc n) f ≡ sum K n f ⊕ f n
  unfolding sum
  sum-suc n f = refl

  pub sum-cong : (n : ℕ) (f g : ℕ → F) → ((i : ℕ) → i < n → f i ≡ g i) → sum K n f ≡ sum K n g
  sum-cong zero f g h = simp sum-zero
  sum-cong (suc n) f g h = rw (sum-suc n f, sum-suc n g, sum-cong n f g (λ i l. h i (omega arith)), h n (omega arith))

  pub sum-nil : (n : ℕ) (f : ℕ → F) → ((i : ℕ) → i < n → f i ≡ 𝟘) → sum K n f ≡ 𝟘
  sum-nil zero f h = sum-zero f
  sum-nil (suc n) f h = rw (sum-suc n f, sum-nil n f (λ i l. h i (omega arith)), h n (omega arith)) (simp ring)

  pub sum-add : (n : ℕ) (f g : ℕ → F) → sum K n (λ i. f i ⊕ g i) ≡ sum K n f ⊕ sum K n g
  sum-add zero f g = simp (sum-zero, ring)
  sum-add (suc n) f g = simp (sum-suc, sum-add n f g, ring)

  pub sum-scale : (n : ℕ) (a : F) (f : ℕ → F) → sum K n (λ i. a ⊗ f i) ≡ a ⊗ sum K n f
  sum-scale zero a f = simp (sum-zero, ring)
  sum-scale (suc n) a f = simp (sum-suc, sum-scale n a f, ring)

  -- the product with a sum of series
  pub conv-sum : (w : ℕ) (c : ℕ → F) (f : ℕ → F) (g : ℕ → ℕ → F) (n : ℕ)
      → conv K f (λ j. sum K w (λ e. c e ⊗ g e j)) n ≡ sum K w (λ e. c e ⊗ conv K f (g e) n)
  conv-sum zero c f g n = simp sum-zero (conv-nil K f (λ j. 𝟘) n (λ i j e. simp ring))
  conv-sum (suc w) c f g n =
      simp (sum-suc w)
      (rw (conv-add-right K f (λ j. sum K w (λ e. c e ⊗ g e j)) (λ j. c w ⊗ g w j) n, conv-sum w c f g n, conv-scale-right K (c w) f (g w) n))

  -- the first term split off
  pub sum_head : (n : ℕ) (f : ℕ → F) → sum K (suc n) f ≡ f 0 ⊕ sum K n (λ i. f (suc i))
  sum_head zero f = rw (sum-suc 0 f, sum-zero f, sum-zero (λ i. f (suc i))) (simp ring)
  sum_head (suc n) f = rw (sum-suc (suc n) f, sum_head n f, sum-suc n (λ i. f (suc i))) (simp ring)

  -- terms of 0 at the end
  pub sum-short : (m n : ℕ) (f : ℕ → F) → m ≤ n → ((i : ℕ) → m ≤ i → i < n → f i ≡ 𝟘) → sum K n f ≡ sum K m f
  sum-short m zero f l h = let e : m ≡ 0 = omega arith in rw e
  sum-short m (suc n) f l h = go (sum-short m n f) (dec_le m n)
    where
      go : (m ≤ n → ((i : ℕ) → m ≤ i → i < n → f i ≡ 𝟘) → sum K n f ≡ sum K m f) → Dec (m ≤ n) → sum K (suc n) f ≡ sum K m f
      go r (yes p) = rw (sum-suc n f, h n p (omega arith), K.add-nil (sum K n f)) (r p (λ i q s. h i q (omega arith)))
      go r (no p) = let e : m ≡ suc n = omega arith in rw e

  -- the product as a sum
  pub conv-as-sum : (f g : ℕ → F) (n : ℕ) → conv K f g n ≡ sum K (suc n) (λ i. f i ⊗ g (n - i))
  conv-as-sum f g zero = rw (conv-zero K f g, sum-suc 0 (λ i. f i ⊗ g (0 - i)), sum-zero) (simp ring)
  conv-as-sum f g (suc n) =
      rw (
        conv-suc K f g n,
        sum_head (suc n) (λ i. f i ⊗ g (suc n - i)),
        conv-as-sum (λ i. f (suc i)) g n,
        first,
        sum-cong (suc n) (λ i. f (suc i) ⊗ g (suc n - suc i)) (λ i. f (suc i) ⊗ g (n - i)) (λ i l. rw (index i)),
      )
    where
      index : (i : ℕ) → suc n - suc i ≡ n - i
      index i = omega arith

      first : suc n - 0 ≡ suc n
      first = omega arith

  -- the same where f ends at L
  pub conv-short : (f g : ℕ → F) (L n : ℕ) → L ≤ n → ((i : ℕ) → L < i → f i ≡ 𝟘) → conv K f g n ≡ sum K (suc L) (λ i. f i ⊗ g (n - i))
  conv-short f g L n l h = conv-as-sum f g n ∙ sum-short (suc L) (suc n) (λ i. f i ⊗ g (n - i)) (omega arith) (λ i p q. rw (h i p) (simp ring))

-- Laws of power series and their product.
use mathlib.Core.Path.{◌≡◌, refl, ◌∙◌}
use Prim.Native.Nat.{ℕ, zero, suc, ◌+◌, ◌≤◌, ◌<◌}
use native.Mathlib.Omega.{arith}
use native.Mathlib.Nat.{zero-add, suc-add}
use Rattle.algebra.specs.Field.{BinaryField}
use Rattle.algebra.specs.Series.{cons, shift, conv}
use Rattle.algebra.proofs.Field.{ring}

module _ (K : BinaryField) where
  open K use {carrier as F, add as ◌⊕◌, mul as ◌⊗◌, nil as 𝟘, one as 𝟙}

  infixl 60 ◌⊕◌
  infixl 70 ◌⊗◌
  pub cons-zero : (a : F) (f : ℕ → F) → cons K a f 0 ≡ a
  unfolding cons
  cons-zero a f = refl

  pub cons-suc : (a : F) (f : ℕ → F) (n : ℕ) → cons K a f (suc n) ≡ f n
  unfolding cons
  cons-suc a f n = refl

  pub shift_zero : (f : ℕ → F) → shift K 0 f ≡ f
  unfolding shift
  shift_zero f = refl

  pub shift_suc : (g : ℕ) (f : ℕ → F) → shift K (suc g) f ≡ cons K 𝟘 (shift K g f)
  unfolding shift
  shift_suc g f = refl

  pub shift-low : (g : ℕ) (f : ℕ → F) (i : ℕ) → i < g → shift K g f i ≡ 𝟘
  unfolding shift cons
  shift-low zero f i l = absurd (omega arith)
  shift-low (suc g) f zero l = refl
  shift-low (suc g) f (suc i) l = shift-low g f i (omega arith)

  pub shift-at : (g : ℕ) (f : ℕ → F) (i : ℕ) → shift K g f (g + i) ≡ f i
  unfolding shift cons
  shift-at zero f i = rw (zero-add i)
  shift-at (suc g) f i = rw (suc-add g i) (shift-at g f i)

  pub conv-zero : (f g : ℕ → F) → conv K f g 0 ≡ f 0 ⊗ g 0
  unfolding conv
  conv-zero f g = refl

  pub conv-suc : (f g : ℕ → F) (n : ℕ) → conv K f g (suc n) ≡ f 0 ⊗ g (suc n) ⊕ conv K (λ i. f (suc i)) g n
  unfolding conv
  conv-suc f g n = refl

  -- The product is linear in both factors.
  pub conv-add : (f g h : ℕ → F) (n : ℕ) → conv K (λ i. f i ⊕ g i) h n ≡ conv K f h n ⊕ conv K g h n
  conv-add f g h zero = simp (conv-zero, ring)
  conv-add f g h (suc n) = simp (conv-suc, conv-add (λ i. f (suc i)) (λ i. g (suc i)) h n, ring)

  pub conv-scale : (a : F) (f h : ℕ → F) (n : ℕ) → conv K (λ i. a ⊗ f i) h n ≡ a ⊗ conv K f h n
  conv-scale a f h zero = simp (conv-zero, ring)
  conv-scale a f h (suc n) = simp (conv-suc, conv-scale a (λ i. f (suc i)) h n, ring)

  pub conv-add-right : (f g h : ℕ → F) (n : ℕ) → conv K f (λ i. g i ⊕ h i) n ≡ conv K f g n ⊕ conv K f h n
  conv-add-right f g h zero = simp (conv-zero, ring)
  conv-add-right f g h (suc n) = simp (conv-suc, conv-add-right (λ i. f (suc i)) g h n, ring)

  pub conv-scale-right : (a : F) (f h : ℕ → F) (n : ℕ) → conv K f (λ i. a ⊗ h i) n ≡ a ⊗ conv K f h n
  conv-scale-right a f h zero = simp (conv-zero, ring)
  conv-scale-right a f h (suc n) = simp (conv-suc, conv-scale-right a (λ i. f (suc i)) h n, ring)

  -- the product by the other factor's head and tail
  pub conv-right : (f g : ℕ → F) (n : ℕ) → conv K f g (suc n) ≡ f (suc n) ⊗ g 0 ⊕ conv K f (λ i. g (suc i)) n
  conv-right f g zero = rw (conv-suc f g 0) (simp (conv-zero, ring))
  conv-right f g (suc n) = rw (conv-suc f g (suc n), conv-right (λ i. f (suc i)) g n, conv-suc f (λ i. g (suc i)) n) (simp ring)

  pub conv-comm : (f g : ℕ → F) (n : ℕ) → conv K f g n ≡ conv K g f n
  conv-comm f g zero = simp (conv-zero, ring)
  conv-comm f g (suc n) = rw (conv-suc f g n, conv-right g f n, conv-comm (λ i. f (suc i)) g n) (simp ring)

  -- f (g h) = g (f h)
  pub conv-left-comm : (f g h : ℕ → F) (n : ℕ) → conv K f (conv K g h) n ≡ conv K g (conv K f h) n
  conv-left-comm f g h zero = simp (conv-zero, ring)
  conv-left-comm f g h (suc n) =
      rw (conv-suc f (conv K g h) n, conv-right g h n, conv-left-comm (λ i. f (suc i)) g h n, conv-right g (conv K f h) n, conv-zero f h)
      (simp (conv-suc f h)
      (rw (conv-add-right g (λ i. f 0 ⊗ h (suc i)) (conv K (λ i. f (suc i)) h) n, conv-scale-right (f 0) g (λ i. h (suc i)) n) (simp ring)))

  -- a coefficient is 0 where each of its products is
  pub conv-nil : (f g : ℕ → F) (n : ℕ) → ((i j : ℕ) → i + j ≡ n → f i ⊗ g j ≡ 𝟘) → conv K f g n ≡ 𝟘
  conv-nil f g zero h = conv-zero f g ∙ h 0 0 refl
  conv-nil f g (suc n) h = rw (conv-suc f g n, h 0 (suc n) (omega arith), conv-nil (λ i. f (suc i)) g n (λ i j e. h (suc i) j (omega arith))) (simp ring)

  -- only the first product may be other than zero
  pub conv-head : (f g : ℕ → F) (n : ℕ) → ((i j : ℕ) → suc i + j ≡ n → f (suc i) ⊗ g j ≡ 𝟘) → conv K f g n ≡ f 0 ⊗ g n
  conv-head f g zero h = conv-zero f g
  conv-head f g (suc n) h = rw (conv-suc f g n, conv-nil (λ i. f (suc i)) g n (λ i j e. h i j (omega arith))) (simp ring)

  pub conv-cong : (f g h : ℕ → F) (n : ℕ) → ((j : ℕ) → j ≤ n → g j ≡ h j) → conv K f g n ≡ conv K f h n
  conv-cong f g h zero e = rw (conv-zero f g, conv-zero f h, e 0 (omega arith))
  conv-cong f g h (suc n) e = rw (conv-suc f g n, conv-suc f h n, e (suc n) (omega arith), conv-cong (λ i. f (suc i)) g h n (λ j l. e j (omega arith)))

  pub conv-cong-left : (f g h : ℕ → F) (n : ℕ) → ((i : ℕ) → i ≤ n → f i ≡ g i) → conv K f h n ≡ conv K g h n
  conv-cong-left f g h n e = conv-comm f h n ∙ conv-cong h f g n e ∙ conv-comm h g n

  -- A square has the squares of the coefficients at the even powers and nothing at the odd ones.
  conv-square-tail : (f : ℕ → F) (n : ℕ) → conv K f f (suc (suc n)) ≡ conv K (λ i. f (suc i)) (λ i. f (suc i)) n
  conv-square-tail f n = rw (conv-suc f f (suc n), conv-right (λ i. f (suc i)) f n) (simp ring)

  pub conv-square-even : (f : ℕ → F) (i : ℕ) → conv K f f (i + i) ≡ f i ⊗ f i
  conv-square-even f zero = conv-zero f f
  conv-square-even f (suc i) =
      let e : suc i + suc i ≡ suc (suc (i + i)) = omega arith in
      rw (e, conv-square-tail f (i + i)) (conv-square-even (λ i. f (suc i)) i)

  pub conv-square-odd : (f : ℕ → F) (i : ℕ) → conv K f f (suc (i + i)) ≡ 𝟘
  conv-square-odd f zero = rw (conv-suc f f 0) (simp (conv-zero, ring))
  conv-square-odd f (suc i) =
      let e : suc i + suc i ≡ suc (suc (i + i)) = omega arith in
      rw (e, conv-square-tail f (suc (i + i))) (conv-square-odd (λ i. f (suc i)) i)

  -- A product times c, where c is the sum of a weight for the index in f and one for the index in g.
  pub conv-weigh : (u v : ℕ → F) (c : F) (f g : ℕ → F) (n : ℕ) → ((i j : ℕ) → i + j ≡ n → u i ⊕ v j ≡ c)
      → c ⊗ conv K f g n ≡ conv K (λ i. u i ⊗ f i) g n ⊕ conv K f (λ j. v j ⊗ g j) n
  conv-weigh u v c f g zero h = rw (conv-zero f g, conv-zero (λ i. u i ⊗ f i) g, conv-zero f (λ j. v j ⊗ g j), ← h 0 0 refl) (simp ring)
  conv-weigh u v c f g (suc n) h =
      rw (conv-suc f g n, conv-suc (λ i. u i ⊗ f i) g n, conv-suc f (λ j. v j ⊗ g j) n, K.mul-add)
      (rw (conv-weigh (λ i. u (suc i)) v c (λ i. f (suc i)) g n (λ i j e. h (suc i) j (omega arith)), ← h 0 (suc n) (omega arith)) (simp ring))

  -- the product with x f
  pub conv-cons : (f g : ℕ → F) (n : ℕ) → conv K (cons K 𝟘 f) g (suc n) ≡ conv K f g n
  unfolding cons
  conv-cons f g n = rw (conv-suc (cons K 𝟘 f) g n) (simp ring)

  pub conv-cons-right : (f g : ℕ → F) (n : ℕ) → conv K f (cons K 𝟘 g) (suc n) ≡ conv K f g n
  unfolding cons
  conv-cons-right f g n = rw (conv-right f (cons K 𝟘 g) n) (simp ring)

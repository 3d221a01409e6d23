-- Laws of the key equation of a word of bits: an odd discrepancy is zero, and the steps of the algorithm by two terms.
use mathlib.Core.Path.{◌≡◌, refl, sym, ap, ap₂, ◌∙◌}
use Prim.Native.Nat.{ℕ, zero, suc, ◌+◌, ◌-◌, ◌≤◌, ◌<◌, ◌/◌, ◌%◌}
use native.Mathlib.Omega.{arith}
use native.Mathlib.Decide.{dec_lt, ℕ_discrete}
use native.Mathlib.Nat.{zero-add, suc-add}
use Rattle.algebra.specs.Field.{BinaryField}
use Rattle.algebra.specs.Series.{cons, conv}
use Rattle.algebra.specs.Recurrence.{State, unit-series}
use Rattle.algebra.specs.Binary.{slope, Squares, BinaryState}
use Rattle.algebra.proofs.Field.{ring, nil-add}
use Rattle.algebra.proofs.Series.{
  conv-zero,
  conv-suc,
  conv-add,
  conv-scale,
  conv-comm,
  conv-left-comm,
  conv-cong,
  conv-cong-left,
  conv-cons,
  conv-cons-right,
  conv-weigh,
  conv-square-even,
  conv-square-odd,
}
use Rattle.algebra.proofs.Recurrence.{state-initial, state-keep, state-patch, state-grow}

module _ (K : BinaryField) where
  open K use {carrier as F, add as ◌⊕◌, mul as ◌⊗◌, nil as 𝟘, one as 𝟙}

  infixl 60 ◌⊕◌
  infixl 70 ◌⊗◌
  -- n as an element: one for odd n
  odd : ℕ → F
  odd zero = 𝟘
  odd (suc n) = 𝟙 ⊕ odd n

  odd-suc : (n : ℕ) → odd (suc n) ≡ 𝟙 ⊕ odd n
  unfolding odd
  odd-suc n = refl

  odd-add : (i j : ℕ) → odd i ⊕ odd j ≡ odd (i + j)
  odd-add zero j = unfold odd in rw (zero-add j) (simp ring)
  odd-add (suc i) j = rw (suc-add i j, odd-suc i, odd-suc (i + j), ← odd-add i j) (simp ring)

  slope-weight : (f : ℕ → F) (n : ℕ) → odd (suc n) ⊗ f (suc n) ≡ slope K f n
  unfolding slope odd
  slope-weight f zero = simp ring
  slope-weight f (suc zero) = simp ring
  slope-weight f (suc (suc n)) = ap (λ x. x ⊗ f (suc (suc (suc n)))) twice ∙ slope-weight (λ i. f (suc (suc i))) n
    where
      twice : odd (suc (suc (suc n))) ≡ odd (suc n)
      twice = simp ring

  slope-nil : (f : ℕ → F) (n : ℕ) → f (suc n) ≡ 𝟘 → slope K f n ≡ 𝟘
  slope-nil f n z = sym (slope-weight f n) ∙ rw z (simp ring)

  slope-odd : (f : ℕ → F) (h : ℕ) → slope K f (suc (h + h)) ≡ 𝟘
  slope-odd f h = sym (slope-weight f (suc (h + h))) ∙ rw (odd-suc (suc (h + h)), odd-suc (h + h), ← odd-add h h) (simp ring)

  -- f + q g
  slope-mix : (f g : ℕ → F) (q : F) (n : ℕ) → slope K (λ i. f i ⊕ q ⊗ g i) n ≡ slope K f n ⊕ q ⊗ slope K g n
  slope-mix f g q n = sym (slope-weight (λ i. f i ⊕ q ⊗ g i) n) ∙ rw (← slope-weight f n, ← slope-weight g n) (simp ring)

  conv-mix : (f g : ℕ → F) (q : F) (S : ℕ → F) (n : ℕ) → conv K (λ i. f i ⊕ q ⊗ g i) S n ≡ conv K f S n ⊕ q ⊗ conv K g S n
  conv-mix f g q S n = rw (conv-add K f (λ i. q ⊗ g i) S n, conv-scale K q g S n)

  -- The derivative of S is its square.
  squares-slope : (S : ℕ → F) (n : ℕ) → Squares K S n → (i : ℕ) → suc i < n → slope K S i ≡ conv K S S i
  squares-slope S n squares i l = go (ℕ_discrete (i % 2) 0)
    where
      even : (h : ℕ) → i ≡ h + h → slope K S i ≡ conv K S S i
      even h e =
          let m : suc (h + h) < n = omega arith in
          rw (e, conv-square-even K S h, ← squares h m, ← slope-weight S (h + h), odd-suc (h + h), ← odd-add h h) (simp ring)

      uneven : (h : ℕ) → i ≡ suc (h + h) → slope K S i ≡ conv K S S i
      uneven h e = rw (e, conv-square-odd K S h) (slope-odd S h)

      go : Dec (i % 2 ≡ 0) → slope K S i ≡ conv K S S i
      go (yes e) = even (i / 2) (omega arith)
      go (no e) = uneven (i / 2) (omega arith)

  -- Where the product with S is the derivative below an odd term k, the discrepancy at k is zero: with C S for the derivative of C and
  -- S S for that of S, the derivative of C S is C S S + C S S.
  pub discrepancy-odd : (S C : ℕ → F) (n h : ℕ) → Squares K S n → suc (h + h) < n → ((j : ℕ) → j < suc (h + h) → conv K C S j ≡ slope K C j)
      → conv K C S (suc (h + h)) ≡ 𝟘
  unfolding cons odd
  discrepancy-odd S C n h squares l products =
      sym (ap (λ x. x ⊗ conv K C S k) one ∙ simp ring)
      ∙ conv-weigh K odd odd (odd k) C S k (λ i j e. odd-add i j ∙ ap odd e)
      ∙ ap₂ ◌⊕◌ left right
      ∙ K.add-self _
    where
      k : ℕ
      k = suc (h + h)

      one : odd (suc (h + h)) ≡ 𝟙
      one = odd-suc (h + h) ∙ rw (← odd-add h h) (simp ring)

      below : (i : ℕ) → i ≤ suc (h + h) → odd i ⊗ C i ≡ cons K 𝟘 (conv K C S) i
      below zero m = simp ring
      below (suc i) m = slope-weight C i ∙ sym (products i (omega arith))

      left : conv K (λ i. odd i ⊗ C i) S (suc (h + h)) ≡ conv K (conv K C S) S (h + h)
      left = conv-cong-left K (λ i. odd i ⊗ C i) (cons K 𝟘 (conv K C S)) S (suc (h + h)) below ∙ conv-cons K (conv K C S) S (h + h)

      squared : (i : ℕ) → i ≤ suc (h + h) → odd i ⊗ S i ≡ cons K 𝟘 (conv K S S) i
      squared zero m = simp ring
      squared (suc i) m = slope-weight S i ∙ squares-slope S n squares i (omega arith)

      right : conv K C (λ i. odd i ⊗ S i) (suc (h + h)) ≡ conv K (conv K C S) S (h + h)
      right =
          conv-cong K C (λ i. odd i ⊗ S i) (cons K 𝟘 (conv K S S)) (suc (h + h)) squared
          ∙ conv-cons-right K C (conv K S S) (h + h)
          ∙ conv-left-comm K C S S (h + h)
          ∙ conv-comm K S (conv K C S) (h + h)

  pub binary-initial : (S : ℕ → F) → BinaryState K S 0 0 𝟙 (unit-series K) (cons K 𝟘 (unit-series K))
  unfolding slope unit-series cons
  binary-initial S = record {
    state = state-initial K S;
    product = λ j l. absurd (omega arith);
    update = λ j l. absurd (omega arith);
    hit = conv-zero K (cons K 𝟘 (unit-series K)) S ∙ simp ring;
  }

  module _ (S : ℕ → F) (h L : ℕ) (b : F) (C T : ℕ → F) (s : BinaryState K S h L b C T) (n : ℕ) (squares : Squares K S n) (fits : suc (h + h) < n) where
    double : suc h + suc h ≡ suc (suc (h + h))
    double = omega arith

    -- The odd term needs no more than that the product at the even one is the derivative.
    advance : (M : ℕ) (u : F) (D U : ℕ → F) → State K S (suc (h + h)) M u D (cons K 𝟘 U) → ((j : ℕ) → j < suc (h + h) → conv K D S j ≡ slope K D j)
        → ((j : ℕ) → j < h + h → conv K U S j ≡ slope K U j) → conv K U S (h + h) ≡ slope K U (h + h) ⊕ u
        → BinaryState K S (suc h) M u D (cons K 𝟘 (cons K 𝟘 U))
    unfolding cons slope
    advance M u D U next products updates hit = record {
      state = rw double (state-keep K S (suc (h + h)) M u D (cons K 𝟘 U) next zero₁);
      product = λ j l. product₁ j (omega arith) (dec_lt j (suc (h + h)));
      update = λ j l. update₁ j (omega arith);
      hit = rw double (twice (h + h) ∙ hit);
    }
      where
        zero₁ : conv K D S (suc (h + h)) ≡ 𝟘
        zero₁ = discrepancy-odd S D n h squares fits products

        product₁ : (j : ℕ) → j < suc (suc (h + h)) → Dec (j < suc (h + h)) → conv K D S j ≡ slope K D j
        product₁ j l (yes m) = products j m
        product₁ j l (no m) = let e : j ≡ suc (h + h) = omega arith in rw e (zero₁ ∙ sym (slope-odd D h))

        twice : (j : ℕ) → conv K (cons K 𝟘 (cons K 𝟘 U)) S (suc (suc j)) ≡ conv K U S j
        twice j = conv-cons K (cons K 𝟘 U) S (suc j) ∙ conv-cons K U S j

        update₁ : (j : ℕ) → j < suc (suc (h + h)) → conv K (cons K 𝟘 (cons K 𝟘 U)) S j ≡ slope K (cons K 𝟘 (cons K 𝟘 U)) j
        update₁ zero l = conv-zero K (cons K 𝟘 (cons K 𝟘 U)) S ∙ simp ring
        update₁ (suc zero) l = conv-suc K (cons K 𝟘 (cons K 𝟘 U)) S 0 ∙ simp (conv-zero, ring)
        update₁ (suc (suc j)) l = twice j ∙ updates j (omega arith)

    -- C is shorter than k, so that its derivative is zero at k.
    product-end : slope K C (h + h) ≡ 𝟘
    product-end = slope-nil C (h + h) (s.state.generates.short (suc (h + h)) (omega (arith, s.state.fits)))

    product-all : (D : ℕ → F) → ((j : ℕ) → j < h + h → conv K D S j ≡ slope K D j) → conv K D S (h + h) ≡ slope K D (h + h)
        → (j : ℕ) → j < suc (h + h) → conv K D S j ≡ slope K D j
    product-all D below at j l = go (dec_lt j (h + h))
      where
        go : Dec (j < h + h) → conv K D S j ≡ slope K D j
        go (yes m) = below j m
        go (no m) = let e : j ≡ h + h = omega arith in rw e at

    pub binary-keep : conv K C S (h + h) ≡ 𝟘 → BinaryState K S (suc h) L b C (cons K 𝟘 (cons K 𝟘 T))
    binary-keep z =
        advance L b C T (state-keep K S (h + h) L b C T s.state z) (product-all C s.product (z ∙ sym product-end)) s.update s.hit

    -- a discrepancy d, and q = d / b
    module _ (d q : F) (is : conv K C S (h + h) ≡ d) (quotient : b ⊗ q ≡ d) where
      mixed : (j : ℕ) → j < suc (h + h) → conv K (λ i. C i ⊕ q ⊗ T i) S j ≡ slope K (λ i. C i ⊕ q ⊗ T i) j
      mixed = product-all (λ i. C i ⊕ q ⊗ T i) below at
        where
          below : (j : ℕ) → j < h + h → conv K (λ i. C i ⊕ q ⊗ T i) S j ≡ slope K (λ i. C i ⊕ q ⊗ T i) j
          below j l = rw (conv-mix C T q S j, slope-mix C T q j, s.product j l, s.update j l)

          at : conv K (λ i. C i ⊕ q ⊗ T i) S (h + h) ≡ slope K (λ i. C i ⊕ q ⊗ T i) (h + h)
          at = rw (conv-mix C T q S (h + h), slope-mix C T q (h + h), is, s.hit, product-end, ← quotient) (simp ring)

      pub binary-patch : h + h < L + L → BinaryState K S (suc h) L b (λ i. C i ⊕ q ⊗ T i) (cons K 𝟘 (cons K 𝟘 T))
      binary-patch l = advance L b (λ i. C i ⊕ q ⊗ T i) T (state-patch K S (h + h) L b C T s.state d q is quotient l) mixed s.update s.hit

      pub binary-grow : ¬ (d ≡ 𝟘) → L + L ≤ h + h → BinaryState K S (suc h) (suc (h + h) - L) d (λ i. C i ⊕ q ⊗ T i) (cons K 𝟘 (cons K 𝟘 C))
      binary-grow z l =
          advance (suc (h + h) - L) d (λ i. C i ⊕ q ⊗ T i) C (state-grow K S (h + h) L b C T s.state d q is quotient z l) mixed s.product
          (is ∙ sym (rw product-end (nil-add K d)))

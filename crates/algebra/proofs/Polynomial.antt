-- Laws of powers, of Horner's rule, and of the roots of a polynomial.
use mathlib.Core.Path.{◌≡◌, refl, sym, ap, ◌∙◌}
use Prim.Native.Nat.{ℕ, zero, suc, ◌+◌, ◌*◌, ◌^◌, ◌≤◌, ◌<◌, ◌-◌, ◌/◌, ◌%◌}
use native.Mathlib.Omega.{arith}
use native.Mathlib.Decide.{dec_lt, ℕ_discrete}
use native.Mathlib.Nat.{zero-add, suc-add, add-zero, add-suc, mul-zero, mul-suc, mul_comm, add_comm}
use Rattle.algebra.specs.Field.{BinaryField}
use Rattle.algebra.specs.Series.{cons, conv}
use Rattle.algebra.specs.Sum.{sum}
use Rattle.algebra.specs.Polynomial.{pow, horner, value, low, Distinct}
use Rattle.algebra.proofs.Field.{ring, add-move, add-nil-eq}
use Rattle.algebra.proofs.Series.{cons-zero, cons-suc, conv-zero, conv-right, conv-scale-right}
use Rattle.algebra.proofs.Sum.{sum-suc, sum-zero, sum-cong, sum-nil, sum-add, sum-scale, sum_head}

module _ (K : BinaryField) where
  open K use {carrier as F, add as ◌⊕◌, mul as ◌⊗◌, nil as 𝟘, one as 𝟙}

  infixl 60 ◌⊕◌
  infixl 70 ◌⊗◌
  pub pow-zero : (x : F) → pow K x 0 ≡ 𝟙
  unfolding pow
  pow-zero x = refl

  pub pow-suc : (x : F) (n : ℕ) → pow K x (suc n) ≡ x ⊗ pow K x n
  unfolding pow
  pow-suc x n = refl

  pub pow-unit : (x : F) (n : ℕ) → ¬ (x ≡ 𝟘) → ¬ (pow K x n ≡ 𝟘)
  pow-unit x zero h e = K.one-not-nil (sym (pow-zero x) ∙ e)
  pow-unit x (suc n) h e = pow-unit x n h (K.no-divisors x _ (sym (pow-suc x n) ∙ e) h)

  pub pow-add : (x : F) (m n : ℕ) → pow K x (m + n) ≡ pow K x m ⊗ pow K x n
  pow-add x zero n = rw (zero-add n, pow-zero x) (simp ring)
  pow-add x (suc m) n = rw (suc-add m n, pow-suc x (m + n), pow-suc x m, pow-add x m n) (simp ring)

  pub pow-one : (n : ℕ) → pow K 𝟙 n ≡ 𝟙
  pow-one zero = pow-zero 𝟙
  pow-one (suc n) = rw (pow-suc 𝟙 n, pow-one n) (simp ring)

  pub pow-mul : (x y : F) (n : ℕ) → pow K (x ⊗ y) n ≡ pow K x n ⊗ pow K y n
  pow-mul x y zero = simp (pow-zero, ring)
  pow-mul x y (suc n) = rw (pow-suc (x ⊗ y) n, pow-suc x n, pow-suc y n, pow-mul x y n) (simp ring)

  -- a power of a power
  pub pow-pow : (x : F) (m n : ℕ) → pow K (pow K x m) n ≡ pow K x (m * n)
  pow-pow x m zero = rw (mul-zero m, pow-zero (pow K x m)) (sym (pow-zero x))
  pow-pow x m (suc n) = rw (mul-suc m n, add_comm (m * n) m, pow-add x m (m * n), pow-suc (pow K x m) n, pow-pow x m n)

  pub pow-swap : (x : F) (m n : ℕ) → pow K (pow K x m) n ≡ pow K (pow K x n) m
  pow-swap x m n = pow-pow x m n ∙ ap (pow K x) (mul_comm m n) ∙ sym (pow-pow x n m)

  pub distinct-eq : (w : ℕ) (X : ℕ → F) → Distinct K w X → (i j : ℕ) → i < w → j < w → X i ≡ X j → i ≡ j
  distinct-eq w X d i j l m e = go (dec_lt i j) (dec_lt j i)
    where
      go : Dec (i < j) → Dec (j < i) → i ≡ j
      go (yes p) q = absurd (d i j p m e)
      go (no p) (yes q) = absurd (d j i q l (sym e))
      go (no p) (no q) = omega arith

  pub horner-zero : (f : ℕ → F) (x : F) → horner K f x 0 ≡ 𝟘
  unfolding horner
  horner-zero f x = refl

  pub horner-suc : (f : ℕ → F) (x : F) (n : ℕ) → horner K f x (suc n) ≡ x ⊗ horner K f x n ⊕ f n
  unfolding horner
  horner-suc f x n = refl

  pub horner-cong : (f g : ℕ → F) (x : F) (n : ℕ) → ((i : ℕ) → i < n → f i ≡ g i) → horner K f x n ≡ horner K g x n
  horner-cong f g x zero h = simp horner-zero
  horner-cong f g x (suc n) h = rw (horner-suc f x n, horner-suc g x n, horner-cong f g x n (λ i l. h i (omega arith)), h n (omega arith))

  -- a word of n followed by a word of d
  pub horner-append : (f : ℕ → F) (x : F) (n d : ℕ) → horner K f x (n + d) ≡ pow K x d ⊗ horner K f x n ⊕ horner K (λ j. f (n + j)) x d
  horner-append f x n zero = rw (add-zero n, pow-zero x, horner-zero (λ j. f (n + j)) x) (simp ring)
  horner-append f x n (suc d) = rw (add-suc n d, horner-suc f x (n + d), horner-append f x n d, pow-suc x d, horner-suc (λ j. f (n + j)) x d) (simp ring)

  -- a leading zero
  pub horner-tail : (f : ℕ → F) (x : F) (n : ℕ) → f 0 ≡ 𝟘 → horner K f x (suc n) ≡ horner K (λ i. f (suc i)) x n
  horner-tail f x zero z = rw (horner-suc f x 0, horner-zero f x, horner-zero (λ i. f (suc i)) x, z) (simp ring)
  horner-tail f x (suc n) z = rw (horner-suc f x (suc n), horner-tail f x n z, horner-suc (λ i. f (suc i)) x n)

  -- as a sum, the lowest power first
  pub horner-sum : (f : ℕ → F) (x : F) (n : ℕ) → horner K f x n ≡ sum K n (λ p. f (n - suc p) ⊗ pow K x p)
  horner-sum f x zero = horner-zero f x ∙ sym (sum-zero K _)
  horner-sum f x (suc n) =
      rw (
        horner-suc f x n,
        horner-sum f x n,
        sum_head K n (λ p. f (suc n - suc p) ⊗ pow K x p),
        pow-zero x,
        ← sum-scale K n x (λ p. f (n - suc p) ⊗ pow K x p),
        sum-cong K n (λ p. f (suc n - suc (suc p)) ⊗ pow K x (suc p)) (λ p. x ⊗ (f (n - suc p) ⊗ pow K x p)) (λ p l. rw (pow-suc x p, index p) (simp ring)),
        last,
      ) (simp ring)
    where
      index : (p : ℕ) → suc n - suc (suc p) ≡ n - suc p
      index p = omega arith

      last : suc n - 1 ≡ n
      last = omega arith

  -- Squares, where each coefficient is its own square, as those of a word of bits are.
  module _ (f : ℕ → F) (binary : (i : ℕ) → f i ⊗ f i ≡ f i) where
    pub horner-square : (x : F) (n : ℕ) → horner K f (x ⊗ x) n ≡ horner K f x n ⊗ horner K f x n
    horner-square x zero = simp (horner-zero, ring)
    horner-square x (suc n) = rw (horner-suc f (x ⊗ x) n, horner-suc f x n, horner-square x n) (simp ring (rw (binary n)))

    -- A zero x gives the zeros x^2, x^4, ..
    pub horner-squares : (x : F) (n i : ℕ) → horner K f x n ≡ 𝟘 → horner K f (pow K x (2 ^ i)) n ≡ 𝟘
    horner-squares x n zero h = rw (pow-suc x 0, pow-zero x, K.mul-one x) h
    horner-squares x n (suc i) h =
        let d : 2 ^ suc i ≡ 2 ^ i + 2 ^ i = omega arith in
        rw (d, pow-add x (2 ^ i) (2 ^ i), horner-square (pow K x (2 ^ i)) n, horner-squares x n i h) (simp ring)

    odd-zeros : (a : F) (n t : ℕ) → ((j : ℕ) → j < t → horner K f (pow K a (suc (j + j))) n ≡ 𝟘)
        → (fuel j : ℕ) → j ≤ fuel → 0 < j → j ≤ t + t → horner K f (pow K a j) n ≡ 𝟘
    odd-zeros a n t h zero j l p q = absurd (omega arith)
    odd-zeros a n t h (suc fuel) j l p q = go (odd-zeros a n t h fuel) (ℕ_discrete (j % 2) 0)
      where
        even : (i : ℕ) → j ≡ i + i → horner K f (pow K a i) n ≡ 𝟘 → horner K f (pow K a j) n ≡ 𝟘
        even i e z = rw (e, pow-add a i i, horner-square (pow K a i) n, z) (simp ring)

        odd : (i : ℕ) → j ≡ suc (i + i) → horner K f (pow K a j) n ≡ 𝟘
        odd i e = rw e (h i (omega arith))

        go : ((j : ℕ) → j ≤ fuel → 0 < j → j ≤ t + t → horner K f (pow K a j) n ≡ 𝟘) → Dec (j % 2 ≡ 0) → horner K f (pow K a j) n ≡ 𝟘
        go r (yes e) = even (j / 2) (omega arith) (r (j / 2) (omega arith) (omega arith) (omega arith))
        go r (no e) = odd (j / 2) (omega arith)

    -- A word that is zero at the odd powers a, a^3, .., a^(2t - 1) is zero at the even ones up to a^(2t) too.
    pub horner-odd-zeros : (a : F) (n t : ℕ) → ((j : ℕ) → j < t → horner K f (pow K a (suc (j + j))) n ≡ 𝟘)
        → (j : ℕ) → 0 < j → j ≤ t + t → horner K f (pow K a j) n ≡ 𝟘
    horner-odd-zeros a n t h j = odd-zeros a n t h j j (omega arith)

  pub value-zero : (f : ℕ → F) (x : F) → value K f x 0 ≡ f 0
  unfolding value
  value-zero f x = rw (horner-suc f x 0, horner-zero f x) (simp ring)

  pub value-suc : (f : ℕ → F) (x : F) (n : ℕ) → value K f x (suc n) ≡ x ⊗ value K f x n ⊕ f (suc n)
  unfolding value
  value-suc f x n = horner-suc f x (suc n)

  pub value-horner : (f : ℕ → F) (x : F) (n : ℕ) → value K f x n ≡ horner K f x (suc n)
  unfolding value
  value-horner f x n = refl

  -- the product with 1, x, x^2, ..
  pub conv-pow : (f : ℕ → F) (x : F) (n : ℕ) → conv K f (pow K x) n ≡ value K f x n
  conv-pow f x zero = simp (conv-zero, pow-zero, value-zero, ring)
  conv-pow f x (suc n) =
      rw (conv-right K f (pow K x) n, value-suc f x n, pow-zero x) (simp (pow-suc x) (rw (conv-scale-right K x f (pow K x) n, conv-pow f x n) (simp ring)))

  -- f ends at L: the powers above it factor out.
  pub value-high : (f : ℕ → F) (x : F) (L k : ℕ) → ((i : ℕ) → L < i → f i ≡ 𝟘) → value K f x (L + k) ≡ value K f x L ⊗ pow K x k
  value-high f x L zero h = rw (add-zero L, pow-zero x) (simp ring)
  value-high f x L (suc k) h = rw (add-suc L k, value-suc f x (L + k), h (suc (L + k)) (omega arith), value-high f x L k h, pow-suc x k) (simp ring)

  -- Division by x + r: the quotient's coefficients are the values at r.
  pub value-divide : (f : ℕ → F) (x r : F) (n : ℕ) → value K f x (suc n) ⊕ value K f r (suc n) ≡ (x ⊕ r) ⊗ value K (value K f r) x n
  value-divide f x r zero = rw (value-suc f x 0, value-suc f r 0) (simp (value-zero, ring))
  value-divide f x r (suc n) =
      rw (value-suc f x (suc n), value-suc f r (suc n), value-suc (value K f r) x n, add-move K _ _ _ (value-divide f x r n)) (simp ring)

  -- A polynomial of degree n or less with n + 1 distinct roots: its leading coefficient is zero.
  pub roots : (n : ℕ) (f X : ℕ → F) → Distinct K (suc n) X → ((i : ℕ) → i ≤ n → value K f (X i) n ≡ 𝟘) → f 0 ≡ 𝟘
  roots zero f X d h = sym (value-zero f (X 0)) ∙ h 0 (omega arith)
  roots (suc n) f X d h = sym (value-zero f r) ∙ roots n (value K f r) X (λ i j l m. d i j l (omega arith)) down
    where
      r : F
      r = X (suc n)

      down : (i : ℕ) → i ≤ n → value K (value K f r) (X i) n ≡ 𝟘
      down i l = K.no-divisors (X i ⊕ r) _ (sym (value-divide f (X i) r n) ∙ rw (h i (omega arith), h (suc n) (omega arith)) (K.add-self 𝟘))
          (λ e. d i (suc n) (omega arith) (omega arith) (add-nil-eq K _ _ e))

  -- A word of n coefficients that is zero at n distinct elements is zero throughout.
  pub roots-all : (n : ℕ) (f X : ℕ → F) → Distinct K n X → ((i : ℕ) → i < n → horner K f (X i) n ≡ 𝟘) → (j : ℕ) → j < n → f j ≡ 𝟘
  roots-all zero f X d h = λ j l. absurd (omega arith)
  roots-all (suc n) f X d h =
      each (roots-all n (λ i. f (suc i)) X (λ i j l m. d i j l (omega arith)) (λ i l. sym (horner-tail f (X i) n leading) ∙ h i (omega arith)))
    where
      leading : f 0 ≡ 𝟘
      leading = roots n f X d (λ i m. value-horner f (X i) n ∙ h i (omega arith))

      each : ((j : ℕ) → j < n → f (suc j) ≡ 𝟘) → (j : ℕ) → j < suc n → f j ≡ 𝟘
      each rest zero l = leading
      each rest (suc j) l = rest j (omega arith)

  -- Powers of distinct elements are linearly independent: w sums of powers that are zero have coefficients that are zero.
  pub powers-independent : (w : ℕ) (c X : ℕ → F) → Distinct K w X → ((k : ℕ) → k < w → sum K w (λ e. c e ⊗ pow K (X e) k) ≡ 𝟘) → (e : ℕ) → e < w → c e ≡ 𝟘
  powers-independent zero c X d h e l = absurd (omega arith)
  powers-independent (suc w) c X d h e l =
      go (first (powers-independent w (λ e. c e ⊗ (X e ⊕ X w)) X (λ i j l m. d i j l (omega arith)) less)) (dec_lt e w)
    where
      S : ℕ → F
      S k = sum K w (λ e. c e ⊗ pow K (X e) k)

      last : (k : ℕ) → k < suc w → S k ≡ c w ⊗ pow K (X w) k
      last k m = add-nil-eq K _ _ (sym (sum-suc K w (λ e. c e ⊗ pow K (X e) k)) ∙ h k m)

      each : (k e : ℕ) → c e ⊗ (X e ⊕ X w) ⊗ pow K (X e) k ≡ c e ⊗ pow K (X e) (suc k) ⊕ X w ⊗ (c e ⊗ pow K (X e) k)
      each k e = rw (pow-suc (X e) k) (simp ring)

      less : (k : ℕ) → k < w → sum K w (λ e. c e ⊗ (X e ⊕ X w) ⊗ pow K (X e) k) ≡ 𝟘
      less k m =
          rw (
            sum-cong K w _ _ (λ e l. each k e),
            sum-add K w (λ e. c e ⊗ pow K (X e) (suc k)) (λ e. X w ⊗ (c e ⊗ pow K (X e) k)),
            sum-scale K w (X w) (λ e. c e ⊗ pow K (X e) k),
            last k (omega arith),
            last (suc k) (omega arith),
            pow-suc (X w) k,
          ) (simp ring)

      first : ((e : ℕ) → e < w → c e ⊗ (X e ⊕ X w) ≡ 𝟘) → (e : ℕ) → e < w → c e ≡ 𝟘
      first p e m = K.no-divisors (X e ⊕ X w) (c e) (K.mul_comm _ _ ∙ p e m) (λ q. d e w m (omega arith) (add-nil-eq K _ _ q))

      end : ((e : ℕ) → e < w → c e ≡ 𝟘) → c w ≡ 𝟘
      end p = rw (last 0 (omega arith), pow-zero (X w), K.mul-one (c w)) at (sum-nil K w (λ e. c e ⊗ pow K (X e) 0) (λ e m. rw (p e m) (simp ring)))

      go : ((e : ℕ) → e < w → c e ≡ 𝟘) → Dec (e < w) → c e ≡ 𝟘
      go p (yes m) = p e m
      go p (no m) = let q : e ≡ w = omega arith in rw q (end p)

  pub low-zero : (r : ℕ → F) (y : F) → low K 0 r y ≡ 𝟘
  unfolding low
  low-zero r y = sum-zero K (λ p. r p ⊗ pow K y p)

  pub low-suc : (n : ℕ) (r : ℕ → F) (y : F) → low K (suc n) r y ≡ low K n r y ⊕ r n ⊗ pow K y n
  unfolding low
  low-suc n r y = sum-suc K n (λ p. r p ⊗ pow K y p)

  pub low-add : (n : ℕ) (r s : ℕ → F) (y : F) → low K n (λ p. r p ⊕ s p) y ≡ low K n r y ⊕ low K n s y
  low-add zero r s y = simp (low-zero, ring)
  low-add (suc n) r s y = simp (low-suc, low-add n r s y, ring)

  pub low-scale : (n : ℕ) (a : F) (r : ℕ → F) (y : F) → low K n (λ p. a ⊗ r p) y ≡ a ⊗ low K n r y
  low-scale zero a r y = simp (low-zero, ring)
  low-scale (suc n) a r y = simp (low-suc, low-scale n a r y, ring)

  pub low-cons : (n : ℕ) (b : F) (r : ℕ → F) (y : F) → low K (suc n) (cons K b r) y ≡ b ⊕ y ⊗ low K n r y
  low-cons zero b r y = rw (low-suc 0 (cons K b r) y, low-zero (cons K b r) y, low-zero r y, pow-zero y, cons-zero K b r) (simp ring)
  low-cons (suc n) b r y = rw (low-suc (suc n) (cons K b r) y, low-cons n b r y, low-suc n r y, pow-suc y n, cons-suc K b r n) (simp ring)

  pub low-nil : (n : ℕ) (r : ℕ → F) (y : F) → ((p : ℕ) → p < n → r p ≡ 𝟘) → low K n r y ≡ 𝟘
  unfolding low
  low-nil n r y h = sum-nil K n (λ p. r p ⊗ pow K y p) (λ p l. rw (h p l) (simp ring))

  -- the other order of the coefficients
  pub low-horner : (n : ℕ) (r : ℕ → F) (y : F) → low K n r y ≡ horner K (λ i. r (n - suc i)) y n
  unfolding low
  low-horner n r y = sum-cong K n _ _ (λ p l. ap (λ i. r i ⊗ pow K y p) (back p l)) ∙ sym (horner-sum (λ i. r (n - suc i)) y n)
    where
      back : (p : ℕ) → p < n → p ≡ n - suc (n - suc p)
      back p l = omega arith

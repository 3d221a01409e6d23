-- Numbers as polynomials over GF(2): the binary digit p of x is the coefficient of x^p.
--
-- one_at x p          the digit p of x is one
-- terms K x p        the coefficient of x^p as an element of the field K
-- value_at K n x y    the value at y of a polynomial x of degree below n
use mathlib.Core.Path.{◌≡◌, refl, sym, ap, ◌∙◌}
use mathlib.Core.Bool.{Bool, true, false}
use Prim.Native.Nat.{ℕ, zero, suc, ◌+◌, ◌*◌, ◌/◌, ◌%◌, ◌^◌, ◌≤◌, ◌<◌}
use native.Mathlib.Omega.{arith}
use native.Mathlib.Nat.{div-eq_of_lt, zero-mul, one-mul, add-zero, add-suc, pow-suc, lt_of_lt_of_le}
use lib.Pow.{shr-shr, pow_pos, pow_mono}
use lib.ListN.{get_or}
use lib.Dec.{eqb}
use lib.Bits.{bit_xor, xor_shr}
use lib.Bits
use Rattle.field.proofs.Xor.{xor-bit, mod2, Bit}
use Rattle.bits.specs.Bits.{bit, digit, digits}
use Rattle.bits.proofs.Numbers.{bit-zero, digits-at}
use Rattle.algebra.specs.Field.{BinaryField}
use Rattle.algebra.specs.Series.{cons}
use Rattle.algebra.specs.Polynomial.{horner, low}
use Rattle.algebra.specs.Word.{flip, differ}
use Rattle.algebra.specs.Word as word
use Rattle.algebra.proofs.Field.{ring}
use Rattle.algebra.proofs.Sum.{sum-cong, sum-short}
use Rattle.algebra.proofs.Polynomial.{horner-cong, low-zero, low-add, low-cons, low-nil, low-horner}
use Rattle.algebra.proofs.Word.{bit-differ}
use Rattle.code.specs.Generator.{times}

abbrev pub one_at : ℕ → ℕ → Bool
one_at x p = eqb (bit x p) 1

differ-digits : (u v : ℕ) → Bit u → Bit v → eqb (Bits.differ u v) 1 ≡ differ (eqb u 1) (eqb v 1)
unfolding differ flip
differ-digits zero zero h k = refl
differ-digits zero (suc zero) h k = refl
differ-digits (suc zero) zero h k = refl
differ-digits (suc zero) (suc zero) h k = refl
differ-digits zero (suc (suc v)) h k = absurd (omega arith)
differ-digits (suc zero) (suc (suc v)) h k = absurd (omega arith)
differ-digits (suc (suc u)) v h k = absurd (omega arith)

pub one_at-xor : (x z p : ℕ) → one_at (bit_xor x z) p ≡ differ (one_at x p) (one_at z p)
unfolding bit
one_at-xor x z p =
    ap (λ n. eqb (n % 2) 1) (xor_shr x z p) ∙ ap (λ n. eqb n 1) (xor-bit (x / 2 ^ p) (z / 2 ^ p)) ∙ differ-digits (x / 2 ^ p % 2) (z / 2 ^ p % 2) (mod2 _) (mod2 _)

pub one_at-high : (x p : ℕ) → x < 2 ^ p → one_at x p ≡ false
unfolding bit
one_at-high x p h = rw (div-eq_of_lt h)

one_at-suc : (x p : ℕ) → one_at x (suc p) ≡ one_at (x / 2) p
unfolding bit
one_at-suc x p = let e : suc p ≡ 1 + p = omega arith in rw (e, ← shr-shr x 1 p)

one_at-zero : (x : ℕ) → one_at x 0 ≡ eqb (x % 2) 1
one_at-zero x = rw (bit-zero x)

-- One more coefficient b below the others.
pub one_at-next : (x : ℕ) (b : Bool) (p : ℕ) → one_at (x * 2 + digit b) (suc p) ≡ one_at x p
unfolding digit
one_at-next x true p = one_at-suc (x * 2 + 1) p ∙ (let e : (x * 2 + 1) / 2 ≡ x = omega arith in rw e)
one_at-next x false p = one_at-suc (x * 2 + 0) p ∙ (let e : (x * 2 + 0) / 2 ≡ x = omega arith in rw e)

one_at-first : (x : ℕ) (b : Bool) → one_at (x * 2 + digit b) 0 ≡ b
unfolding digit
one_at-first x true = one_at-zero (x * 2 + 1) ∙ (let e : (x * 2 + 1) % 2 ≡ 1 = omega arith in rw e)
one_at-first x false = one_at-zero (x * 2 + 0) ∙ (let e : (x * 2 + 0) % 2 ≡ 0 = omega arith in rw e)

-- A number below 2^n with no one below n is 0.
pub one_at-none : (n x : ℕ) → x < 2 ^ n → ((p : ℕ) → p < n → one_at x p ≡ false) → x ≡ 0
one_at-none zero x l h = omega arith
one_at-none (suc n) x l h =
    let l' : x < 2 ^ n * 2 = rw (pow-suc 2 n) at l in
    let e : x / 2 ≡ 0 = one_at-none n (x / 2) (omega arith) (λ p k. sym (one_at-suc x p) ∙ h (suc p) (omega arith)) in
    go (x % 2) refl e (sym (one_at-zero x) ∙ h 0 (omega arith))
  where
    go : (u : ℕ) → x % 2 ≡ u → x / 2 ≡ 0 → eqb (x % 2) 1 ≡ false → x ≡ 0
    go zero e f g = omega arith
    go (suc zero) e f g = let g' : eqb 1 1 ≡ false = rw e at g in let z : ◌≡◌ {A = ℕ} 0 1 = cc in absurd (omega arith)
    go (suc (suc u)) e f g = absurd (omega arith)

module _ (K : BinaryField) where
  open K use {carrier as F, add as ◌⊕◌, mul as ◌⊗◌, nil as 𝟘, one as 𝟙}

  infixl 60 ◌⊕◌
  infixl 70 ◌⊗◌
  unfoldable pub terms : ℕ → ℕ → F
  terms x p = word.bit K (one_at x p)

  pub terms-xor : (x z p : ℕ) → terms (bit_xor x z) p ≡ terms x p ⊕ terms z p
  unfolding terms
  terms-xor x z p = rw (one_at-xor x z p) (bit-differ K (one_at x p) (one_at z p))

  pub terms-high : (x p : ℕ) → x < 2 ^ p → terms x p ≡ 𝟘
  unfolding terms word.bit
  terms-high x p h = rw (one_at-high x p h)

  pub terms-next : (x : ℕ) (b : Bool) (p : ℕ) → terms (x * 2 + digit b) p ≡ cons K (word.bit K b) (terms x) p
  unfolding terms cons
  terms-next x b zero = rw (one_at-first x b)
  terms-next x b (suc p) = rw (one_at-next x b p)

  pub low-cong : (n : ℕ) (r s : ℕ → F) (y : F) → ((p : ℕ) → p < n → r p ≡ s p) → low K n r y ≡ low K n s y
  unfolding low
  low-cong n r s y h = sum-cong K n _ _ (λ p l. rw (h p l))

  unfoldable pub value_at : ℕ → ℕ → F → F
  value_at n x y = low K n (terms x) y

  pub value_at-xor : (n x z : ℕ) (y : F) → value_at n (bit_xor x z) y ≡ value_at n x y ⊕ value_at n z y
  unfolding value_at
  value_at-xor n x z y = low-cong n _ _ y (λ p l. terms-xor x z p) ∙ low-add K n (terms x) (terms z) y

  pub value_at-next : (n x : ℕ) (b : Bool) (y : F) → value_at (suc n) (x * 2 + digit b) y ≡ word.bit K b ⊕ y ⊗ value_at n x y
  unfolding value_at
  value_at-next n x b y = low-cong (suc n) _ _ y (λ p l. terms-next x b p) ∙ low-cons K n (word.bit K b) (terms x) y

  -- The lowest digit apart from the others.
  pub value_at-digit : (n x : ℕ) (b : Bool) (y : F) → x % 2 ≡ digit b → value_at (suc n) x y ≡ word.bit K b ⊕ y ⊗ value_at n (x / 2) y
  value_at-digit n x b y e = let d : x ≡ x / 2 * 2 + digit b = omega arith in ap (λ v. value_at (suc n) v y) d ∙ value_at-next n (x / 2) b y

  pub value_at-none : (x : ℕ) (y : F) → value_at 0 x y ≡ 𝟘
  unfolding value_at
  value_at-none x y = low-zero K (terms x) y

  pub value_at-zero : (n : ℕ) (y : F) → value_at n 0 y ≡ 𝟘
  unfolding value_at
  value_at-zero n y = low-nil K n (terms 0) y (λ p l. terms-high 0 p (pow_pos p))

  pub value_at-longer : (n k x : ℕ) (y : F) → n ≤ k → x < 2 ^ n → value_at k x y ≡ value_at n x y
  unfolding value_at low
  value_at-longer n k x y h l = sum-short K n k _ h (λ i m q. rw (terms-high x i (lt_of_lt_of_le l (pow_mono m))) (simp ring))

  -- The value of a product is the product of the values.
  pub value_at-times : (n k x z : ℕ) (y : F) → x < 2 ^ n → z < 2 ^ k → value_at (n + k) (times k x z) y ≡ value_at n x y ⊗ value_at k z y
  unfolding times word.bit digit
  value_at-times n zero x z y h l = let e : z ≡ 0 = omega arith in rw (e, value_at-zero (n + 0) y, value_at-zero 0 y) (simp ring)
  value_at-times n (suc k) x z y h l =
      rw (add-suc n k, value_at-xor (suc (n + k)) (z % 2 * x) (times k x (z / 2) * 2) y, first (value_at-times n k x (z / 2) y h (half l))) (go (z % 2) refl)
    where
      half : z < 2 ^ suc k → z / 2 < 2 ^ k
      half l = let m : z < 2 ^ k * 2 = rw (pow-suc 2 k) at l in omega arith

      first : value_at (n + k) (times k x (z / 2)) y ≡ value_at n x y ⊗ value_at k (z / 2) y
          → value_at (suc (n + k)) (times k x (z / 2) * 2) y ≡ y ⊗ (value_at n x y ⊗ value_at k (z / 2) y)
      first r = ap (λ v. value_at (suc (n + k)) v y) (sym (add-zero (times k x (z / 2) * 2))) ∙ value_at-next (n + k) (times k x (z / 2)) false y ∙ rw r (simp ring)

      go : (u : ℕ) → z % 2 ≡ u → value_at (suc (n + k)) (z % 2 * x) y ⊕ y ⊗ (value_at n x y ⊗ value_at k (z / 2) y) ≡ value_at n x y ⊗ value_at (suc k) z y
      go zero e = rw (value_at-digit k z false y e, e, zero-mul x, value_at-zero (suc (n + k)) y) (simp ring)
      go (suc zero) e = rw (value_at-digit k z true y e, e, one-mul x, value_at-longer n (suc (n + k)) x y (omega arith) h) (simp ring)
      go (suc (suc u)) e = absurd (omega arith)

  -- The value of the word of the n lowest digits.
  pub digits_value : (n x : ℕ) (y : F) → horner K (λ i. word.bit K (get_or (digits x n) i false)) y n ≡ value_at n x y
  unfolding value_at terms
  digits_value n x y = horner-cong K _ _ y n (λ i l. rw (digits-at x n i false l)) ∙ sym (low-horner K n (λ p. word.bit K (one_at x p)) y)

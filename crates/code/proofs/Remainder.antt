-- The remainder by the generator: a word is a codeword exactly if it is 0, a message followed by its parity is a codeword,
-- and the values of a word at a, a^2, .. are those of its remainder.
use mathlib.Core.Path.{◌≡◌, refl, sym, ap, ◌∙◌}
use mathlib.Core.Bool.{Bool, true, false, cond}
use mathlib.Core.List.{◌++◌}
use Prim.Native.Nat.{ℕ, zero, suc, ◌+◌, ◌*◌, ◌/◌, ◌%◌, ◌^◌, ◌≤◌, ◌<◌}
use native.Mathlib.Omega.{arith}
use native.Mathlib.Nat.{pow-suc, div-lt_iff_lt-mul, one-mul}
use lib.Pow.{pow_pos}
use lib.ListN.{length, get_or, replicate, length-replicate, get_or-replicate}
use lib.Dec.{eqb}
use lib.Bits.{bit_xor, xor_shr}
use Rattle.bits.specs.Bits.{bit, digit, digits}
use Rattle.bits.proofs.Numbers.{digit_lt, digits-length}
use Rattle.field.specs.declared.Field.{Field}
use Rattle.field.specs.declared.Field.TheVariants.{Thirteen, Fourteen}
use Rattle.field.specs.Field.{degree}
use Rattle.field.proofs.Instance.{gf, a}
use Rattle.algebra.specs.Field.{BinaryField}
use Rattle.algebra.specs.Series.{cons}
use Rattle.algebra.specs.Polynomial.{pow, horner, low}
use Rattle.algebra.specs.Remainder.{Zero, next, run}
use Rattle.algebra.specs.Word as word
use Rattle.algebra.proofs.Field.{ring, add-nil-eq, one-mul as one-mul-of}
use Rattle.algebra.proofs.Polynomial.{horner-zero, horner-suc, low-suc}
use Rattle.algebra.proofs.Remainder.{run_value, zeros-run-nil}
use Rattle.code.specs.Word.{Word}
use Rattle.code.specs.Code.{Codeword}
use Rattle.code.specs.Generator.{generator, remainder_step, remainder_of, remainder, parity}
use Rattle.code.proofs.Codeword.{elements, value-element, value-append, codeword-odd}
use Rattle.code.proofs.Polynomial.{one_at, one_at-next, one_at-none, terms, terms-next, terms-xor, terms-high, low-cong, value_at, value_at-zero, digits_value}
use Rattle.code.proofs.Conjugates.{exponent}
use Rattle.code.proofs.Generator.{bit-off, generator-monic, generator-zero, generator-codeword, conjugate-zero, conjugates-distinct}

-- ---- bounds

top_digit : (x d : ℕ) → x < 2 ^ suc d → (b : Bool) → one_at x d ≡ b → x / 2 ^ d ≡ digit b
unfolding bit digit
top_digit x d h b e = go (x / 2 ^ d) ((div-lt_iff_lt-mul (pow_pos d)).1 (let l : x < 2 ^ d * 2 = rw (pow-suc 2 d) at h in omega arith)) b e
  where
    go : (u : ℕ) → u < 2 → (b : Bool) → eqb (u % 2) 1 ≡ b → u ≡ digit b
    go zero l false e = refl
    go zero l true e = let z : ◌≡◌ {A = ℕ} 0 1 = cc in absurd (omega arith)
    go (suc zero) l true e = refl
    go (suc zero) l false e = let z : ◌≡◌ {A = ℕ} 0 1 = cc in absurd (omega arith)
    go (suc (suc u)) l b e = absurd (omega arith)

below_top : (x d : ℕ) → x / 2 ^ d ≡ 0 → x < 2 ^ d
below_top x d h = let l : x < 1 * 2 ^ d = (div-lt_iff_lt-mul (pow_pos d)).0 (omega arith) in rw (one-mul (2 ^ d)) at l

next-below : (d r : ℕ) (b : Bool) → r < 2 ^ d → r * 2 + digit b < 2 ^ suc d
next-below d r b l = let e = digit_lt b in rw (pow-suc 2 d) (omega arith)

step-below : (d g r : ℕ) (b : Bool) → g / 2 ^ d ≡ 1 → r < 2 ^ d → remainder_step d g r b < 2 ^ d
unfolding remainder_step digit
step-below d g r b h l = go (one_at (r * 2 + digit b) d) refl
  where
    go : (v : Bool) → one_at (r * 2 + digit b) d ≡ v → cond v (bit_xor g (r * 2 + digit b)) (r * 2 + digit b) < 2 ^ d
    go true e = below_top _ d (xor_shr g (r * 2 + digit b) d ∙ rw (h, top_digit (r * 2 + digit b) d (next-below d r b l) true e))
    go false e = below_top _ d (top_digit (r * 2 + digit b) d (next-below d r b l) false e)

pub remainder_of-below : (d g : ℕ) (w : Word) (n : ℕ) → g / 2 ^ d ≡ 1 → remainder_of d g w n < 2 ^ d
unfolding remainder_of
remainder_of-below d g w zero h = pow_pos d
remainder_of-below d g w (suc n) h = step-below d g (remainder_of d g w n) (get_or w n false) h (remainder_of-below d g w n h)

pub remainder-below : (f : Field) (t : ℕ) (w : Word) → t ≤ 62 → remainder f t w < 2 ^ (degree f * t)
unfolding remainder
remainder-below f t w h = remainder_of-below (degree f * t) (generator f t) w (length w) (generator-monic f t h)

pub parity-length : (f : Field) (t : ℕ) (m : Word) → length (parity f t m) ≡ degree f * t
unfolding parity
parity-length f t m = digits-length _ _

-- ---- the steps over a field, for g of degree e + 1

module _ (K : BinaryField) (e g : ℕ) where
  open K use {carrier as F, add as ◌⊕◌, mul as ◌⊗◌, nil as 𝟘, one as 𝟙}

  infixl 60 ◌⊕◌
  infixl 70 ◌⊗◌
  terms-step : (r : ℕ) (b : Bool) (p : ℕ) → terms K (remainder_step (suc e) g r b) p ≡ cons K (word.bit K b) (terms K r) p ⊕ terms K r e ⊗ terms K g p
  unfolding remainder_step
  terms-step r b p = go (one_at (r * 2 + digit b) (suc e)) refl
    where
      top : (v : Bool) → one_at (r * 2 + digit b) (suc e) ≡ v → terms K r e ≡ word.bit K v
      top v h = unfold terms in ap (word.bit K) (sym (one_at-next r b e) ∙ h)

      go : (v : Bool) → one_at (r * 2 + digit b) (suc e) ≡ v
          → terms K (cond v (bit_xor g (r * 2 + digit b)) (r * 2 + digit b)) p ≡ cons K (word.bit K b) (terms K r) p ⊕ terms K r e ⊗ terms K g p
      go true h = rw (top true h, terms-xor K g (r * 2 + digit b) p, terms-next K r b p) (unfold word.bit in simp ring)
      go false h = rw (top false h, terms-next K r b p) (unfold word.bit in simp ring)

  terms-run : (w : Word) (n p : ℕ) → p ≤ e → terms K (remainder_of (suc e) g w n) p ≡ run K e (terms K g) (λ i. word.bit K (get_or w i false)) n p
  unfolding remainder_of run next
  terms-run w zero p l = terms-high K 0 p (pow_pos p)
  terms-run w (suc n) p l = terms-step (remainder_of (suc e) g w n) (get_or w n false) p ∙ go p l (terms-run w n e (omega arith)) (λ p l. terms-run w n p l)
    where
      R : ℕ → F
      R = terms K (remainder_of (suc e) g w n)

      r : ℕ → F
      r = run K e (terms K g) (λ i. word.bit K (get_or w i false)) n

      go : (p : ℕ) → p ≤ e → R e ≡ r e → ((p : ℕ) → p ≤ e → R p ≡ r p)
          → cons K (word.bit K (get_or w n false)) R p ⊕ R e ⊗ terms K g p ≡ cons K (word.bit K (get_or w n false)) r p ⊕ r e ⊗ terms K g p
      go zero l h k = unfold cons in rw h
      go (suc p) l h k = unfold cons in rw (h, k p (omega arith))

  -- At a zero of g the remainder has the word's value.
  run-value_at : (w : Word) (n : ℕ) (y : F) → Zero K e (terms K g) y
      → value_at K (suc e) (remainder_of (suc e) g w n) y ≡ horner K (λ i. word.bit K (get_or w i false)) y n
  unfolding value_at
  run-value_at w n y z = low-cong K (suc e) _ _ y (λ p l. terms-run w n p (omega arith)) ∙ run_value K e (terms K g) _ n y z

  monic-zero : (y : F) → g / 2 ^ suc e ≡ 1 → value_at K (suc (suc e)) g y ≡ 𝟘 → Zero K e (terms K g) y
  unfolding value_at terms bit word.bit
  monic-zero y h z = sym (add-nil-eq K _ _ (sym (low-suc K (suc e) (terms K g) y ∙ rw h (ap (λ x. low K (suc e) (terms K g) y ⊕ x) (one-mul-of K _))) ∙ z))

level-positive : (f : Field) (t i : ℕ) → i < t → 0 < degree f * t
unfolding degree
level-positive Thirteen t i l = omega arith
level-positive Fourteen t i l = omega arith

horner-nil : (K : BinaryField) (r : ℕ → K.carrier) (x : K.carrier) (n : ℕ) → ((i : ℕ) → i < n → r i ≡ K.nil) → horner K r x n ≡ K.nil
horner-nil K r x zero h = horner-zero K r x
horner-nil K r x (suc n) h = rw (horner-suc K r x n, horner-nil K r x n (λ i l. h i (omega arith)), h n (omega arith)) (simp ring)

module _ (f : Field) (t : ℕ) (h : t ≤ 62) (e : ℕ) (d : degree f * t ≡ suc e) where
  zero-by : (y : (gf f).carrier) → value_at (gf f) (suc (degree f * t)) (generator f t) y ≡ (gf f).nil → Zero (gf f) e (terms (gf f) (generator f t)) y
  zero-by y z = monic-zero (gf f) e (generator f t) y (rw (← d) (generator-monic f t h)) (rw (← d) z)

  odd-zeros : (i : ℕ) → i < t → Zero (gf f) e (terms (gf f) (generator f t)) (pow (gf f) (a f) (suc (i + i)))
  odd-zeros i l = zero-by _ (generator-zero f t i h l)

  conjugate-zeros : (i : ℕ) → i ≤ e → Zero (gf f) e (terms (gf f) (generator f t)) (pow (gf f) (a f) (exponent f i))
  conjugate-zeros i l = zero-by _ (sym (digits_value (gf f) (suc (degree f * t)) (generator f t) _)
      ∙ (unfold elements in rw (digits-length (generator f t) (suc (degree f * t))) at
      (conjugate-zero f t (digits (generator f t) (suc (degree f * t))) (generator-codeword f t h) i (omega arith))))

  same-value : (w : Word) (j : ℕ) → 0 < j → j ≤ 2 * t
      → value_at (gf f) (suc e) (remainder_of (suc e) (generator f t) w (length w)) (pow (gf f) (a f) j) ≡ horner (gf f) (elements f w) (pow (gf f) (a f) j) (length w)
  unfolding elements
  same-value w j l m = run-value_at (gf f) e (generator f t) w (length w) _ (zero-by _ (sym (digits_value (gf f) (suc (degree f * t)) (generator f t) _)
      ∙ (rw (digits-length (generator f t) (suc (degree f * t))) at
      (value-element f (digits (generator f t) (suc (degree f * t))) j ((generator-codeword f t h).zeros j l m)))))

  code-run : (w : Word) → Codeword f t w → (p : ℕ) → p ≤ e → terms (gf f) (remainder_of (suc e) (generator f t) w (length w)) p ≡ (gf f).nil
  code-run w c p l = terms-run (gf f) e (generator f t) w (length w) p l
      ∙ (unfold elements in zeros-run-nil (gf f) e (terms (gf f) (generator f t)) (elements f w) (length w) (λ i. pow (gf f) (a f) (exponent f i))
      (rw d at (conjugates-distinct f t h)) conjugate-zeros (λ i k. conjugate-zero f t w c i (omega arith)) p l)

  run-code : (w : Word) → remainder_of (suc e) (generator f t) w (length w) ≡ 0 → Codeword f t w
  unfolding elements
  run-code w z = codeword-odd f t w (λ i l. sym (run-value_at (gf f) e (generator f t) w (length w) _ (odd-zeros i l)) ∙ rw z (value_at-zero (gf f) (suc e) _))

  encoded : (m : Word) → Codeword f t (m ++ digits (remainder_of (suc e) (generator f t) (m ++ replicate (suc e) false) (length (m ++ replicate (suc e) false))) (suc e))
  unfolding elements
  encoded m = codeword-odd f t _ (λ i l. each (pow (gf f) (a f) (suc (i + i))) (odd-zeros i l))
    where
      Z : Word
      Z = m ++ replicate (suc e) false

      R : ℕ
      R = remainder_of (suc e) (generator f t) Z (length Z)

      each : (y : (gf f).carrier) → Zero (gf f) e (terms (gf f) (generator f t)) y
          → horner (gf f) (elements f (m ++ digits R (suc e))) y (length (m ++ digits R (suc e))) ≡ (gf f).nil
      each y z =
          value-append f m (digits R (suc e)) y (suc e) (digits-length R (suc e))
          ∙ rw (
            digits_value (gf f) (suc e) R y,
            run-value_at (gf f) e (generator f t) Z (length Z) y z,
            value-append f m (replicate (suc e) false) y (suc e) (length-replicate (suc e) false),
            horner-nil (gf f) (elements f (replicate (suc e) false)) y (suc e) (λ i l. unfold word.bit in rw (get_or-replicate (suc e) i false false l)),
          )
          (simp ring)

-- ---- a word is a codeword exactly if its remainder is 0

pub codeword-remainder : (f : Field) (t : ℕ) (w : Word) → t ≤ 62 → Codeword f t w → remainder f t w ≡ 0
unfolding remainder
codeword-remainder f t w h c = go (degree f * t) refl
  where
    go : (d : ℕ) → degree f * t ≡ d → remainder_of (degree f * t) (generator f t) w (length w) ≡ 0
    go zero e =
        let l : remainder_of 0 (generator f t) w (length w) < 2 ^ 0 = remainder_of-below 0 (generator f t) w (length w) (ap (λ k. generator f t / 2 ^ k) (sym e) ∙ generator-monic f t h) in
        rw e (omega arith)
    go (suc e) d = rw d (one_at-none (suc e) _ (remainder_of-below (suc e) (generator f t) w (length w) (rw (← d) (generator-monic f t h)))
        (λ p l. bit-off f _ (unfold terms in code-run f t h e d w c p (omega arith))))

pub remainder-codeword : (f : Field) (t : ℕ) (w : Word) → t ≤ 62 → remainder f t w ≡ 0 → Codeword f t w
unfolding remainder
remainder-codeword f t w h z = go (degree f * t) refl
  where
    go : (d : ℕ) → degree f * t ≡ d → Codeword f t w
    go zero e = codeword-odd f t w (λ i l. absurd (omega (arith, level-positive f t i l)))
    go (suc e) d = run-code f t h e d w (rw d at z)

-- A message followed by its parity is a codeword.
pub parity-codeword : (f : Field) (t : ℕ) (m : Word) → t ≤ 62 → Codeword f t (m ++ parity f t m)
unfolding parity remainder
parity-codeword f t m h = go (degree f * t) refl
  where
    go : (d : ℕ) → degree f * t ≡ d → Codeword f t (m ++ parity f t m)
    go zero e = codeword-odd f t _ (λ i l. absurd (omega (arith, level-positive f t i l)))
    go (suc e) d = rw d (encoded f t h e d m)

-- The remainder has the word's values at a, a^2, .., a^(2t): syndromes come from the remainder.
pub remainder-value : (f : Field) (t : ℕ) (w : Word) (j : ℕ) → t ≤ 62 → 0 < j → j ≤ 2 * t
    → value_at (gf f) (degree f * t) (remainder f t w) (pow (gf f) (a f) j) ≡ horner (gf f) (elements f w) (pow (gf f) (a f) j) (length w)
unfolding remainder
remainder-value f t w j h l m = go (degree f * t) refl
  where
    go : (d : ℕ) → degree f * t ≡ d
        → value_at (gf f) (degree f * t) (remainder_of (degree f * t) (generator f t) w (length w)) (pow (gf f) (a f) j) ≡ horner (gf f) (elements f w) (pow (gf f) (a f) j) (length w)
    go zero e = absurd (omega (arith, level-positive f t 0 (omega arith)))
    go (suc e) d = rw d (same-value f t h e d w j l m)

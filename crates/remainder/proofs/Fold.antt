-- Laws of the remainder as a fold over the bits of a word.
use mathlib.Core.Path.{◌≡◌, refl, sym, ap, ap₂, ◌∙◌, subst}
use mathlib.Core.Bool.{Bool, false}
use mathlib.Core.List.{[], ◌∷◌, ◌++◌}
use Prim.Native.Nat.{ℕ, zero, suc, ◌+◌, ◌*◌, ◌/◌, ◌%◌, ◌^◌, ◌<◌, ◌≤◌}
use native.Mathlib.Omega.{arith}
use native.Mathlib.Decide.{ℕ_discrete}
use native.Mathlib.Nat.{pow-suc, mod-lt, div-eq_of_lt, div-lt_iff_lt-mul, mul-le-mul}
use borrow.Author.Tests.{eq-eqb, ne_eqb}
use lib.ListN.{length, get_or, take, replicate}
use lib.Seq.{take-suc, take-length}
use lib.Bits.{bit_xor, xor_block, xor_lt}
use lib.Pow.{pow_pos, pow_mono, split}
use Rattle.bits.specs.Bits.{bit, digit, number, digits}
use Rattle.bits.proofs.Numbers.{digit_lt}
use Rattle.field.specs.declared.Field.{Field}
use Rattle.field.specs.declared.Field.TheVariants.{Thirteen, Fourteen}
use Rattle.field.specs.Field.{degree}
use Rattle.code.specs.Word.{Word}
use Rattle.code.specs.Generator.{generator, remainder_step, remainder_of, remainder, parity}
use Rattle.remainder.specs.Remainder.{remainder_from}

-- a step where the digit at the degree is not 1

step_left : (d g r : ℕ) (b : Bool) → (bit (r * 2 + digit b) d ≡ 1 → ⊥) → remainder_step d g r b ≡ r * 2 + digit b
unfolding remainder_step
step_left d g r b ne = simp (ne_eqb (bit (r * 2 + digit b) d) 1 ne)

top : (s d : ℕ) → s / 2 ^ d < 2 → bit s d ≡ 1 → s / 2 ^ d ≡ 1
unfolding bit
top s d q e = omega arith

not_top : (s d : ℕ) → s / 2 ^ d < 2 → (bit s d ≡ 1 → ⊥) → s / 2 ^ d ≡ 0
unfolding bit
not_top s d q e = elim (ℕ_discrete (s / 2 ^ d) 1) [ yes y ↦ absurd (e (omega arith)) | no n ↦ omega arith ]

small : (s d : ℕ) → s / 2 ^ d ≡ 0 → s % 2 ^ d ≡ s
small s d o =
    let e = split s d in
    let z : s / 2 ^ d * 2 ^ d ≡ 0 * 2 ^ d = ap (λ (x : ℕ). x * 2 ^ d) o in
    omega arith

cancel : (g s d : ℕ) → g / 2 ^ d ≡ 1 → s / 2 ^ d ≡ 1 → bit_xor g s ≡ bit_xor (g % 2 ^ d) (s % 2 ^ d)
cancel g s d og os =
    ap₂ bit_xor (sym (split g d)) (sym (split s d))
    ∙ xor_block d (g / 2 ^ d) (s / 2 ^ d) (g % 2 ^ d) (s % 2 ^ d) (mod-lt g (pow_pos d)) (mod-lt s (pow_pos d))
    ∙ ap₂ (λ (x y : ℕ). bit_xor x y * 2 ^ d + bit_xor (g % 2 ^ d) (s % 2 ^ d)) og os
    ∙ omega arith

-- a step by a monic polynomial of degree d keeps the remainder below 2^d
pub remainder_step-below : (d g r : ℕ) (b : Bool) → g / 2 ^ d ≡ 1 → r < 2 ^ d → remainder_step d g r b < 2 ^ d
unfolding remainder_step
remainder_step-below d g r b hg hr =
    let s : ℕ = r * 2 + digit b in
    let hb = digit_lt b in
    let q : s / 2 ^ d < 2 = (div-lt_iff_lt-mul (pow_pos d)).1 (omega arith) in
    elim (ℕ_discrete (bit s d) 1) [
      | yes e ↦
          let o : s / 2 ^ d ≡ 1 = top s d q e in
          simp (eq-eqb (bit s d) 1 e)
          (subst (λ (x : ℕ). x < 2 ^ d) (sym (cancel g s d hg o)) (xor_lt d (g % 2 ^ d) (s % 2 ^ d) (mod-lt g (pow_pos d)) (mod-lt s (pow_pos d))))
      | no ne ↦
          let o : s / 2 ^ d ≡ 0 = not_top s d q ne in
          simp (ne_eqb (bit s d) 1 ne) (subst (λ (x : ℕ). x < 2 ^ d) (small s d o) (mod-lt s (pow_pos d)))
    ]

-- below the degree a step doubles the remainder and adds the coefficient
pub remainder_step-short : (d g r : ℕ) (b : Bool) → r * 2 + digit b < 2 ^ d → remainder_step d g r b ≡ r * 2 + digit b
unfolding bit
remainder_step-short d g r b h =
    step_left d g r b (λ e. let z : (r * 2 + digit b) / 2 ^ d ≡ 0 = div-eq_of_lt h in let y : 0 % 2 ≡ 1 = ap (λ x. x % 2) (sym z) ∙ e in omega arith)

module _ (d g : ℕ) where
  pub remainder_from-empty : (r : ℕ) → remainder_from d g r [] ≡ r
  unfolding remainder_from
  remainder_from-empty r = refl

  pub remainder_from-one : (r : ℕ) (b : Bool) → remainder_from d g r (b ∷ []) ≡ remainder_step d g r b
  unfolding remainder_from
  remainder_from-one r b = refl

  -- A word that is cut anywhere leaves the same remainder, fed part by part.
  pub remainder_from-append : (r : ℕ) (v w : Word) → remainder_from d g r (v ++ w) ≡ remainder_from d g (remainder_from d g r v) w
  unfolding remainder_from
  remainder_from-append r [] w = refl
  remainder_from-append r (b ∷ v) w = remainder_from-append (remainder_step d g r b) v w

  pub remainder_from-below : g / 2 ^ d ≡ 1 → (r : ℕ) (w : Word) → r < 2 ^ d → remainder_from d g r w < 2 ^ d
  unfolding remainder_from
  remainder_from-below hg r [] hr = hr
  remainder_from-below hg r (b ∷ w) hr = remainder_from-below hg (remainder_step d g r b) w (remainder_step-below d g r b hg hr)

  remainder_of-take : (w : Word) (n : ℕ) → n ≤ length w → remainder_of d g w n ≡ remainder_from d g 0 (take n w)
  unfolding remainder_of
  remainder_of-take w zero l = sym (remainder_from-empty 0)
  remainder_of-take w (suc n) l =
      ap (λ r. remainder_step d g r (get_or w n false)) (remainder_of-take w n (omega arith))
      ∙ sym (remainder_from-one _ (get_or w n false))
      ∙ sym (remainder_from-append 0 (take n w) (get_or w n false ∷ []))
      ∙ ap (remainder_from d g 0) (sym (take-suc w n false l))

  pub remainder_of-from : (w : Word) → remainder_of d g w (length w) ≡ remainder_from d g 0 w
  remainder_of-from w = remainder_of-take w (length w) (omega arith) ∙ rw take-length

  -- A remainder of k digits and a word that together are no longer than the degree: the word's digits follow.
  pub remainder_from-short : (r k : ℕ) (w : Word) → r < 2 ^ k → k + length w ≤ d → remainder_from d g r w ≡ r * 2 ^ length w + number w
  unfolding remainder_from number
  remainder_from-short r k [] hr l = omega arith
  remainder_from-short r k (b ∷ w) hr l =
      let hb = digit_lt b in
      let p : 2 ^ suc k ≡ 2 ^ k * 2 = pow-suc 2 k in
      let q : 2 ^ suc (length w) ≡ 2 ^ length w * 2 = pow-suc 2 (length w) in
      let h : r * 2 + digit b < 2 ^ suc k = omega arith in
      let m : 2 ^ suc k ≤ 2 ^ d = pow_mono (omega arith) in
      rw (remainder_step-short d g r b (omega arith), remainder_from-short (r * 2 + digit b) (suc k) w h (omega arith), q) (omega arith)

-- the remainder by a generator

pub degree-most : (f : Field) → degree f ≤ 14
unfolding degree
degree-most Thirteen = omega arith
degree-most Fourteen = omega arith

module _ (f : Field) (t : ℕ) where
  pub remainder-from : (w : Word) → remainder f t w ≡ remainder_from (degree f * t) (generator f t) 0 w
  unfolding remainder
  remainder-from w = remainder_of-from (degree f * t) (generator f t) w

  pub remainder-append : (v w : Word) → remainder f t (v ++ w) ≡ remainder_from (degree f * t) (generator f t) (remainder f t v) w
  remainder-append v w =
      remainder-from (v ++ w) ∙ remainder_from-append (degree f * t) (generator f t) 0 v w
      ∙ ap (λ r. remainder_from (degree f * t) (generator f t) r w) (sym (remainder-from v))

  pub parity-bits-below : t ≤ 62 → degree f * t ≤ 868
  parity-bits-below h =
      mul-le-mul (degree-most f) h

  pub parity-digits : {d x : ℕ} (message : Word) → d ≡ degree f * t → x ≡ remainder f t (message ++ replicate (degree f * t) false) → digits x d ≡ parity f t message
  unfolding parity
  parity-digits message ed ex = rw (ed, ex)

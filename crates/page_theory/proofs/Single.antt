-- A word with a single one is no codeword when t > 0: its value at a is a power of a.
use mathlib.Core.Path.{◌≡◌, refl, ap, ◌∙◌}
use mathlib.Core.Bool.{Bool, true, false}
use Prim.Native.Nat.{ℕ, zero, suc, ◌+◌, ◌≤◌, ◌<◌}
use native.Mathlib.Omega.{arith}
use lib.ListN.{length, get_or, take}
use lib.Seq.{take-suc, take-length}
use lib.Bits.{xor_zero_l, xor_zero_r}
use Rattle.field.specs.declared.Field.{Field}
use Rattle.field.specs.Field.{pow, product, a^}
use Rattle.field.proofs.Primitive.{primitive, usable}
use Rattle.field.proofs.Multiply.{two-below, mul-one-right, mul-zero-right}
use Rattle.field.proofs.Order.{a^-positive}
use Rattle.bits.specs.Bits.{digit}
use Rattle.code.specs.Word.{Word, ones}
use Rattle.code.specs.Code.{value_of, value, Codeword}
use Rattle.page_theory.proofs.Words.{ones-last}

module _ (f : Field) where
  a_one : a^ f 1 ≡ 2
  unfolding pow
  a_one = mul-one-right (usable f) 2 (two-below (usable f))

  -- a times a power of a is the next one
  a-next : (k : ℕ) → product f (a^ f 1) (a^ f k) ≡ a^ f (suc k)
  a-next k = rw a_one (unfold pow in refl)

  zero-product : product f (a^ f 1) 0 ≡ 0
  zero-product = mul-zero-right (usable f) (a^ f 1)

  record Powers (w : Word) (n : ℕ) : Type 0 where
    none : ones (take n w) ≡ 0 → value_of f w (a^ f 1) n ≡ 0
    one : ones (take n w) ≡ 1 → (k : ℕ) × (value_of f w (a^ f 1) n ≡ a^ f k)

  powers-next : (w : Word) (n : ℕ) (b : Bool) → get_or w n false ≡ b → ones (take (suc n) w) ≡ ones (take n w) + digit b → Powers w n → Powers w (suc n)
  unfolding value_of digit
  powers-next w n false e o h = record {
    none = λ z. rw (h.none (omega arith), e, zero-product, xor_zero_l);
    one = λ z. let (k, v) = h.one (omega arith) in (suc k, rw (v, e, a-next k, xor_zero_r));
  }
  powers-next w n true e o h = record {
    none = λ z. absurd (omega arith);
    one = λ z. (0, rw (h.none (omega arith), e, zero-product, xor_zero_l 1) (unfold pow in refl));
  }

  powers : (w : Word) (n : ℕ) → n ≤ length w → Powers w n
  powers w zero l = record { none = λ z. unfold value_of in refl; one = λ z. absurd (unfold ones in omega arith) }
  powers w (suc n) l =
      powers-next w n (get_or w n false) refl (ap ones (take-suc w n false l) ∙ ones-last (take n w) (get_or w n false)) (powers w n (omega arith))

  pub single-codeword : (t : ℕ) (w : Word) → 0 < t → ones w ≡ 1 → Codeword f t w → ⊥
  unfolding value
  single-codeword t w l h c =
      let (k, v) = (powers w (length w) (omega arith)).one (ap ones (take-length w) ∙ h) in
      let z = c.zeros 1 (omega arith) (omega arith) in
      let p = a^-positive (primitive f) k in
      omega arith

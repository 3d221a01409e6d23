-- The powers of a for m = 14: those that need no reduction, and each other as a sum of four earlier ones.
use mathlib.Core.Path.{◌≡◌, refl, sym, ap, ap₂, ◌∙◌}
use mathlib.Core.List.{List}
use Prim.Native.Nat.{ℕ, ◌+◌, ◌-◌, ◌*◌, ◌^◌, ◌≤◌, ◌<◌}
use native.Mathlib.Omega.{arith}
use lib.Bits.{bit_xor}
use lib.Dec.{lit<}
use lib.ListN.{get_or}
use Rattle.field.specs.declared.Field.{Field}
use Rattle.field.specs.declared.Field.TheVariants.{Fourteen}
use Rattle.field.specs.Field.{degree, modulus, mul_x, product, a^}
use Rattle.field.proofs.Multiply.{shifted, shifted_one, mul-add-left, mul-one-left}
use Rattle.field.proofs.Exponents.{pow-shifted}
use Rattle.field.proofs.Order.{a^-add, a^-below}
use Rattle.field.proofs.Primitive.{primitive, usable}
use Rattle.powers.specs.Begun.{Begun, Stride}

-- below a^m no reduction
pub power_small : (f : Field) (k : ℕ) → k < degree f → a^ f k ≡ 2 ^ k
power_small f k h = pow-shifted (usable f) k ∙ shifted_one (degree f) (modulus f) k h

-- computed by mul_x
unfoldable stride-sum : ℕ → ℕ
stride-sum s = bit_xor (bit_xor (bit_xor (shifted 14 0x402b (s * 5) 1) (shifted 14 0x402b (s * 3) 1)) (shifted 14 0x402b s 1)) 1

strided : {s : ℕ} → 0 < s → shifted 14 0x402b (s * 14) 1 ≡ stride-sum s → Stride s
unfolding degree modulus stride-sum
strided {s} p e = record {
  positive = p;
  sum =
      power (s * 14) ∙ e
      ∙ sym (ap (λ n. bit_xor n 1) (ap₂ bit_xor (ap₂ bit_xor (power (s * 5)) (power (s * 3))) (power s)));
}
  where
    power : (k : ℕ) → a^ Fourteen k ≡ shifted 14 0x402b k 1
    power k = pow-shifted (usable Fourteen) k

pub stride-1 : Stride 1
unfolding stride-sum shifted mul_x
stride-1 = strided (lit< tt) refl

pub stride-8 : Stride 8
unfolding stride-sum shifted mul_x
stride-8 = strided (lit< tt) refl

-- the power d s places before is a^((14 - d) s) times the one 14 s places before
pub stride-next : {s : ℕ} → Stride s → (k : ℕ) → s * 14 ≤ k
    → bit_xor (bit_xor (bit_xor (a^ Fourteen (k - s * 9)) (a^ Fourteen (k - s * 11))) (a^ Fourteen (k - s * 13))) (a^ Fourteen (k - s * 14))
    ≡ a^ Fourteen k
stride-next {s} S k h =
    ap₂ bit_xor
    (ap₂ bit_xor (ap₂ bit_xor (before (s * 9) (s * 5) (omega arith)) (before (s * 11) (s * 3) (omega arith))) (before (s * 13) s (omega arith)))
    (sym (mul-one-left (usable Fourteen) y (a^-below (primitive Fourteen) j)))
    ∙ sym
    (times (bit_xor (bit_xor A B) C) 1
    ∙ ap (λ n. bit_xor n (product Fourteen 1 y)) (times (bit_xor A B) C ∙ ap (λ n. bit_xor n (product Fourteen C y)) (times A B)))
    ∙ ap (λ n. product Fourteen n y) (sym S.sum)
    ∙ sym (a^-add (primitive Fourteen) (s * 14) j)
    ∙ ap (a^ Fourteen) (omega arith)
  where
    j : ℕ
    j = k - s * 14

    y : ℕ
    y = a^ Fourteen j

    A : ℕ
    A = a^ Fourteen (s * 5)

    B : ℕ
    B = a^ Fourteen (s * 3)

    C : ℕ
    C = a^ Fourteen s

    times : (v w : ℕ) → product Fourteen (bit_xor v w) y ≡ bit_xor (product Fourteen v y) (product Fourteen w y)
    times v w = mul-add-left (usable Fourteen) v w y

    before : (d e : ℕ) → k - d ≡ e + j → a^ Fourteen (k - d) ≡ product Fourteen (a^ Fourteen e) y
    before d e p = ap (a^ Fourteen) p ∙ a^-add (primitive Fourteen) e j

-- as the code has it
pub stride-entry : {s : ℕ} → Stride s → {k : ℕ} {l : List ℕ} → Begun Fourteen k l → s * 14 ≤ k
    → bit_xor (bit_xor (bit_xor (get_or l (k - s * 9) 0) (get_or l (k - s * 11) 0)) (get_or l (k - s * 13) 0)) (get_or l (k - s * 14) 0) ≡ a^ Fourteen k
stride-entry {s} S {k} {l} B h =
    ap₂ bit_xor (ap₂ bit_xor (ap₂ bit_xor (B.at (k - s * 9) (omega arith)) (B.at (k - s * 11) (omega arith))) (B.at (k - s * 13) (omega arith)))
    (B.at (k - s * 14) (omega arith))
    ∙ stride-next S k h

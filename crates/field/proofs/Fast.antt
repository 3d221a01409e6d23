-- mul_x as the checker computes it fast: no sum where none is needed, and the short operand of a sum first.
use mathlib.Core.Path.{◌≡◌, refl, sym, ap, ap₂, ◌∙◌, subst}
use mathlib.Core.Bool.{Bool, true, false, not}
use mathlib.Core.Logic.{◌≢◌}
use Prim.Native.Nat.{ℕ, zero, ◌+◌, ◌-◌, ◌*◌, ◌/◌, ◌^◌, ◌≤◌, ◌<◌}
use native.Mathlib.Nat.{one-mul, zero-mul, zero-add, div-eq_of_lt, le-div_iff_mul-le}
use native.Mathlib.Omega.{arith}
use lib.Pow.{pow_pos}
use lib.Dec.{T, ltb, ltb→lt, nltb→le}
use lib.Bits.{bit_xor, xor_block, xor_comm}
use Rattle.field.specs.Field.{mul_x}
use Rattle.field.proofs.Multiply.{mul_x-low, mul_x-high}

unfoldable pub reduce : Bool → ℕ → ℕ → ℕ → ℕ
reduce true low e d = d
reduce false low e d = bit_xor low (d - e)

-- with e = 2^m, and P = e + low
unfoldable pub fast_x : ℕ → ℕ → ℕ → ℕ
fast_x low e x = reduce (ltb (x * 2) e) low e (x * 2)

module _ (m low : ℕ) (h : low < 2 ^ m) where
  high : (x : ℕ) → x < 2 ^ m → 2 ^ m ≤ x * 2 → bit_xor low (x * 2 - 2 ^ m) ≡ bit_xor (x * 2) (2 ^ m + low)
  high x hx ge =
      sym
      (ap₂ bit_xor (split (x * 2) ge) (ap (λ (n : ℕ). n + low) (sym (one-mul (2 ^ m))))
      ∙ xor_block m 1 1 (x * 2 - 2 ^ m) low (omega arith) h
      ∙ ap (λ (n : ℕ). n + bit_xor (x * 2 - 2 ^ m) low) (zero-mul (2 ^ m))
      ∙ zero-add (bit_xor (x * 2 - 2 ^ m) low)
      ∙ xor_comm (x * 2 - 2 ^ m) low)
    where
      split : (d : ℕ) → 2 ^ m ≤ d → d ≡ 1 * 2 ^ m + (d - 2 ^ m)
      split d k = omega arith

  pub fast_x-mul_x : (x : ℕ) → x < 2 ^ m → fast_x low (2 ^ m) x ≡ mul_x m (2 ^ m + low) x
  unfolding fast_x reduce
  fast_x-mul_x x hx = go (ltb (x * 2) (2 ^ m)) refl
    where
      go : (b : Bool) → ltb (x * 2) (2 ^ m) ≡ b → reduce b low (2 ^ m) (x * 2) ≡ mul_x m (2 ^ m + low) x
      go true e = sym (mul_x-low m (2 ^ m + low) x (div-eq_of_lt (ltb→lt (x * 2) (2 ^ m) (subst (λ (b : Bool). T b) (sym e) tt))))
      go false e = high x hx ge ∙ sym (mul_x-high m (2 ^ m + low) x hx not-zero)
        where
          ge : 2 ^ m ≤ x * 2
          ge = nltb→le (x * 2) (2 ^ m) (subst (λ (b : Bool). T (not b)) (sym e) tt)

          not-zero : x * 2 / 2 ^ m ≢ zero
          not-zero z =
              let one : 1 ≤ x * 2 / 2 ^ m = (le-div_iff_mul-le (pow_pos m)).1 (omega (arith, ge)) in
              omega arith

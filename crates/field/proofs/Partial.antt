-- The product as the code makes it, the terms of y from the highest down: `partial i` is what stands after the terms from m - 1 down to i.
use mathlib.Core.Path.{◌≡◌, sym, ap, ap₂, ◌∙◌, subst}
use Prim.Native.Nat.{ℕ, zero, suc, ◌+◌, ◌-◌, ◌*◌, ◌/◌, ◌%◌, ◌^◌, ◌≤◌, ◌<◌}
use native.Mathlib.Nat.{sub_self, sub-zero, div-one}
use native.Mathlib.Omega.{arith}
use lib.Pow.{shr-shr}
use lib.Bits.{bit_xor, bit_and, and_mask}
use Rattle.field.specs.Field.{mul_x, mul_bits, mul, Elem, Usable}
use Rattle.field.proofs.Multiply.{mul_bits-below}

module _ (m P x y : ℕ) where
  unfoldable pub partial : ℕ → ℕ
  partial i = mul_bits m P (m - i) x (y / 2 ^ i)

  pub partial-start : zero ≡ partial m
  unfolding partial mul_bits
  partial-start = ap (λ (n : ℕ). mul_bits m P n x (y / 2 ^ m)) (sym (sub_self m))

  pub partial-end : partial 0 ≡ mul m P x y
  unfolding partial mul
  partial-end = ap₂ (λ (n z : ℕ). mul_bits m P n x z) (sub-zero m) (div-one y)

  partial-step : (i : ℕ) → zero < i → i ≤ m → partial (i - 1) ≡ bit_xor (mul_x m P (partial i)) (y / 2 ^ (i - 1) % 2 * x)
  unfolding partial mul_bits
  partial-step i h0 h =
      let e : m - (i - 1) ≡ suc (m - i) = omega arith in
      let n : i - 1 + 1 ≡ i = omega arith in
      ap (λ (k : ℕ). mul_bits m P k x (y / 2 ^ (i - 1))) e
      ∙ ap (λ (z : ℕ). bit_xor (mul_x m P (mul_bits m P (m - i) x z)) (y / 2 ^ (i - 1) % 2 * x))
      (shr-shr y (i - 1) 1 ∙ ap (λ (k : ℕ). y / 2 ^ k) n)

  -- one turn of the loop: a shift, reduced, and the next term
  pub partial-next : (i r : ℕ) → zero < i → i ≤ m → r ≡ partial i
      → bit_xor (bit_xor (r * 2) (bit_and (r * 2 / 2 ^ m) 1 * P)) (bit_and (y / 2 ^ (i - 1)) 1 * x) ≡ partial (i - 1)
  unfolding mul_x
  partial-next i r h0 h e =
      ap₂ (λ (a b : ℕ). bit_xor (bit_xor (r * 2) (a * P)) (b * x)) (and_mask (r * 2 / 2 ^ m) 1) (and_mask (y / 2 ^ (i - 1)) 1)
      ∙ ap (λ (z : ℕ). bit_xor (mul_x m P z) (y / 2 ^ (i - 1) % 2 * x)) e
      ∙ sym (partial-step i h0 h)

  pub partial-below : Usable m P → x < 2 ^ m → (i r : ℕ) → r ≡ partial i → r < 2 ^ m
  unfolding partial
  partial-below u h i r e = subst (λ (n : ℕ). n < 2 ^ m) (sym e) (mul_bits-below u (m - i) x (y / 2 ^ i) h)

  pub partial-product : Usable m P → x < 2 ^ m → (i r : ℕ) → i ≡ 0 → r ≡ partial i → Elem m (mul m P x y) r
  partial-product u h i r z e = record { value = e ∙ ap partial z ∙ partial-end; low = partial-below u h i r e }

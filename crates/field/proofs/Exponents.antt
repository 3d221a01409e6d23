-- The laws of powers in a field of 2^m elements, once over m and the reduction polynomial P.
use mathlib.Core.Path.{◌≡◌, refl, sym, ap, ◌∙◌}
use mathlib.Core.Logic.{◌≢◌}
use Prim.Native.Nat.{ℕ, zero, suc, ◌+◌, ◌*◌, ◌/◌, ◌%◌, ◌^◌, ◌<◌}
use native.Mathlib.Nat.{zero-add, suc-add, add_comm, mul-zero, mul-suc}
use native.Mathlib.Omega.{arith}
use Rattle.field.specs.Field.{mul_x, mul, pow, Usable}
use Rattle.field.proofs.Multiply.{shifted, one_below, two-below, mul-below, mul-one-left, mul_assoc, mul-swap, mul-two}

module _ {m P : ℕ} (u : Usable m P) where
  pub pow_below : (x n : ℕ) → x < 2 ^ m → pow m P x n < 2 ^ m
  unfolding pow
  pow_below x zero h = one_below u
  pow_below x (suc n) h = mul-below u x (pow m P x n) h

  pub pow-add : (x i j : ℕ) → x < 2 ^ m → pow m P x (i + j) ≡ mul m P (pow m P x i) (pow m P x j)
  unfolding pow
  pow-add x zero j h = ap (pow m P x) (zero-add j) ∙ sym (mul-one-left u (pow m P x j) (pow_below x j h))
  pow-add x (suc i) j h =
      ap (pow m P x) (suc-add i j) ∙ ap (mul m P x) (pow-add x i j h)
      ∙ sym (mul_assoc u x (pow m P x i) (pow m P x j) h (pow_below x i h) (pow_below x j h))

  pub pow-of-one : (n : ℕ) → pow m P 1 n ≡ 1
  unfolding pow
  pow-of-one zero = refl
  pow-of-one (suc n) = ap (mul m P 1) (pow-of-one n) ∙ mul-one-left u 1 (one_below u)

  pub pow-of-product : (x y n : ℕ) → x < 2 ^ m → y < 2 ^ m → pow m P (mul m P x y) n ≡ mul m P (pow m P x n) (pow m P y n)
  unfolding pow
  pow-of-product x y zero hx hy = sym (mul-one-left u 1 (one_below u))
  pow-of-product x y (suc n) hx hy =
      ap (mul m P (mul m P x y)) (pow-of-product x y n hx hy)
      ∙ mul-swap u x y (pow m P x n) (pow m P y n) hx hy (pow_below x n hx) (pow_below y n hy)

  pub pow-of-power : (x i j : ℕ) → x < 2 ^ m → pow m P x (i * j) ≡ pow m P (pow m P x i) j
  unfolding pow
  pow-of-power x i zero h = ap (pow m P x) (mul-zero i)
  pow-of-power x i (suc j) h =
      ap (pow m P x) (mul-suc i j ∙ add_comm (i * j) i) ∙ pow-add x i (i * j) h ∙ ap (mul m P (pow m P x i)) (pow-of-power x i j h)

  -- ---- square and multiply

  pub pow_even : (x n : ℕ) → x < 2 ^ m → n % 2 ≢ 1 → pow m P x n ≡ mul m P (pow m P x (n / 2)) (pow m P x (n / 2))
  pow_even x n h e = ap (pow m P x) (omega arith) ∙ pow-add x (n / 2) (n / 2) h

  pub pow-odd : (x n : ℕ) → x < 2 ^ m → n % 2 ≡ 1 → pow m P x n ≡ mul m P x (mul m P (pow m P x (n / 2)) (pow m P x (n / 2)))
  unfolding pow
  pow-odd x n h e =
      let z : n ≡ suc (n / 2 + n / 2) = omega arith in
      ap (pow m P x) z ∙ ap (mul m P x) (pow-add x (n / 2) (n / 2) h)

  -- ---- the powers of a = 2 come from 1 by mul_x again and again

  pub pow-shifted : (n : ℕ) → pow m P 2 n ≡ shifted m P n 1
  unfolding pow shifted
  pow-shifted zero = refl
  pow-shifted (suc n) = mul-two u (pow m P 2 n) (pow_below 2 n (two-below u)) ∙ ap (mul_x m P) (pow-shifted n)

-- The laws of the product of a field of 2^m elements, once over m and the reduction polynomial P.
use mathlib.Core.Path.{◌≡◌, refl, sym, ap, ap₂, ◌∙◌, subst}
use mathlib.Core.Logic.{◌≢◌}
use Prim.Native.Nat.{ℕ, zero, suc, ◌*◌, ◌/◌, ◌%◌, ◌^◌, ◌≤◌, ◌<◌}
use native.Mathlib.Nat.{zero-lt-suc, mod-eq_of_lt, zero-div, zero-mul, one-mul, mul-one, pow-suc, mul-mod_left, mul-div_cancel, div-add-mod', div-lt_iff_lt-mul, div-eq_of_lt, le_refl, lt_of_le_of_lt, lt_of_lt_of_le}
use native.Mathlib.Omega.{arith}
use lib.Arith.{lt-one}
use lib.Pow.{pow_pos, pow-lt, pow_mono}
use lib.Bits.{bit_xor, xor_zero_r, xor_self, xor_shr, xor_lt, xor_shifted}
use Rattle.field.specs.Field.{mul_x, mul_bits, mul, Usable}
use Rattle.field.proofs.Xor.{Bit, mod2, xor-double, scale-xor, xor-swap, xor-half, digit-xor, digit-through, digit-le}
use Rattle.field.proofs.Additive.{additive-agree}

-- mul_x, n times
unfoldable pub shifted : ℕ → ℕ → ℕ → ℕ → ℕ
shifted m P zero x = x
shifted m P (suc n) x = mul_x m P (shifted m P n x)

half-power : (i : ℕ) → 2 ^ suc i / 2 ≡ 2 ^ i
half-power i = ap (λ (x : ℕ). x / 2) (pow-suc 2 i) ∙ mul-div_cancel (2 ^ i) (zero-lt-suc 1)

even_power : (i : ℕ) → 2 ^ suc i % 2 ≡ zero
even_power i = ap (λ (x : ℕ). x % 2) (pow-suc 2 i) ∙ mul-mod_left (2 ^ i) 2

module _ (m P : ℕ) where
  -- ---- mul_x

  pub mul_x-add : (x y : ℕ) → mul_x m P (bit_xor x y) ≡ bit_xor (mul_x m P x) (mul_x m P y)
  unfolding mul_x
  mul_x-add x y =
      ap (λ (n : ℕ). bit_xor n (n / 2 ^ m % 2 * P)) (xor-double x y)
      ∙ ap (λ (n : ℕ). bit_xor (bit_xor (x * 2) (y * 2)) (n % 2 * P)) (xor_shr (x * 2) (y * 2) m)
      ∙ ap (bit_xor (bit_xor (x * 2) (y * 2))) (scale-xor (x * 2 / 2 ^ m) (y * 2 / 2 ^ m) P)
      ∙ xor-swap (x * 2) (y * 2) (x * 2 / 2 ^ m % 2 * P) (y * 2 / 2 ^ m % 2 * P)

  -- where the term x^m does not come up
  pub mul_x-low : (x : ℕ) → x * 2 / 2 ^ m ≡ zero → mul_x m P x ≡ x * 2
  unfolding mul_x
  mul_x-low x e = ap (λ (n : ℕ). bit_xor (x * 2) (n % 2 * P)) e ∙ ap (bit_xor (x * 2)) (zero-mul P) ∙ xor_zero_r (x * 2)

  -- where it does
  pub mul_x-high : (x : ℕ) → x < 2 ^ m → x * 2 / 2 ^ m ≢ zero → mul_x m P x ≡ bit_xor (x * 2) P
  unfolding mul_x
  mul_x-high x h e =
      let bit : x * 2 / 2 ^ m < 2 = (div-lt_iff_lt-mul (pow_pos m)).1 (omega arith) in
      let one : x * 2 / 2 ^ m ≡ 1 = omega arith in
      ap (λ (n : ℕ). bit_xor (x * 2) (n % 2 * P)) one ∙ ap (bit_xor (x * 2)) (one-mul P)

  pub mul_x-small : (x : ℕ) → x * 2 < 2 ^ m → mul_x m P x ≡ x * 2
  mul_x-small x h = mul_x-low x (div-eq_of_lt h)

  pub mul_x-zero : mul_x m P zero ≡ zero
  mul_x-zero = mul_x-small zero (pow_pos m)

  pub shifted-inside : (n x : ℕ) → shifted m P n (mul_x m P x) ≡ shifted m P (suc n) x
  unfolding shifted
  shifted-inside zero x = refl
  shifted-inside (suc n) x = ap (mul_x m P) (shifted-inside n x)

  -- ---- mul_bits is additive in each factor

  pub mul_bits-add-left : (k x x' y : ℕ) → mul_bits m P k (bit_xor x x') y ≡ bit_xor (mul_bits m P k x y) (mul_bits m P k x' y)
  unfolding mul_bits
  mul_bits-add-left zero x x' y = refl
  mul_bits-add-left (suc k) x x' y =
      ap₂ bit_xor
      (ap (mul_x m P) (mul_bits-add-left k x x' (y / 2)) ∙ mul_x-add (mul_bits m P k x (y / 2)) (mul_bits m P k x' (y / 2)))
      (digit-xor (y % 2) x x' (mod2 y))
      ∙ xor-swap (mul_x m P (mul_bits m P k x (y / 2))) (mul_x m P (mul_bits m P k x' (y / 2))) (y % 2 * x) (y % 2 * x')

  pub mul_bits-add-right : (k x y y' : ℕ) → mul_bits m P k x (bit_xor y y') ≡ bit_xor (mul_bits m P k x y) (mul_bits m P k x y')
  unfolding mul_bits
  mul_bits-add-right zero x y y' = refl
  mul_bits-add-right (suc k) x y y' =
      ap₂ (λ (a b : ℕ). bit_xor (mul_x m P (mul_bits m P k x a)) b) (xor-half y y') (scale-xor y y' x)
      ∙ ap (λ (a : ℕ). bit_xor a (bit_xor (y % 2 * x) (y' % 2 * x)))
      (ap (mul_x m P) (mul_bits-add-right k x (y / 2) (y' / 2)) ∙ mul_x-add (mul_bits m P k x (y / 2)) (mul_bits m P k x (y' / 2)))
      ∙ xor-swap (mul_x m P (mul_bits m P k x (y / 2))) (mul_x m P (mul_bits m P k x (y' / 2))) (y % 2 * x) (y' % 2 * x)

  -- ---- mul_x passes through the product

  pub mul_bits-mul_x : (k x y : ℕ) → mul_bits m P k (mul_x m P x) y ≡ mul_x m P (mul_bits m P k x y)
  unfolding mul_bits
  mul_bits-mul_x zero x y = sym mul_x-zero
  mul_bits-mul_x (suc k) x y =
      ap₂ bit_xor (ap (mul_x m P) (mul_bits-mul_x k x (y / 2))) (sym (digit-through (mul_x m P) mul_x-zero (y % 2) x (mod2 y)))
      ∙ sym (mul_x-add (mul_x m P (mul_bits m P k x (y / 2))) (y % 2 * x))

  pub mul_bits-zero-right : (k x : ℕ) → mul_bits m P k x zero ≡ zero
  unfolding mul_bits
  mul_bits-zero-right zero x = refl
  mul_bits-zero-right (suc k) x = ap₂ bit_xor (ap (mul_x m P) (mul_bits-zero-right k x) ∙ mul_x-zero) (zero-mul x)

  pub mul_bits-shifted : (n k x y : ℕ) → mul_bits m P k (shifted m P n x) y ≡ shifted m P n (mul_bits m P k x y)
  unfolding shifted
  mul_bits-shifted zero k x y = refl
  mul_bits-shifted (suc n) k x y = mul_bits-mul_x k (shifted m P n x) y ∙ ap (mul_x m P) (mul_bits-shifted n k x y)

  -- x times the term x^i is mul_x, i times
  pub mul_bits-term : (k i x : ℕ) → i < k → mul_bits m P k x (2 ^ i) ≡ shifted m P i x
  unfolding mul_bits shifted
  mul_bits-term zero i x h = absurd (omega arith)
  mul_bits-term (suc k) zero x h = ap₂ bit_xor (ap (mul_x m P) (mul_bits-zero-right k x) ∙ mul_x-zero) (one-mul x)
  mul_bits-term (suc k) (suc i) x h =
      ap₂ (λ (a b : ℕ). bit_xor (mul_x m P (mul_bits m P k x a)) (b * x)) (half-power i) (even_power i)
      ∙ ap₂ bit_xor (ap (mul_x m P) (mul_bits-term k i x (omega arith))) (zero-mul x)
      ∙ xor_zero_r (mul_x m P (shifted m P i x))

  pub shifted_one : (i : ℕ) → i < m → shifted m P i 1 ≡ 2 ^ i
  unfolding shifted
  shifted_one zero h = refl
  shifted_one (suc i) h =
      ap (mul_x m P) (shifted_one i (omega arith))
      ∙ mul_x-small (2 ^ i) (subst (λ (n : ℕ). n < 2 ^ m) (pow-suc 2 i) (pow-lt h)) ∙ sym (pow-suc 2 i)

  pub mul_bits-one-left : (k y : ℕ) → k ≤ m → y < 2 ^ k → mul_bits m P k 1 y ≡ y
  unfolding mul_bits
  mul_bits-one-left zero y hk hy = sym (lt-one hy)
  mul_bits-one-left (suc k) y hk hy =
      ap₂ bit_xor
      (ap (mul_x m P) (mul_bits-one-left k (y / 2) (omega arith) (omega arith))
      ∙ mul_x-small (y / 2) (lt_of_le_of_lt (omega arith) (lt_of_lt_of_le hy (pow_mono hk))))
      (mul-one (y % 2))
      ∙ xor_shifted (y / 2) 1 (y % 2) (mod2 y) ∙ div-add-mod' y 2

-- ---- the laws of the product

module _ {m P : ℕ} (u : Usable m P) where
  shift-scale : (b : ℕ) → Bit b → b * P / 2 ^ m ≡ b
  shift-scale zero h = ap (λ (n : ℕ). n / 2 ^ m) (zero-mul P) ∙ zero-div (2 ^ m)
  shift-scale (suc zero) h = ap (λ (n : ℕ). n / 2 ^ m) (one-mul P) ∙ u.top
  shift-scale (suc (suc b)) h = absurd (omega arith)

  pub one_below : 1 < 2 ^ m
  one_below = pow-lt {i = 0} (omega (arith, u.two))

  pub two-below : 2 < 2 ^ m
  two-below = pow-lt {i = 1} u.two

  pub mul_x-below : (x : ℕ) → x < 2 ^ m → mul_x m P x < 2 ^ m
  unfolding mul_x
  mul_x-below x h = subst (λ (n : ℕ). bit_xor d (q % 2 * P) < n) (one-mul (2 ^ m)) ((div-lt_iff_lt-mul (pow_pos m)).0 (omega (arith, gone)))
    where
      d : ℕ
      d = x * 2

      q : ℕ
      q = d / 2 ^ m

      bit : Bit q
      bit = (div-lt_iff_lt-mul (pow_pos m)).1 (omega arith)

      gone : bit_xor d (q % 2 * P) / 2 ^ m ≡ zero
      gone =
          xor_shr d (q % 2 * P) m
          ∙ ap (bit_xor q) (shift-scale (q % 2) (mod2 q) ∙ mod-eq_of_lt bit)
          ∙ xor_self q

  pub mul_bits-below : (k x y : ℕ) → x < 2 ^ m → mul_bits m P k x y < 2 ^ m
  unfolding mul_bits
  mul_bits-below zero x y h = pow_pos m
  mul_bits-below (suc k) x y h =
      xor_lt m (mul_x m P (mul_bits m P k x (y / 2))) (y % 2 * x) (mul_x-below (mul_bits m P k x (y / 2)) (mul_bits-below k x (y / 2) h))
      (lt_of_le_of_lt (digit-le (y % 2) x (mod2 y)) h)

  pub shifted-below : (n x : ℕ) → x < 2 ^ m → shifted m P n x < 2 ^ m
  unfolding shifted
  shifted-below zero x h = h
  shifted-below (suc n) x h = mul_x-below (shifted m P n x) (shifted-below n x h)

  pub mul-below : (x y : ℕ) → x < 2 ^ m → mul m P x y < 2 ^ m
  unfolding mul
  mul-below x y h = mul_bits-below m x y h

  pub mul-add-left : (x x' y : ℕ) → mul m P (bit_xor x x') y ≡ bit_xor (mul m P x y) (mul m P x' y)
  unfolding mul
  mul-add-left x x' y = mul_bits-add-left m P m x x' y

  pub mul-add-right : (x y y' : ℕ) → mul m P x (bit_xor y y') ≡ bit_xor (mul m P x y) (mul m P x y')
  unfolding mul
  mul-add-right x y y' = mul_bits-add-right m P m x y y'

  pub mul-zero-right : (x : ℕ) → mul m P x zero ≡ zero
  unfolding mul
  mul-zero-right x = mul_bits-zero-right m P m x

  pub mul-zero-left : (y : ℕ) → mul m P zero y ≡ zero
  mul-zero-left y = mul-add-left zero zero y ∙ xor_self (mul m P zero y)

  pub mul-one-left : (y : ℕ) → y < 2 ^ m → mul m P 1 y ≡ y
  unfolding mul
  mul-one-left y h = mul_bits-one-left m P m y (le_refl m) h

  pub mul-term : (i x : ℕ) → i < m → mul m P x (2 ^ i) ≡ shifted m P i x
  unfolding mul
  mul-term i x h = mul_bits-term m P m i x h

  pub mul-shifted-left : (n x y : ℕ) → mul m P (shifted m P n x) y ≡ shifted m P n (mul m P x y)
  unfolding mul
  mul-shifted-left n x y = mul_bits-shifted m P n m x y

  -- both sides are additive in x, so it is enough to see them agree at 2^i
  pub mul_comm : (x y : ℕ) → x < 2 ^ m → y < 2 ^ m → mul m P x y ≡ mul m P y x
  mul_comm x y hx hy =
      additive-agree (λ z. mul m P z y) (λ z. mul m P y z) (λ a b. mul-add-left a b y) (λ a b. mul-add-right y a b) m
      (λ i hi.
      ap (λ (n : ℕ). mul m P n y) (sym (shifted_one m P i hi)) ∙ mul-shifted-left i 1 y
      ∙ ap (shifted m P i) (mul-one-left y hy) ∙ sym (mul-term i y hi))
      x hx

  pub mul-one-right : (x : ℕ) → x < 2 ^ m → mul m P x 1 ≡ x
  mul-one-right x h = mul_comm x 1 h one_below ∙ mul-one-left x h

  pub mul-shifted-right : (n x y : ℕ) → x < 2 ^ m → y < 2 ^ m → mul m P x (shifted m P n y) ≡ shifted m P n (mul m P x y)
  mul-shifted-right n x y hx hy =
      mul_comm x (shifted m P n y) hx (shifted-below n y hy) ∙ mul-shifted-left n y x ∙ ap (shifted m P n) (mul_comm y x hy hx)

  -- the same in z
  pub mul_assoc : (x y z : ℕ) → x < 2 ^ m → y < 2 ^ m → z < 2 ^ m → mul m P (mul m P x y) z ≡ mul m P x (mul m P y z)
  mul_assoc x y z hx hy hz =
      additive-agree (λ n. mul m P (mul m P x y) n) (λ n. mul m P x (mul m P y n)) (λ a b. mul-add-right (mul m P x y) a b)
      (λ a b. ap (mul m P x) (mul-add-right y a b) ∙ mul-add-right x (mul m P y a) (mul m P y b)) m
      (λ i hi. mul-term i (mul m P x y) hi ∙ sym (ap (mul m P x) (mul-term i y hi) ∙ mul-shifted-right i x y hx hy)) z hz

  pub mul-swap : (x y z w : ℕ) → x < 2 ^ m → y < 2 ^ m → z < 2 ^ m → w < 2 ^ m
      → mul m P (mul m P x y) (mul m P z w) ≡ mul m P (mul m P x z) (mul m P y w)
  mul-swap x y z w hx hy hz hw =
      mul_assoc x y (mul m P z w) hx hy (mul-below z w hz)
      ∙ ap (mul m P x)
      (sym (mul_assoc y z w hy hz hw) ∙ ap (λ (n : ℕ). mul m P n w) (mul_comm y z hy hz) ∙ mul_assoc z y w hz hy hw)
      ∙ sym (mul_assoc x z (mul m P y w) hx hz (mul-below y w hy))

  -- a times x is mul_x
  pub mul-two : (x : ℕ) → x < 2 ^ m → mul m P 2 x ≡ mul_x m P x
  unfolding shifted
  mul-two x h =
      ap (λ (n : ℕ). mul m P n x) (sym (shifted_one m P 1 u.two)) ∙ mul-shifted-left 1 1 x ∙ ap (mul_x m P) (mul-one-left x h)

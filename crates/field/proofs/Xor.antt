-- Laws of `bit_xor`, the sum of two elements, beyond those of `lib.Bits`.
use mathlib.Core.Path.{◌≡◌, refl, sym, ap, ap₂, ◌∙◌, subst}
use Prim.Native.Nat.{ℕ, zero, suc, ◌+◌, ◌*◌, ◌/◌, ◌%◌, ◌≤◌, ◌<◌, zero-le}
use native.Mathlib.Nat.{mod-lt, zero-lt-suc, mul-div_cancel, mul-mod_left, add-zero, zero-mul, one-mul, le_refl}
use native.Mathlib.Omega.{arith}
use lib.Arith.{bin_ind, digits_mod}
use lib.Bits.{bit_xor, differ, xor_step, xor_comm, xor_self, xor_zero_r, xor_shr}

-- a digit
abbrev pub Bit : ℕ → Type 0
Bit b = b < 2

pub mod2 : (a : ℕ) → Bit (a % 2)
mod2 a = mod-lt a (zero-lt-suc 1)

differ-assoc : (x y z : ℕ) → Bit x → Bit y → Bit z → differ (differ x y) z ≡ differ x (differ y z)
differ-assoc zero y z hx hy hz = refl
differ-assoc (suc zero) zero z hx hy hz = refl
differ-assoc (suc zero) (suc zero) zero hx hy hz = refl
differ-assoc (suc zero) (suc zero) (suc zero) hx hy hz = refl
differ-assoc (suc zero) (suc zero) (suc (suc z)) hx hy hz = absurd (omega arith)
differ-assoc (suc zero) (suc (suc y)) z hx hy hz = absurd (omega arith)
differ-assoc (suc (suc x)) y z hx hy hz = absurd (omega arith)

pub differ-bit : (x y : ℕ) → Bit x → Bit y → Bit (differ x y)
differ-bit zero y hx hy = hy
differ-bit (suc zero) zero hx hy = hx
differ-bit (suc zero) (suc zero) hx hy = zero-lt-suc 1
differ-bit (suc zero) (suc (suc y)) hx hy = absurd (omega arith)
differ-bit (suc (suc x)) y hx hy = absurd (omega arith)

pub xor-half : (a b : ℕ) → bit_xor a b / 2 ≡ bit_xor (a / 2) (b / 2)
xor-half a b = xor_shr a b 1

pub xor-bit : (a b : ℕ) → bit_xor a b % 2 ≡ differ (a % 2) (b % 2)
xor-bit a b = ap (λ (x : ℕ). x % 2) (xor_step a b) ∙ digits_mod (bit_xor (a / 2) (b / 2)) (differ-bit (a % 2) (b % 2) (mod2 a) (mod2 b))

pub xor_assoc : (a b c : ℕ) → bit_xor (bit_xor a b) c ≡ bit_xor a (bit_xor b c)
xor_assoc a =
    bin_ind (λ (n : ℕ). (b c : ℕ) → bit_xor (bit_xor n b) c ≡ bit_xor n (bit_xor b c)) (λ b c. refl)
    (λ n ih b c.
    xor_step (bit_xor n b) c
    ∙ ap₂ (λ (x y : ℕ). x * 2 + y)
    (ap (λ (x : ℕ). bit_xor x (c / 2)) (xor-half n b) ∙ ih (b / 2) (c / 2) ∙ ap (bit_xor (n / 2)) (sym (xor-half b c)))
    (ap (λ (x : ℕ). differ x (c % 2)) (xor-bit n b)
    ∙ differ-assoc (n % 2) (b % 2) (c % 2) (mod2 n) (mod2 b) (mod2 c)
    ∙ ap (differ (n % 2)) (sym (xor-bit b c)))
    ∙ sym (xor_step n (bit_xor b c)))
    a

-- the four terms of a sum of two sums change places
pub xor-swap : (a b c d : ℕ) → bit_xor (bit_xor a b) (bit_xor c d) ≡ bit_xor (bit_xor a c) (bit_xor b d)
xor-swap a b c d =
    xor_assoc a b (bit_xor c d)
    ∙ ap (bit_xor a) (sym (xor_assoc b c d) ∙ ap (λ (x : ℕ). bit_xor x d) (xor_comm b c) ∙ xor_assoc c b d)
    ∙ sym (xor_assoc a c (bit_xor b d))

pub xor-cancel : (a b : ℕ) → bit_xor a (bit_xor a b) ≡ b
xor-cancel a b = sym (xor_assoc a a b) ∙ ap (λ (x : ℕ). bit_xor x b) (xor_self a)

pub xor-eq : (a b : ℕ) → bit_xor a b ≡ zero → a ≡ b
xor-eq a b e = sym (xor_zero_r a) ∙ ap (bit_xor a) (sym e) ∙ xor-cancel a b

-- twice a sum
pub xor-double : (a b : ℕ) → bit_xor a b * 2 ≡ bit_xor (a * 2) (b * 2)
xor-double a b =
    sym
    (xor_step (a * 2) (b * 2)
    ∙ ap₂ (λ (x y : ℕ). bit_xor x y * 2 + differ (a * 2 % 2) (b * 2 % 2)) (mul-div_cancel a (zero-lt-suc 1)) (mul-div_cancel b (zero-lt-suc 1))
    ∙ ap₂ (λ (x y : ℕ). bit_xor a b * 2 + differ x y) (mul-mod_left a 2) (mul-mod_left b 2)
    ∙ add-zero (bit_xor a b * 2))

-- a digit times a number is additive in the digit
scale-differ : (x y p : ℕ) → Bit x → Bit y → differ x y * p ≡ bit_xor (x * p) (y * p)
scale-differ zero y p hx hy = ap (λ (n : ℕ). bit_xor n (y * p)) (sym (zero-mul p))
scale-differ (suc zero) zero p hx hy = sym (xor_zero_r (1 * p)) ∙ ap (bit_xor (1 * p)) (sym (zero-mul p))
scale-differ (suc zero) (suc zero) p hx hy = zero-mul p ∙ sym (xor_self (1 * p))
scale-differ (suc zero) (suc (suc y)) p hx hy = absurd (omega arith)
scale-differ (suc (suc x)) y p hx hy = absurd (omega arith)

-- the low digit of a sum, times a number
pub scale-xor : (a b p : ℕ) → bit_xor a b % 2 * p ≡ bit_xor (a % 2 * p) (b % 2 * p)
scale-xor a b p = ap (λ (n : ℕ). n * p) (xor-bit a b) ∙ scale-differ (a % 2) (b % 2) p (mod2 a) (mod2 b)

-- a digit times a sum
pub digit-xor : (b x y : ℕ) → Bit b → b * bit_xor x y ≡ bit_xor (b * x) (b * y)
digit-xor zero x y h = zero-mul (bit_xor x y) ∙ ap₂ bit_xor (sym (zero-mul x)) (sym (zero-mul y))
digit-xor (suc zero) x y h = one-mul (bit_xor x y) ∙ ap₂ bit_xor (sym (one-mul x)) (sym (one-mul y))
digit-xor (suc (suc b)) x y h = absurd (omega arith)

-- a function that maps 0 to 0 passes a digit
pub digit-through : (f : ℕ → ℕ) → f zero ≡ zero → (b x : ℕ) → Bit b → f (b * x) ≡ b * f x
digit-through f f0 zero x h = ap f (zero-mul x) ∙ f0 ∙ sym (zero-mul (f x))
digit-through f f0 (suc zero) x h = ap f (one-mul x) ∙ sym (one-mul (f x))
digit-through f f0 (suc (suc b)) x h = absurd (omega arith)

pub digit-le : (b x : ℕ) → Bit b → b * x ≤ x
digit-le zero x h = subst (λ (n : ℕ). n ≤ x) (sym (zero-mul x)) zero-le
digit-le (suc zero) x h = subst (λ (n : ℕ). n ≤ x) (sym (one-mul x)) (le_refl x)
digit-le (suc (suc b)) x h = absurd (omega arith)

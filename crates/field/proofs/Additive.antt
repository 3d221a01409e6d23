-- Additive functions on numbers: f (bit_xor x y) = bit_xor (f x) (f y).
use mathlib.Core.Path.{◌≡◌, sym, ap, ap₂, ◌∙◌}
use Prim.Native.Nat.{ℕ, zero, suc, ◌*◌, ◌/◌, ◌%◌, ◌^◌, ◌<◌}
use native.Mathlib.Nat.{mod-lt, div-lt_iff_lt-mul}
use native.Mathlib.Omega.{arith}
use lib.Arith.{lt-one}
use lib.Pow.{pow_pos, split}
use lib.Bits.{bit_xor, xor_self, xor_shifted}
use Rattle.field.proofs.Xor.{Bit, digit-through}

abbrev pub Additive : (ℕ → ℕ) → Type 0
Additive f = (x y : ℕ) → f (bit_xor x y) ≡ bit_xor (f x) (f y)

pub additive-zero : (f : ℕ → ℕ) → Additive f → f zero ≡ zero
additive-zero f add = add zero zero ∙ xor_self (f zero)

-- two additive functions that agree at 2^i for each i below k agree at each number below 2^k
pub additive-agree : (f g : ℕ → ℕ) → Additive f → Additive g → (k : ℕ) → ((i : ℕ) → i < k → f (2 ^ i) ≡ g (2 ^ i)) → (x : ℕ) → x < 2 ^ k → f x ≡ g x
additive-agree f g fa ga zero e x h = ap f (lt-one h) ∙ additive-zero f fa ∙ sym (additive-zero g ga) ∙ ap g (sym (lt-one h))
additive-agree f g fa ga (suc k) e x h =
    ap f x-is ∙ fa (x / 2 ^ k * 2 ^ k) (x % 2 ^ k)
    ∙ ap₂ bit_xor
    (digit-through f (additive-zero f fa) (x / 2 ^ k) (2 ^ k) top
    ∙ ap (λ (n : ℕ). x / 2 ^ k * n) (e k (omega arith))
    ∙ sym (digit-through g (additive-zero g ga) (x / 2 ^ k) (2 ^ k) top))
    (additive-agree f g fa ga k (λ i hi. e i (omega arith)) (x % 2 ^ k) (mod-lt x (pow_pos k)))
    ∙ sym (ga (x / 2 ^ k * 2 ^ k) (x % 2 ^ k)) ∙ ap g (sym x-is)
  where
    top : Bit (x / 2 ^ k)
    top = (div-lt_iff_lt-mul (pow_pos k)).1 (omega arith)

    x-is : x ≡ bit_xor (x / 2 ^ k * 2 ^ k) (x % 2 ^ k)
    x-is = sym (xor_shifted (x / 2 ^ k) k (x % 2 ^ k) (mod-lt x (pow_pos k)) ∙ split x k)

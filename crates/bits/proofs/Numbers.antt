-- Laws of the bits of numbers, and of numbers given by their binary digits.
use mathlib.Core.Path.{◌≡◌, refl, sym, ap, ◌∙◌, subst}
use mathlib.Core.Bool.{Bool, true, false}
use mathlib.Core.List.{List, [], ◌∷◌, ◌++◌}
use Prim.Native.Nat.{ℕ, zero, suc, ◌+◌, ◌-◌, ◌*◌, ◌/◌, ◌%◌, ◌^◌, ◌<◌}
use native.Mathlib.Omega.{arith}
use native.Mathlib.Decide.{ℕ_discrete}
use native.Mathlib.Nat.{add-zero, mul-add-div_right, mul-add-mod_self_right, pow-suc, mul_assoc, add-mul, add_assoc, mod-eq_of_lt, suc-sub-suc, add_comm}
use native.Mathlib.Numerals.{add-one}
use lib.ListN.{length, get_or, length-append, length-replicate}
use lib.Seq.{ext_get_or}
use lib.Pow.{split, high, shr-shr, pow_pos, pow-add, mod-pow-add}
use lib.Arith.{digits_lt}
use lib.Dec.{eqb}
use Rattle.bits.specs.Bits.{bit, run, ones, digit, number, digits}

-- bits of numbers

pub bit-lt : (x k : ℕ) → bit x k < 2
unfolding bit
bit-lt x k = omega arith

pub bit-zero : (x : ℕ) → bit x 0 ≡ x % 2
unfolding bit
bit-zero x = omega arith

-- the bits of a sum below a place are those of its lower part
pub bit-low : (a k j r : ℕ) → j < k → bit (a * 2 ^ k + r) j ≡ bit r j
unfolding bit
bit-low a k j r h =
    let i : ℕ = k - suc j in
    let e : k ≡ suc i + j = omega arith in
    let p : 2 ^ k ≡ 2 ^ i * 2 * 2 ^ j = ap (λ (n : ℕ). 2 ^ n) e ∙ pow-add 2 (suc i) j ∙ ap (λ (n : ℕ). n * 2 ^ j) (pow-suc 2 i) in
    let q : a * 2 ^ k + r ≡ (a * 2 ^ i * 2) * 2 ^ j + r = ap (λ (n : ℕ). a * n + r) p ∙ omega arith in
    ap (λ (n : ℕ). n / 2 ^ j % 2) q ∙ ap (λ (n : ℕ). n % 2) (mul-add-div_right (pow_pos j) (a * 2 ^ i * 2) r)
    ∙ mul-add-mod_self_right (a * 2 ^ i) 2 (r / 2 ^ j)

-- the bits of a sum from a place on are those of its upper part
pub bit_high : (a k i : ℕ) {r : ℕ} → r < 2 ^ k → bit (a * 2 ^ k + r) (k + i) ≡ bit a i
unfolding bit
bit_high a k i h = ap (λ (n : ℕ). n % 2) (sym (shr-shr _ k i) ∙ ap (λ (n : ℕ). n / 2 ^ i) (high a k h))

pub bit-shift : (x k i : ℕ) → bit x (k + i) ≡ bit (x / 2 ^ k) i
unfolding bit
bit-shift x k i = ap (λ (n : ℕ). n % 2) (sym (shr-shr x k i))

pub bit-mod : (x k j : ℕ) → j < k → bit (x % 2 ^ k) j ≡ bit x j
bit-mod x k j h = sym (bit-low (x / 2 ^ k) k j (x % 2 ^ k) h) ∙ ap (λ (n : ℕ). bit n j) (split x k)

-- two numbers with the same bits are equal
pub bit-ext : (k x y : ℕ) → x < 2 ^ k → y < 2 ^ k → ((j : ℕ) → j < k → bit x j ≡ bit y j) → x ≡ y
bit-ext zero x y hx hy e = omega arith
bit-ext (suc k) x y hx hy e =
    let hx' : x < 2 ^ k * 2 = subst (λ (n : ℕ). x < n) (pow-suc 2 k) hx in
    let hy' : y < 2 ^ k * 2 = subst (λ (n : ℕ). y < n) (pow-suc 2 k) hy in
    let h : x / 2 ≡ y / 2 = bit-ext k (x / 2) (y / 2) (omega arith) (omega arith)
    (λ j l. sym (bit-shift x 1 j) ∙ e (1 + j) (omega arith) ∙ bit-shift y 1 j) in
    let b : x % 2 ≡ y % 2 = sym (bit-zero x) ∙ e 0 (omega arith) ∙ bit-zero y in
    omega arith

-- digits

pub digit_lt : (b : Bool) → digit b < 2
unfolding digit
digit_lt true = omega arith
digit_lt false = omega arith

pub digit-bit : (b : Bool) → eqb (digit b) 1 ≡ b
unfolding digit
digit-bit true = refl
digit-bit false = refl

pub bit-digit : (x : ℕ) → x < 2 → digit (eqb x 1) ≡ x
unfolding digit
bit-digit zero h = refl
bit-digit (suc zero) h = refl
bit-digit (suc (suc x)) h = absurd (omega arith)

-- numbers given by their digits

pub number_lt : (w : List Bool) → number w < 2 ^ length w
unfolding number
number_lt [] = omega arith
number_lt (b ∷ w) =
    let p : 2 ^ suc (length w) ≡ 2 * 2 ^ length w = pow-suc 2 (length w) ∙ omega arith in
    rw p (digits_lt (digit_lt b) (number_lt w))

pub number_append : (v w : List Bool) → number (v ++ w) ≡ number v * 2 ^ length w + number w
unfolding number
number_append [] w = omega arith
number_append (b ∷ v) w =
    let p : 2 ^ length (v ++ w) ≡ 2 ^ length v * 2 ^ length w = ap (λ (n : ℕ). 2 ^ n) (length-append v w) ∙ pow-add 2 (length v) (length w) in
    rw (p, number_append v w, add-mul, mul_assoc, add_assoc)

-- the upper part of a number given by its digits
pub number-high : (v w : List Bool) → number (v ++ w) / 2 ^ length w ≡ number v
number-high v w = rw number_append (high (number v) (length w) (number_lt w))

pub number_bit : (w : List Bool) (j : ℕ) → j < length w → bit (number w) j ≡ digit (get_or w (length w - suc j) false)
unfolding number
number_bit [] j h = absurd (omega arith)
number_bit (b ∷ w) j h = elim (ℕ_discrete j (length w)) [
  | yes e ↦
      let z : length (b ∷ w) - suc j ≡ 0 = omega arith in
      let d = digit_lt b in
      ap (bit _) (e ∙ sym (add-zero (length w))) ∙ bit_high (digit b) (length w) 0 (number_lt w) ∙ bit-zero (digit b) ∙ mod-eq_of_lt d
      ∙ ap (λ (i : ℕ). digit (get_or (b ∷ w) i false)) (sym z)
  | no ne ↦
      let l : j < length w = omega arith in
      let s : length (b ∷ w) - suc j ≡ suc (length w - suc j) = omega arith in
      bit-low (digit b) (length w) j (number w) l ∙ number_bit w j l ∙ ap (λ (i : ℕ). digit (get_or (b ∷ w) i false)) (sym s)
]

pub digits-length : (x n : ℕ) → length (digits x n) ≡ n
unfolding digits
digits-length x zero = refl
digits-length x (suc n) = ap suc (digits-length x n)

pub digits-at : (x n j : ℕ) (d : Bool) → j < n → get_or (digits x n) j d ≡ eqb (bit x (n - suc j)) 1
unfolding digits
digits-at x zero j d h = absurd (omega arith)
digits-at x (suc n) zero d h = let e : n ≡ suc n - 1 = omega arith in ap (λ (k : ℕ). eqb (bit x k) 1) e
digits-at x (suc n) (suc j) d h = digits-at x n j d (omega arith) ∙ rw suc-sub-suc

-- a number is given by its digits, and a word is the digits of its number
pub number_digits : (x n : ℕ) → number (digits x n) ≡ x % 2 ^ n
unfolding number digits bit
number_digits x zero = omega arith
number_digits x (suc n) =
    rw (digits-length x n, bit-digit (x / 2 ^ n % 2) (omega arith), number_digits x n) (sym (mod-pow-add x 1 n) ∙ ap (λ (k : ℕ). x % 2 ^ k) (add_comm 1 n ∙ add-one n))

pub digits_number : (w : List Bool) → digits (number w) (length w) ≡ w
digits_number w = ext_get_or false (digits (number w) (length w)) w (digits-length (number w) (length w))
    (λ j h. let l : j < length w = omega (arith, digits-length (number w) (length w)) in
    let e : length w - suc (length w - suc j) ≡ j = omega arith in
    digits-at (number w) (length w) j false l ∙ ap (λ x. eqb x 1) (number_bit w (length w - suc j) (omega arith)) ∙ digit-bit _
    ∙ ap (λ (i : ℕ). get_or w i false) e)

-- ones

pub ones-length : (n : ℕ) → length (ones n) ≡ n
unfolding ones
ones-length n = length-replicate n true

pub ones-run : (s n : ℕ) → run (λ p. true) s n ≡ ones n
unfolding ones run
ones-run s zero = refl
ones-run s (suc n) = ap (◌∷◌ true) (ones-run (suc s) n)

pub number-ones : (n : ℕ) → number (ones n) ≡ 2 ^ n - 1
unfolding ones number digit
number-ones zero = refl
number-ones (suc n) =
    let p : 2 ^ suc n ≡ 2 ^ n * 2 = pow-suc 2 n in
    let h = pow_pos n in
    rw (length-replicate n true, p, number-ones n) (omega arith)

pub digits-ones : (n : ℕ) {v : ℕ} → v ≡ 2 ^ n - 1 → digits v n ≡ ones n
digits-ones n e = rw (e, ← number-ones n) (ap (digits (number (ones n))) (sym (ones-length n)) ∙ digits_number (ones n))

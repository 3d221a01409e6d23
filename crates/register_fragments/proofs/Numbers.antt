-- Laws of fragments: where the digits of a number stand in them, and that each of `fragments_of` and `joined` undoes the other.
use mathlib.Core.Path.{◌≡◌, refl, sym, ap, ◌∙◌}
use mathlib.Core.List.{List, [], ◌∷◌}
use Prim.Native.Nat.{ℕ, zero, suc, ◌+◌, ◌*◌, ◌/◌, ◌%◌, ◌^◌, ◌<◌, ◌≤◌}
use native.Mathlib.Omega.{arith}
use native.Mathlib.Decide.{dec_lt, ℕ_discrete}
use native.Mathlib.Nat.{zero-add, div-eq_of_lt, div-lt_iff_lt-mul, mod-eq_of_lt, mod-lt}
use lib.ListN.{length, get_or, set, drop, length-drop, drop_of_length-le}
use lib.Seq.{drop-cons, get_or-drop, get_or-set_same, get_or-set_other}
use lib.Pow.{high, low, shr-shr, shr_le, pow_pos, pow-add, pow_mono, mod-pow-add}
use lib.Arith.{digits_lt}
use Rattle.bits.specs.Bits.{bit, run}
use Rattle.bits.proofs.Numbers.{bit-shift, bit-mod, bit-ext}
use Rattle.bits.proofs.Runs.{run_length, run_at, run-ext}
use Rattle.code.specs.Register.{register}
use Rattle.remainder.proofs.Words.{Words, register-bit}
use Rattle.register_fragments.specs.Fragments.{fragments_of, joined, Fragments}

-- a list of numbers of 32 bits
abbrev pub Small : List ℕ → Type 0
Small fs = (i : ℕ) → get_or fs i 0 < 2 ^ 32

small-rest : (f : ℕ) (fs : List ℕ) → Small (f ∷ fs) → Small fs
small-rest f fs h i = h (suc i)

next_power : (n : ℕ) → 2 ^ (32 * suc n) ≡ 2 ^ (32 * n) * 2 ^ 32
next_power n = let e : 32 * suc n ≡ 32 * n + 32 = omega arith in ap (λ (k : ℕ). 2 ^ k) e ∙ pow-add 2 (32 * n) 32

pub joined-lt : (fs : List ℕ) → Small fs → joined fs < 2 ^ (32 * length fs)
unfolding joined
joined-lt [] h = omega arith
joined-lt (f ∷ fs) h = rw (next_power (length fs)) (digits_lt (joined-lt fs (small-rest f fs h)) (h 0))

-- a number is joined from its fragments

fragments-from : (x s n : ℕ) → joined (run (λ i. x / 2 ^ (32 * i) % 2 ^ 32) s n) ≡ x / 2 ^ (32 * s) % 2 ^ (32 * n)
unfolding joined run
fragments-from x s zero = omega arith
fragments-from x s (suc n) =
    let e : 32 * s + 32 ≡ 32 * suc s = omega arith in
    let k : 32 * suc n ≡ 32 * n + 32 = omega arith in
    let q : x / 2 ^ (32 * s) / 2 ^ 32 ≡ x / 2 ^ (32 * suc s) = shr-shr x (32 * s) 32 ∙ ap (λ (j : ℕ). x / 2 ^ j) e in
    rw (fragments-from x (suc s) n, ← q, k) (sym (mod-pow-add (x / 2 ^ (32 * s)) (32 * n) 32))

below_more : (x w v : ℕ) → w ≤ v → x < 2 ^ w → x < 2 ^ v
below_more x w v l h = let m : 2 ^ w ≤ 2 ^ v = pow_mono l in omega arith

pub joined-fragments : (x w : ℕ) → w ≤ 224 → x < 2 ^ w → joined (fragments_of x) ≡ x
unfolding fragments_of
joined-fragments x w l h = let d : x / 2 ^ (32 * 0) ≡ x = omega arith in fragments-from x 0 7 ∙ rw d (mod-eq_of_lt (below_more x w (32 * 7) l h))

-- fragments are those of the number that they make

joined_at : (fs : List ℕ) → Small fs → (i : ℕ) → i < length fs → joined fs / 2 ^ (32 * i) % 2 ^ 32 ≡ get_or fs i 0
unfolding joined
joined_at [] h i l = absurd (omega arith)
joined_at (f ∷ fs) h zero l = let d : (joined fs * 2 ^ 32 + f) / 2 ^ (32 * 0) ≡ joined fs * 2 ^ 32 + f = omega arith in ap (λ (y : ℕ). y % 2 ^ 32) d ∙ low (joined fs) 32 (h 0)
joined_at (f ∷ fs) h (suc i) l =
    let e : 32 * suc i ≡ 32 + 32 * i = omega arith in
    rw (e, ← shr-shr (joined fs * 2 ^ 32 + f) 32 (32 * i), high (joined fs) 32 (h 0)) (joined_at fs (small-rest f fs h) i (omega arith))

pub fragments-joined : (fs : List ℕ) → Fragments fs → fragments_of (joined fs) ≡ fs
unfolding fragments_of
fragments-joined fs h = run-ext _ 0 fs 7 0 h.count
    (λ j l. let z : 0 + j ≡ j = omega arith in rw z (joined_at fs h.small j (omega (arith, h.count))))

pub fragments-length : (x : ℕ) → length (fragments_of x) ≡ 7
unfolding fragments_of
fragments-length x = run_length _ 0 7

-- the digits of a number in its fragments

pub fragments-at : (x i : ℕ) → i < 7 → get_or (fragments_of x) i 0 ≡ x / 2 ^ (32 * i) % 2 ^ 32
unfolding fragments_of
fragments-at x i h = run_at _ 0 7 i 0 h ∙ rw (zero-add i)

pub fragments-bit : (x i k : ℕ) → i < 7 → k < 32 → bit (get_or (fragments_of x) i 0) k ≡ bit x (32 * i + k)
fragments-bit x i k h l = rw (fragments-at x i h) (bit-mod (x / 2 ^ (32 * i)) 32 k l ∙ sym (bit-shift x (32 * i) k))

bit-above : (x w p : ℕ) → x < 2 ^ w → w ≤ p → bit x p ≡ 0
unfolding bit
bit-above x w p h l = let m : 2 ^ w ≤ 2 ^ p = pow_mono l in let q : x / 2 ^ p ≡ 0 = div-eq_of_lt (omega arith) in rw q

-- where a number has fewer digits, the bits from there on are zero
pub fragments-unused : (x w i k : ℕ) → x < 2 ^ w → i < 7 → k < 32 → w ≤ 32 * i + k → bit (get_or (fragments_of x) i 0) k ≡ 0
fragments-unused x w i k s h l o = fragments-bit x i k h l ∙ bit-above x w (32 * i + k) s o

-- the same of fragments that make a number

pub joined-bit : (fs : List ℕ) (i k : ℕ) → Fragments fs → i < 7 → k < 32 → bit (joined fs) (32 * i + k) ≡ bit (get_or fs i 0) k
joined-bit fs i k f h l = sym (fragments-bit (joined fs) i k h l) ∙ ap (λ l. bit (get_or l i 0) k) (fragments-joined fs f)

pub one-beyond : (fs : List ℕ) (w i k : ℕ) → Fragments fs → i < 7 → k < 32 → w ≤ 32 * i + k → bit (get_or fs i 0) k ≡ 1 → 2 ^ w ≤ joined fs
one-beyond fs w i k f h l o e = elim (dec_lt (joined fs) (2 ^ w)) [
  | yes s ↦ let z : ◌≡◌ {A = ℕ} 0 1 = sym (bit-above (joined fs) w (32 * i + k) s o) ∙ joined-bit fs i k f h l ∙ e in absurd (omega arith)
  | no s ↦ omega arith
]

-- a number without ones from a digit on is below its power
below_power : (x n w : ℕ) → x < 2 ^ n → ((p : ℕ) → w ≤ p → bit x p ≡ 0) → x < 2 ^ w
below_power x n w h z =
    let d = shr_le x w in
    let q : x / 2 ^ w ≡ 0 = bit-ext n (x / 2 ^ w) 0 (omega arith) (pow_pos n)
    (λ j l. sym (bit-shift x w j) ∙ z (w + j) (omega arith) ∙ sym (bit-above 0 0 j (omega arith) (omega arith))) in
    let r = (div-lt_iff_lt-mul {x = x} {y = 1} (pow_pos w)).0 (omega arith) in
    omega arith

-- where no bit from there on is one, the number has no more digits
pub zeros-below : (fs : List ℕ) (w : ℕ) → Fragments fs → ((i k : ℕ) → i < 7 → k < 32 → w ≤ 32 * i + k → bit (get_or fs i 0) k ≡ 0) → joined fs < 2 ^ w
zeros-below fs w f z = below_power (joined fs) (32 * length fs) w (joined-lt fs f.small) zero-at
  where
    zero-at : (p : ℕ) → w ≤ p → bit (joined fs) p ≡ 0
    zero-at p h = elim (dec_lt p 224) [
      | yes l ↦
          let e : p ≡ 32 * (p / 32) + p % 32 = omega arith in
          ap (bit (joined fs)) e ∙ joined-bit fs (p / 32) (p % 32) f (omega arith) (omega arith) ∙ z (p / 32) (p % 32) (omega arith) (omega arith) (omega arith)
      | no l ↦ bit-above (joined fs) (32 * length fs) p (joined-lt fs f.small) (omega (arith, f.count))
    ]

-- fragments read one by one, the highest first

pub joined_end : (fs : List ℕ) (i : ℕ) → length fs ≤ i → joined (drop i fs) ≡ 0
unfolding joined
joined_end fs i h = rw (drop_of_length-le fs h)

pub joined-next : (fs : List ℕ) (i j : ℕ) {x y : ℕ} → i < length fs → j ≡ suc i → x ≡ joined (drop j fs) → y ≡ x * 2 ^ 32 + get_or fs i 0 → y ≡ joined (drop i fs)
unfolding joined
joined-next fs i j h e ex ey = ey ∙ rw (drop-cons fs i 0 h, ex, e)

-- one fragment more has room
more_room : (x f a b : ℕ) → x < 2 ^ a → f < 2 ^ 32 → a + 32 ≤ b → x * 2 ^ 32 + f < 2 ^ b
more_room x f a b hx hf l =
    let e = pow-add 2 a 32 in
    let m : 2 ^ (a + 32) ≤ 2 ^ b = pow_mono l in
    let d = digits_lt hx hf in
    omega arith

pub joined-room : (fs : List ℕ) (i j : ℕ) {x : ℕ} → Small fs → length fs ≡ 7 → i < 7 → j ≡ suc i → x ≡ joined (drop j fs) → x * 2 ^ 32 + get_or fs i 0 < 2 ^ (64 * 4)
joined-room fs i j s l h e ex =
    let m = joined-lt (drop j fs) (λ k. rw (get_or-drop j fs k 0) (s (j + k))) in
    rw ex (more_room (joined (drop j fs)) (get_or fs i 0) (32 * length (drop j fs)) (64 * 4) m (s i) (omega (arith, length-drop j fs)))

-- fragment i of the number in words of 64 bits, of which `at` is the lowest digit
pub word-fragment : (ws : List ℕ) → Words ws → (i at : ℕ) → at ≡ 32 * i → at + 32 ≤ 64 * length ws → get_or ws (at / 64) 0 / 2 ^ (at % 64) % 2 ^ 32 ≡ register ws / 2 ^ (32 * i) % 2 ^ 32
word-fragment ws h i at e l = bit-ext 32 _ _ (mod-lt _ (pow_pos 32)) (mod-lt _ (pow_pos 32))
    (λ j k. let q : (32 * i + j) / 64 ≡ at / 64 = omega arith in
    let m : (32 * i + j) % 64 ≡ at % 64 + j = omega arith in
    sym (bit-mod _ 32 j k ∙ sym (bit-shift (register ws) (32 * i) j) ∙ register-bit ws h (32 * i + j) (omega arith)
    ∙ rw (q, m) (bit-shift (get_or ws (at / 64) 0) (at % 64) j ∙ sym (bit-mod _ 32 j k))))

pub last_word : (ws : List ℕ) → Words ws → length ws ≡ 14 → get_or ws 3 0 % 2 ^ 32 ≡ register ws / 2 ^ (32 * 6) % 2 ^ 32
last_word ws h l = let d : get_or ws 3 0 / 2 ^ 0 ≡ get_or ws 3 0 = omega arith in ap (λ (x : ℕ). x % 2 ^ 32) (sym d) ∙ word-fragment ws h 6 192 refl (omega arith)

-- fragments written one by one
pub fragments-next : (x : ℕ) (l : List ℕ) (i v : ℕ) → i < length l → ((j : ℕ) → j < i → get_or l j 0 ≡ x / 2 ^ (32 * j) % 2 ^ 32) → v ≡ x / 2 ^ (32 * i) % 2 ^ 32
    → (j : ℕ) → j < i + 1 → get_or (set l i v) j 0 ≡ x / 2 ^ (32 * j) % 2 ^ 32
fragments-next x l i v h before e j k = elim (ℕ_discrete j i) [
  | yes q ↦ rw q (get_or-set_same l i v 0 h ∙ e)
  | no q ↦ get_or-set_other l i j v 0 q ∙ before j (omega arith)
]

pub fragments-end : (x : ℕ) (l : List ℕ) → length l ≡ 7 → ((j : ℕ) → j < 7 → get_or l j 0 ≡ x / 2 ^ (32 * j) % 2 ^ 32) → l ≡ fragments_of x
unfolding fragments_of
fragments-end x l n h = sym (run-ext _ 0 l 7 0 n (λ j k. rw (zero-add j) (sym (h j k))))

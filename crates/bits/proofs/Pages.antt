-- Laws of the bits of pages, and of bytes given by their bits.
use mathlib.Core.Path.{◌≡◌, sym, ap, ◌∙◌}
use mathlib.Core.Bool.{Bool, false}
use mathlib.Core.List.{List}
use Prim.Native.Nat.{ℕ, suc, ◌+◌, ◌-◌, ◌*◌, ◌/◌, ◌%◌, ◌^◌, ◌<◌, ◌≤◌}
use native.Mathlib.Omega.{arith}
use native.Mathlib.Decide.{dec_lt}
use native.Mathlib.Nat.{zero-add, zero-div}
use lib.ListN.{length, get_or, get_or-eq_default}
use lib.Pow.{high, low}
use lib.Seq.{ext_get_or}
use lib.Dec.{eqb}
use Rattle.bits.specs.Bits.{bit, bit_at, bit_of, run, digit, number, digits, bytes, Bytes}
use Rattle.bits.proofs.Numbers.{bit-lt, bit-ext, bit-digit, digit-bit, number_lt, number_append, number_bit, digits_number}
use Rattle.bits.proofs.Runs.{run_length, run_at, run-cong, run-append}

-- bits of pages

pub bit_at_lt : (l : List ℕ) (p : ℕ) → bit_at l p < 2
unfolding bit_at
bit_at_lt l p = bit-lt _ _

pub bit_of-digit : (l : List ℕ) (p : ℕ) → digit (bit_of l p) ≡ bit_at l p
unfolding bit_of
bit_of-digit l p = bit-digit (bit_at l p) (bit_at_lt l p)

-- bit j of byte i
pub bit_at-byte : (l : List ℕ) (i j : ℕ) → j < 8 → bit_at l (8 * i + (7 - j)) ≡ bit (get_or l i 0) j
unfolding bit_at
bit_at-byte l i j h =
    let d : (8 * i + (7 - j)) / 8 ≡ i = omega arith in
    let m : 7 - (8 * i + (7 - j)) % 8 ≡ j = omega arith in
    ap (λ (n : ℕ). bit (get_or l n 0) (7 - (8 * i + (7 - j)) % 8)) d ∙ ap (bit (get_or l i 0)) m

-- past the end there are zeros
pub bit_of-past : (l : List ℕ) (p : ℕ) → 8 * length l ≤ p → bit_of l p ≡ false
unfolding bit_of bit_at bit
bit_of-past l p h = let e : length l ≤ p / 8 = omega arith in rw (get_or-eq_default l 0 e, zero-div)

-- the number that a run of bits gives

pub number-run-lt : (f : ℕ → Bool) (s n : ℕ) → number (run f s n) < 2 ^ n
number-run-lt f s n = rw run_length at (number_lt (run f s n))

pub number-run-bit : (f : ℕ → Bool) (s n j : ℕ) → j < n → bit (number (run f s n)) j ≡ digit (f (s + (n - suc j)))
number-run-bit f s n j h =
    number_bit (run f s n) j (rw run_length h) ∙ rw run_length (ap digit (run_at f s n (n - suc j) false (omega arith)))

pub number-run-append : (f : ℕ → Bool) (s a b : ℕ) → number (run f s (a + b)) ≡ number (run f s a) * 2 ^ b + number (run f (s + a) b)
number-run-append f s a b = ap number (run-append f s a b) ∙ number_append (run f s a) (run f (s + a) b) ∙ rw run_length

pub number-run-high : (f : ℕ → Bool) (s a b : ℕ) → number (run f s (a + b)) / 2 ^ b ≡ number (run f s a)
number-run-high f s a b = rw (number-run-append f s a b) (high (number (run f s a)) b (number-run-lt f (s + a) b))

pub number-run-low : (f : ℕ → Bool) (s a b : ℕ) → number (run f s (a + b)) % 2 ^ b ≡ number (run f (s + a) b)
number-run-low f s a b = rw (number-run-append f s a b) (low (number (run f s a)) b (number-run-lt f (s + a) b))

pub digits-run : (f : ℕ → Bool) (s n : ℕ) {v : ℕ} → v ≡ number (run f s n) → digits v n ≡ run f s n
digits-run f s n e = rw e (ap (digits (number (run f s n))) (sym (run_length f s n)) ∙ digits_number (run f s n))

-- a byte is the number that its bits give
pub byte-number : (l : List ℕ) (i : ℕ) → get_or l i 0 < 256 → number (run (bit_of l) (8 * i) 8) ≡ get_or l i 0
byte-number l i h = bit-ext 8 _ _ (number-run-lt (bit_of l) (8 * i) 8) h
    (λ j k. let e : 8 * i + (8 - suc j) ≡ 8 * i + (7 - j) = omega arith in
    number-run-bit (bit_of l) (8 * i) 8 j k ∙ bit_of-digit l _ ∙ ap (bit_at l) e ∙ bit_at-byte l i j k)

-- bytes with the same bits are equal
pub bits-ext : (n : ℕ) (k l : List ℕ) → Bytes n k → Bytes n l → ((p : ℕ) → p < 8 * n → bit_of k p ≡ bit_of l p) → k ≡ l
bits-ext n k l hk hl e =
    let ck = hk.count in let cl = hl.count in
    ext_get_or 0 k l (ck ∙ sym cl) (λ i h.
    sym (byte-number k i (hk.small i)) ∙ ap number (run-cong (bit_of k) (bit_of l) (8 * i) (8 * i) 8 (λ j v. e (8 * i + j) (omega arith)))
    ∙ byte-number l i (hl.small i))

-- bytes given by their bits

pub bytes-length : (f : ℕ → Bool) (n : ℕ) → length (bytes f n) ≡ n
unfolding bytes
bytes-length f n = run_length _ 0 n

pub bytes-at : (f : ℕ → Bool) (n i : ℕ) → i < n → get_or (bytes f n) i 0 ≡ number (run f (8 * i) 8)
unfolding bytes
bytes-at f n i h = run_at _ 0 n i 0 h ∙ ap (λ (k : ℕ). number (run f (8 * k) 8)) (zero-add i)

pub bytes-bytes : (f : ℕ → Bool) (n : ℕ) → Bytes n (bytes f n)
bytes-bytes f n = record {
  count = bytes-length f n;
  small = λ i. elim (dec_lt i n) [
    | yes h ↦ rw (bytes-at f n i h) (number-run-lt f (8 * i) 8)
    | no h ↦ let e : length (bytes f n) ≤ i = rw (bytes-length f n) (omega arith) in rw (get_or-eq_default (bytes f n) 0 e) (omega arith)
  ];
}

pub bytes-bit : (f : ℕ → Bool) (n p : ℕ) → p < 8 * n → bit_of (bytes f n) p ≡ f p
unfolding bit_of bit_at
bytes-bit f n p h =
    let i : p / 8 < n = omega arith in
    let e : 8 * (p / 8) + (8 - suc (7 - p % 8)) ≡ p = omega arith in
    rw (bytes-at f n (p / 8) i) (ap (λ (x : ℕ). eqb x 1) (number-run-bit f (8 * (p / 8)) 8 (7 - p % 8) (omega arith)) ∙ digit-bit _ ∙ ap f e)

pub bytes-ext : (f : ℕ → Bool) (n : ℕ) (l : List ℕ) → Bytes n l → ((p : ℕ) → p < 8 * n → bit_of l p ≡ f p) → bytes f n ≡ l
bytes-ext f n l b h = bits-ext n (bytes f n) l (bytes-bytes f n) b (λ p k. bytes-bit f n p k ∙ sym (h p k))

pub bytes-cong : (f g : ℕ → Bool) (n : ℕ) → ((p : ℕ) → p < 8 * n → f p ≡ g p) → bytes f n ≡ bytes g n
bytes-cong f g n h = bytes-ext f n (bytes g n) (bytes-bytes g n) (λ p k. bytes-bit g n p k ∙ sym (h p k))

pub bytes_run : (f : ℕ → Bool) (n s k : ℕ) → s + k ≤ 8 * n → run (bit_of (bytes f n)) s k ≡ run f s k
bytes_run f n s k h = run-cong _ f s s k (λ j l. bytes-bit f n (s + j) (omega arith))

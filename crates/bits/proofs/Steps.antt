-- What the code's single steps do to numbers: shifts and joins of bytes and words.
use mathlib.Core.Path.{◌≡◌, refl, sym, ap, ap₂, ◌∙◌, subst}
use mathlib.Core.Bool.{Bool}
use mathlib.Core.List.{List}
use Prim.Native.Nat.{ℕ, ◌+◌, ◌-◌, ◌*◌, ◌/◌, ◌%◌, ◌^◌, ◌<◌, ◌≤◌}
use native.Mathlib.Omega.{arith}
use native.Mathlib.Nat.{add-zero, mul-mod_left, mod-lt}
use lib.ListN.{get_or}
use lib.Arith.{digits_lt}
use lib.Pow.{pow_pos, pow-add, shl-shr, shr_lt, mod-pow-add}
use Rattle.bits.specs.Bits.{bit_of, run, number}
use Rattle.bits.proofs.Pages.{number-run-append, number-run-high, number-run-low, byte-number}

-- a shift to the left keeps the lower digits
pub shift-mod : (x j k : ℕ) → x * 2 ^ k % 2 ^ (j + k) ≡ x % 2 ^ j * 2 ^ k
shift-mod x j k = mod-pow-add (x * 2 ^ k) j k ∙ rw (shl-shr x k, mul-mod_left x (2 ^ k)) (add-zero _)

-- and leaves room for as many as it shifted by
pub shift-lt : (x y n k : ℕ) → k ≤ n → y < 2 ^ k → x * 2 ^ k % 2 ^ n + y < 2 ^ n
shift-lt x y n k l h =
    let e : n - k + k ≡ n = omega arith in
    subst (λ (i : ℕ). x * 2 ^ k % 2 ^ i + y < 2 ^ i) e (rw (shift-mod x (n - k) k, pow-add 2 (n - k) k) (digits_lt (mod-lt x (pow_pos (n - k))) h))

-- n digits, shifted by k, with k of the w digits that follow
pub number-shift : (f : ℕ → Bool) (s n w k : ℕ) → k ≤ n → k ≤ w
    → number (run f s n) * 2 ^ k % 2 ^ n + number (run f (s + n) w) / 2 ^ (w - k) ≡ number (run f (s + k) n)
number-shift f s n w k h l =
    let e : n ≡ n - k + k = omega arith in
    let g : n ≡ k + (n - k) = omega arith in
    let v : w ≡ k + (w - k) = omega arith in
    let u : s + n ≡ s + k + (n - k) = omega arith in
    ap₂ ◌+◌
    (ap (λ (i : ℕ). number (run f s n) * 2 ^ k % 2 ^ i) e ∙ shift-mod _ (n - k) k
    ∙ ap (λ (x : ℕ). x * 2 ^ k) (ap (λ (i : ℕ). number (run f s i) % 2 ^ (n - k)) g ∙ number-run-low f s k (n - k)))
    (ap (λ (i : ℕ). number (run f (s + n) i) / 2 ^ (w - k)) v ∙ number-run-high f (s + n) k (w - k) ∙ ap (λ (i : ℕ). number (run f i k)) u)
    ∙ sym (number-run-append f (s + k) (n - k) k) ∙ ap (λ (i : ℕ). number (run f (s + k) i)) (sym e)

-- n digits, shifted by k, with k bits of the byte that follows, and what they give: the n digits from bit k on

pub joined-lt : (n a b k : ℕ) → 8 ≤ n → k < 8 → b < 256 → a * 2 ^ k % 2 ^ n + b / 2 ^ (8 - k) < 2 ^ n
joined-lt n a b k l h hb =
    let e : 8 ≡ k + (8 - k) = omega arith in
    shift-lt a (b / 2 ^ (8 - k)) n k (omega arith) (shr_lt k (8 - k) (subst (λ (i : ℕ). b < 2 ^ i) e hb))

pub byte-run : (l : List ℕ) (i s : ℕ) {b : ℕ} → 8 * i ≡ s → b ≡ get_or l i 0 → b < 256 → b ≡ number (run (bit_of l) s 8)
byte-run l i s e eb hb = eb ∙ sym (byte-number l i (rw (← eb) hb)) ∙ ap (λ (r : ℕ). number (run (bit_of l) r 8)) e

joined-run : (l : List ℕ) (s n k i p : ℕ) {a b : ℕ} → 8 ≤ n → k < 8 → 8 * i ≡ s + n → s + k ≡ p
    → a ≡ number (run (bit_of l) s n) → b ≡ get_or l i 0 → b < 256 → a * 2 ^ k % 2 ^ n + b / 2 ^ (8 - k) ≡ number (run (bit_of l) p n)
joined-run l s n k i p hn hk ei ep ea eb hb =
    ap₂ (λ (x y : ℕ). x * 2 ^ k % 2 ^ n + y / 2 ^ (8 - k)) ea (byte-run l i _ ei eb hb)
    ∙ number-shift (bit_of l) s n 8 k (omega arith) (omega arith) ∙ ap (λ (r : ℕ). number (run (bit_of l) r n)) ep

-- a byte from two bytes
pub byte-joined : (l : List ℕ) (i k p : ℕ) {a b r : ℕ} → r ≡ a * 2 ^ k % 256 + b / 2 ^ (8 - k) → k < 8 → 8 * i + k ≡ p
    → a ≡ get_or l i 0 → b ≡ get_or l (i + 1) 0 → a < 256 → b < 256 → r ≡ number (run (bit_of l) p 8)
byte-joined l i k p er hk ep ea eb ha hb =
    er ∙ joined-run l (8 * i) 8 k (i + 1) p (omega arith) hk (omega arith) ep (byte-run l i _ refl ea ha) eb hb

-- a word from four bytes
pub four-joined : (l : List ℕ) (i : ℕ) {a b c d r : ℕ} → r ≡ a * 16777216 + b * 65536 + c * 256 + d
    → a ≡ get_or l i 0 → b ≡ get_or l (i + 1) 0 → c ≡ get_or l (i + 2) 0 → d ≡ get_or l (i + 3) 0 → a < 256 → b < 256 → c < 256 → d < 256
    → r ≡ number (run (bit_of l) (8 * i) 32)
four-joined l i er ea eb ec ed ha hb hc hd =
    let f = bit_of l in
    let s : ℕ = 8 * i in
    let xa = byte-run l i s refl ea ha in
    let xb = byte-run l (i + 1) (s + 8) (omega arith) eb hb in
    let xc = byte-run l (i + 2) (s + 8 + 8) (omega arith) ec hc in
    let xd = byte-run l (i + 3) (s + 8 + 8 + 8) (omega arith) ed hd in
    omega (arith, number-run-append f s 8 24, number-run-append f (s + 8) 8 16, number-run-append f (s + 8 + 8) 8 8)

-- a word of 64 bits from its halves
pub halves-joined : (l : List ℕ) (i : ℕ) {u v r : ℕ} → r ≡ u * 4294967296 + v → u ≡ number (run (bit_of l) (8 * i) 32)
    → v ≡ number (run (bit_of l) (8 * (i + 4)) 32) → r ≡ number (run (bit_of l) (8 * i) 64)
halves-joined l i er eu ev =
    let s : ℕ = 8 * i in
    let q : 8 * (i + 4) ≡ s + 32 = omega arith in
    er ∙ ap₂ (λ (x y : ℕ). x * 4294967296 + y) eu (ev ∙ ap (λ (r : ℕ). number (run (bit_of l) r 32)) q) ∙ sym (number-run-append (bit_of l) s 32 32)

-- the same from any bit on, with the byte that follows
pub word-joined : (l : List ℕ) (p : ℕ) {u v b r : ℕ} → r ≡ (u * 4294967296 + v) * 2 ^ (p % 8) % 18446744073709551616 + b / 2 ^ (8 - p % 8)
    → u ≡ number (run (bit_of l) (8 * (p / 8)) 32) → v ≡ number (run (bit_of l) (8 * (p / 8 + 4)) 32) → b ≡ get_or l (p / 8 + 8) 0 → b < 256
    → r ≡ number (run (bit_of l) p 64)
word-joined l p er eu ev eb hb =
    er ∙ joined-run l (8 * (p / 8)) 64 (p % 8) (p / 8 + 8) p (omega arith) (omega arith) (omega arith) (omega arith) (halves-joined l (p / 8) refl eu ev) eb hb

-- the first n bits of a byte
pub bits-first : (f : ℕ → Bool) (s n : ℕ) {b : ℕ} → n ≤ 8 → b ≡ number (run f s 8) → b / 2 ^ (8 - n) ≡ number (run f s n)
bits-first f s n h e =
    let g : 8 ≡ n + (8 - n) = omega arith in
    ap (λ (x : ℕ). x / 2 ^ (8 - n)) (e ∙ ap (λ (i : ℕ). number (run f s i)) g) ∙ number-run-high f s n (8 - n)

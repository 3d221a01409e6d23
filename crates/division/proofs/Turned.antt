-- Laws of words that are read from bytes: with the lowest byte first, turned round.
use mathlib.Core.Path.{◌≡◌, refl, sym, ap, ap₂, ◌∙◌}
use mathlib.Core.List.{List}
use Prim.Native.Nat.{ℕ, ◌+◌, ◌*◌, ◌/◌, ◌%◌, ◌<◌}
use native.Mathlib.Omega.{arith}
use native.Mathlib.Decide.{dec_lt}
use native.Mathlib.Nat.{mod-lt}
use lib.ListN.{length, get_or, drop, set}
use lib.Seq.{get_or-set_same, get_or-set_other}
use Rattle.bits.specs.Bits.{bit_of, run, number}
use Rattle.bits.proofs.Steps.{four-joined, halves-joined}
use Rattle.division.specs.Turned.{turned_half, turned_word}
use Rattle.wide.specs.Bytes.{little}
use Rattle.wide.proofs.Steps as wide
use Rattle.wide.proofs.Bytes.{Bytes, little-append, little-lt, little-from, bytes_drop}

-- the bytes of a number of four
module _ (a b c d : ℕ) (ha : a < 256) (hb : b < 256) (hc : c < 256) {x : ℕ} (ex : x ≡ d * 16777216 + c * 65536 + b * 256 + a) where
  byte-lowest : x % 256 ≡ a
  byte-lowest = omega arith

  byte-second : x / 256 % 256 ≡ b
  byte-second = let e : x / 256 ≡ d * 65536 + c * 256 + b = omega arith in omega (arith, e)

  byte-third : x / 65536 % 256 ≡ c
  byte-third = let e : x / 65536 ≡ d * 256 + c = omega arith in omega (arith, e)

  byte-highest : x / 16777216 ≡ d
  byte-highest = omega arith

  bytes-turned : {r : ℕ} → r ≡ x % 256 * 16777216 + x / 256 % 256 * 65536 + x / 65536 % 256 * 256 + x / 16777216 → r ≡ a * 16777216 + b * 65536 + c * 256 + d
  bytes-turned er = er ∙ rw (byte-lowest, byte-second, byte-third, byte-highest) refl

-- four bytes turned round are the 32 bits in them
half-turned : (l : List ℕ) → Bytes l → (i : ℕ) {x : ℕ} → x ≡ little (drop i l) 4 → turned_half x ≡ number (run (bit_of l) (8 * i) 32)
unfolding turned_half
half-turned l h i {x} ex =
    let e : x ≡ get_or l (i + 3) 0 * 16777216 + get_or l (i + 2) 0 * 65536 + get_or l (i + 1) 0 * 256 + get_or l i 0 = ex ∙ sym (wide.four-joined l i refl refl refl refl refl) in
    four-joined l i (bytes-turned (get_or l i 0) (get_or l (i + 1) 0) (get_or l (i + 2) 0) (get_or l (i + 3) 0) (h i) (h (i + 1)) (h (i + 2)) e refl) refl refl refl refl
    (h i) (h (i + 1)) (h (i + 2)) (h (i + 3))

pub word-turned : (l : List ℕ) → Bytes l → (i : ℕ) {w : ℕ} → w ≡ little (drop i l) 8 → turned_word w ≡ number (run (bit_of l) (8 * i) 64)
unfolding turned_word
word-turned l h i {w} ew =
    let s : little (drop i l) 8 ≡ little (drop 4 (drop i l)) 4 * 4294967296 + little (drop i l) 4 = little-append (drop i l) 4 4 in
    let m : little (drop i l) 4 < 4294967296 = little-lt (drop i l) (bytes_drop l h i) 4 in
    let f : little (drop 4 (drop i l)) 4 ≡ little (drop (i + 4) l) 4 = little-from l i 4 4 in
    let lower : w % 4294967296 ≡ little (drop i l) 4 = omega arith in
    let upper : w / 4294967296 ≡ little (drop (i + 4) l) 4 = omega arith in
    halves-joined l i refl (half-turned l h i lower) (half-turned l h (i + 4) upper)

-- turned twice, a word is what it was

half-bytes : (x : ℕ) → x ≡ x / 16777216 * 16777216 + x / 65536 % 256 * 65536 + x / 256 % 256 * 256 + x % 256
half-bytes x =
    let a : x / 65536 / 256 ≡ x / 16777216 = omega arith in
    let b : x / 256 / 256 ≡ x / 65536 = omega arith in
    omega (arith, a, b)

half_twice : (x : ℕ) → x < 4294967296 → turned_half (turned_half x) ≡ x
unfolding turned_half
half_twice x h =
    let a : ℕ = x % 256 in
    let b : ℕ = x / 256 % 256 in
    let c : ℕ = x / 65536 % 256 in
    let d : ℕ = x / 16777216 in
    let ha : a < 256 = mod-lt x (omega arith) in
    let hb : b < 256 = mod-lt (x / 256) (omega arith) in
    let hc : c < 256 = mod-lt (x / 65536) (omega arith) in
    let hd : d < 256 = omega arith in
    bytes-turned d c b a hd hc hb refl refl ∙ sym (half-bytes x)

half_lt : (x : ℕ) → x < 4294967296 → turned_half x < 4294967296
unfolding turned_half
half_lt x h =
    let ha : x % 256 < 256 = mod-lt x (omega arith) in
    let hb : x / 256 % 256 < 256 = mod-lt (x / 256) (omega arith) in
    let hc : x / 65536 % 256 < 256 = mod-lt (x / 65536) (omega arith) in
    let hd : x / 16777216 < 256 = omega arith in
    omega (arith, ha, hb, hc, hd)

pub word-twice : (w : ℕ) → w < 18446744073709551616 → turned_word (turned_word w) ≡ w
unfolding turned_word
word-twice w h =
    let p : ℕ = turned_half (w % 4294967296) in
    let q : ℕ = turned_half (w / 4294967296) in
    let hl : w % 4294967296 < 4294967296 = mod-lt w (omega arith) in
    let hu : w / 4294967296 < 4294967296 = omega arith in
    let hp : p < 4294967296 = half_lt (w % 4294967296) hl in
    let hq : q < 4294967296 = half_lt (w / 4294967296) hu in
    let lower : (p * 4294967296 + q) % 4294967296 ≡ q = omega (arith, hq) in
    let upper : (p * 4294967296 + q) / 4294967296 ≡ p = omega (arith, hq) in
    ap₂ (λ (x y : ℕ). turned_half x * 4294967296 + turned_half y) lower upper ∙ ap₂ (λ (x y : ℕ). x * 4294967296 + y) (half_twice (w / 4294967296) hu) (half_twice (w % 4294967296) hl) ∙ omega arith

-- words stored one after the other, each turned
pub turned-next : (f : ℕ → ℕ) (ws : List ℕ) (i w : ℕ) → i < length ws → ((k : ℕ) → k < i → turned_word (get_or ws k 0) ≡ f k) → turned_word w ≡ f i
    → (k : ℕ) → k < i + 1 → turned_word (get_or (set ws i w) k 0) ≡ f k
turned-next f ws i w l h e k m = elim (dec_lt k i) [
  | yes b ↦ ap turned_word (get_or-set_other ws i k w 0 (omega arith)) ∙ h k b
  | no b ↦ let q : k ≡ i = omega arith in rw q (ap turned_word (get_or-set_same ws i w 0 l) ∙ e)
]

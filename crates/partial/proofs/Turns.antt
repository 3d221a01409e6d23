-- Laws of the turns that reduce a partial remainder: four digits of its highest word are cleared by a row.
use mathlib.Core.Path.{◌≡◌, refl, sym, ap, ◌∙◌}
use mathlib.Core.List.{List}
use Prim.Native.Nat.{ℕ, ◌+◌, ◌-◌, ◌*◌, ◌/◌, ◌%◌, ◌^◌, ◌<◌, ◌≤◌}
use native.Mathlib.Omega.{arith}
use native.Mathlib.Nat.{mul-le-mul}
use native.Mathlib.Decide.{dec_lt}
use borrow.Author.Tests.{eq-eqb, ne_eqb}
use lib.ListN.{length, get_or, drop}
use lib.Pow.{pow_mono, pow-add, high, shl_lt, shr_lt, shr-shr}
use lib.Arith.{digits_lt}
use lib.Bits.{bit_xor, xor_lt}
use Rattle.code.specs.Register.{register}
use Rattle.remainder.proofs.Parity.{rest_below}
use Rattle.remainder.proofs.Words.{Words, low-next, low-lt, register-short}
use Rattle.wide.specs.Bytes.{little}
use Rattle.wide.proofs.Bytes.{Bytes, little-lt, bytes_drop}
use Rattle.table_rows.specs.Rows.{row_bytes}
use Rattle.table_rows.proofs.Rows.{row-size, row_read}
use Rattle.partial.specs.Partial.{reduced, Clears}
use Rattle.partial.specs.Clearing.{row_words, Clearing, multiple_of}
use Rattle.partial.proofs.Partial.{cleared-below, cleared, clears-power}

-- the highest of u + 1 words
pub top-word : (ws : List ℕ) → Words ws → (u : ℕ) → u + 1 ≤ length ws → register ws < 2 ^ (64 * u + 64) → get_or ws u 0 ≡ register ws / 2 ^ (64 * u)
top-word ws hw u l h =
    let e : 64 * u + 64 ≡ 64 * (u + 1) = omega arith in
    sym (ap (λ x. x / 2 ^ (64 * u)) (register-short ws (u + 1) l (rw (← e) h) ∙ low-next ws u) ∙ high (get_or ws u 0) (64 * u) (low-lt ws hw u))

-- the four digits from d + j on, where no higher one is left
four-digits : (s d j : ℕ) {w c : ℕ} → s < 2 ^ (d + j + 4) → w ≡ s / 2 ^ d → c ≡ w / 2 ^ j % 16 → c ≡ s / 2 ^ (d + j)
four-digits s d j {w} h ew ec =
    let e : d + j + 4 ≡ 4 + (d + j) = omega arith in
    let p : w / 2 ^ j ≡ s / 2 ^ (d + j) = ap (λ x. x / 2 ^ j) ew ∙ shr-shr s d j in
    let l : s / 2 ^ (d + j) < 16 = shr_lt 4 (d + j) (rw (← e) h) in
    omega arith

-- how many words a row has
pub words-four : (u : ℕ) → u ≡ 4 → row_words u ≡ 7
unfolding row_words
words-four u e = rw (eq-eqb u 4 e) refl

pub words-other : (u : ℕ) → (u ≡ 4 → ⊥) → row_words u ≡ u + 1
unfolding row_words
words-other u h = rw (ne_eqb u 4 h) refl

-- the rows of a table have room in 36864 bytes
pub row_room : (n v : ℕ) {size : ℕ} → size ≡ row_bytes n → n ≤ 15 → v < 288 → size * v + 128 ≤ 36864
row_room n v {size} e hn hv =
    let s = row-size n in
    let l : size ≤ 128 = omega arith in
    let a : v ≤ 287 = omega arith in
    let m : size * v ≤ 128 * 287 = mul-le-mul l a in
    omega arith

-- a register stays as short, whatever is added
pub added-below : (bytes : List ℕ) → Bytes bytes → (u at : ℕ) {s y : ℕ} → s < 2 ^ (64 * u + 64) → y ≡ bit_xor (little (drop at bytes) (8 * (u + 1))) s → y < 2 ^ (64 * u + 64)
added-below bytes hb u at {s} h ey =
    let e : 8 * (8 * (u + 1)) ≡ 64 * u + 64 = omega arith in
    let l : little (drop at bytes) (8 * (u + 1)) < 2 ^ (64 * u + 64) = rw e at (little-lt (drop at bytes) (bytes_drop bytes hb at) (8 * (u + 1))) in
    rw ey (xor_lt (64 * u + 64) (little (drop at bytes) (8 * (u + 1))) s l h)

module _ (bytes : List ℕ) (hb : Bytes bytes) (u g : ℕ) (some : 2 ≤ u) (n : ℕ) (room : u < n) (rows : Clearing n (64 * u) g bytes) (monic : g / 2 ^ (64 * u) ≡ 1) where
  multiple-lt : (c : ℕ) → c < 16 → multiple_of (64 * u) g c < 2 ^ (4 + 64 * u)
  unfolding multiple_of
  multiple-lt c hc =
      let m : 2 ^ 64 ≤ 2 ^ (64 * u) = pow_mono {i = 64} {j = 64 * u} (omega arith) in
      rw (pow-add 2 4 (64 * u)) (digits_lt hc (rest_below (64 * u) g (omega arith) monic c (omega arith)))

  moved-lt : (c j : ℕ) → c < 16 → j ≤ 60 → multiple_of (64 * u) g c * 2 ^ j < 2 ^ (64 * (u + 1))
  moved-lt c j hc hj =
      let a = shl_lt (4 + 64 * u) j (multiple-lt c hc) in
      let m : 2 ^ (4 + 64 * u + j) ≤ 2 ^ (64 * (u + 1)) = pow_mono (omega arith) in
      omega arith

  -- the row that is read is the multiple moved up to the digits that it clears
  row-even : (c b : ℕ) → c < 16 → b < 8 → little (drop (row_bytes n * (256 + c) + 8 - b) bytes) (8 * (u + 1)) ≡ multiple_of (64 * u) g c * 2 ^ (8 * b)
  row-even c b hc h = row_read n bytes hb (256 + c) (multiple_of (64 * u) g c) b (u + 1) (rows.even c hc) (omega arith) (omega arith) (moved-lt c (8 * b) hc (omega arith))

  row-odd : (c b : ℕ) → c < 16 → b < 8 → little (drop (row_bytes n * (272 + c) + 8 - b) bytes) (8 * (u + 1)) ≡ multiple_of (64 * u) g c * 2 ^ (4 + 8 * b)
  row-odd c b hc h =
      let x : ℕ = multiple_of (64 * u) g c in
      let p : x * 2 ^ 4 * 2 ^ (8 * b) ≡ x * 2 ^ (4 + 8 * b) = rw (pow-add 2 4 (8 * b)) (omega arith) in
      row_read n bytes hb (272 + c) (x * 2 ^ 4) b (u + 1) (rows.odd c hc) (omega arith) (omega arith) (rw p (moved-lt c (4 + 8 * b) hc (omega arith))) ∙ p

  row-clears : (c b k first : ℕ) {at : ℕ} → c < 16 → b < 8 → k ≤ 4 → k % 4 ≡ 0 → first ≡ 256 + 4 * k → at ≡ row_bytes n * (first + c) + 8 - b
      → little (drop at bytes) (8 * (u + 1)) ≡ multiple_of (64 * u) g c * 2 ^ (8 * b + k)
  row-clears c b k first {at} hc h hk ek ef ea = elim (dec_lt k 1) [
    | yes l ↦
        let e : first ≡ 256 = omega arith in
        let f : 8 * b ≡ 8 * b + k = omega arith in
        ap (λ i. little (drop i bytes) (8 * (u + 1))) (ea ∙ ap (λ i. row_bytes n * (i + c) + 8 - b) e) ∙ row-even c b hc h ∙ ap (λ i. multiple_of (64 * u) g c * 2 ^ i) f
    | no l ↦
        let e : first ≡ 272 = omega arith in
        let f : 4 + 8 * b ≡ 8 * b + k = omega arith in
        ap (λ i. little (drop i bytes) (8 * (u + 1))) (ea ∙ ap (λ i. row_bytes n * (i + c) + 8 - b) e) ∙ row-odd c b hc h ∙ ap (λ i. multiple_of (64 * u) g c * 2 ^ i) f
  ]

  clears : (c : ℕ) → c < 16 → Clears (64 * u) g c (multiple_of (64 * u) g c)
  unfolding multiple_of
  clears c hc = clears-power (64 * u) g (omega arith) monic c hc

  -- one turn: the digits from 8b + k on of the highest word go, and the remainder stays
  module _ (s b k first : ℕ) (lb : b < 8) (lk : k ≤ 4) (ek : k % 4 ≡ 0) (ef : first ≡ 256 + 4 * k) (h : s < 2 ^ (64 * u + (8 * b + k) + 4)) {w c at y : ℕ}
      (ew : w ≡ s / 2 ^ (64 * u)) (ec : c ≡ w / 2 ^ (8 * b + k) % 16) (ea : at ≡ row_bytes n * (first + c) + 8 - b)
      (ey : y ≡ bit_xor (little (drop at bytes) (8 * (u + 1))) s) where
    sum : y ≡ bit_xor (multiple_of (64 * u) g c * 2 ^ (8 * b + k)) s
    sum = ey ∙ ap (λ x. bit_xor x s) (row-clears c b k first (omega arith) lb lk ek ef ea)

    pub turn_below : y < 2 ^ (64 * u + (8 * b + k))
    turn_below = cleared-below (64 * u) g s c (8 * b + k) (four-digits s (64 * u) (8 * b + k) h ew ec) (clears c (omega arith)) sum

    pub turn-same : reduced (64 * u) g y ≡ reduced (64 * u) g s
    turn-same = cleared (64 * u) g s c (8 * b + k) (omega arith) (clears c (omega arith)) sum

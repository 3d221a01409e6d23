-- Laws of the numbers in words that the steps move, and of runs of bits that are fed by them.
use mathlib.Core.Path.{◌≡◌, refl, sym, ap, ap₂, subst, ◌∙◌}
use mathlib.Core.List.{List}
use Prim.Native.Nat.{ℕ, zero, suc, ◌+◌, ◌-◌, ◌*◌, ◌/◌, ◌%◌, ◌^◌, ◌<◌, ◌≤◌}
use native.Mathlib.Omega.{arith}
use native.Mathlib.Decide.{dec_lt, ℕ_discrete}
use native.Mathlib.Nat.{add-zero, mul-one, lt_of_lt_of_le}
use lib.ListN.{length, get_or, set, length-set, get_or-eq_default}
use lib.Seq.{get_or-set_same, get_or-set_other}
use lib.Pow.{pow_pos, pow_mono, shl_lt, shr-shr, shl-shr, high}
use lib.Bits.{bit_xor, xor_lt, xor_zero_r, xor_block}
use Rattle.bits.specs.Bits.{bit_of, run, number, digits}
use Rattle.bits.proofs.Numbers.{number_append, digits_number}
use Rattle.bits.proofs.Pages.{number-run-lt}
use Rattle.bits.proofs.Runs.{run_length, run-append}
use Rattle.code.specs.Word.{Word}
use Rattle.code.specs.Register.{low, register}
use Rattle.remainder.specs.Parity.{parity_from}
use Rattle.partial.specs.Partial.{reduced}
use Rattle.remainder.proofs.Words.{Words, next_power, low-next, low_first, low-lt, low-store, low-one, low-register, register-short, register-zeros, register-mod, top_digits}
use Rattle.remainder.proofs.Parity.{parity-append}
use Rattle.partial.proofs.Partial.{reduced-pushed, reduced-below}
use Rattle.division_table.specs.Table.{RowWords}
use Rattle.division_steps.proofs.Rows.{words-many}

-- the highest word
pub top-word : (ws : List ℕ) → Words ws → (u : ℕ) → 0 < u → u ≤ length ws → register ws < 2 ^ (64 * u) → get_or ws (u - 1) 0 ≡ register ws / 2 ^ (64 * u - 64)
top-word ws h u some l r = sym (ap (λ n. n / 1) (sym (mul-one (get_or ws (u - 1) 0))) ∙ shl-shr (get_or ws (u - 1) 0) 0) ∙ top_digits ws h u 64 some l (omega arith) r

-- The n highest bits of a word that is read at some position.
module _ (page : List ℕ) (s n : ℕ) (h : n ≤ 64) {w b : ℕ} (ew : w ≡ number (run (bit_of page) s 64)) (eb : b ≡ w / 2 ^ (64 - n)) where
  odd_number : b ≡ number (run (bit_of page) s n)
  odd_number =
      let e : 64 ≡ n + (64 - n) = omega arith in
      let v : Word = run (bit_of page) s n in
      let z : Word = run (bit_of page) (s + n) (64 - n) in
      let l : length z ≡ 64 - n = run_length (bit_of page) (s + n) (64 - n) in
      let m : number z < 2 ^ (64 - n) = number-run-lt (bit_of page) (s + n) (64 - n) in
      let q : w ≡ number v * 2 ^ (64 - n) + number z =
      ew ∙ ap (λ i. number (run (bit_of page) s i)) e ∙ ap number (run-append (bit_of page) s n (64 - n)) ∙ number_append v z ∙ ap (λ i. number v * 2 ^ i + number z) l in
      eb ∙ ap (λ i. i / 2 ^ (64 - n)) q ∙ high (number v) (64 - n) m

  pub odd-below : b < 2 ^ n
  odd-below = rw odd_number (number-run-lt (bit_of page) s n)

  pub odd-digits : digits b n ≡ run (bit_of page) s n
  odd-digits =
      let v : Word = run (bit_of page) s n in
      ap (λ m. digits m n) odd_number ∙ ap (digits (number v)) (sym (run_length (bit_of page) s n)) ∙ digits_number v

-- a number moved up by one word, with w added to what is its highest word then

up-low : (ws vs : List ℕ) → get_or ws 0 0 ≡ 0 → (n : ℕ) → ((k : ℕ) → k < n → get_or ws (k + 1) 0 ≡ get_or vs k 0) → low ws (n + 1) ≡ low vs n * 18446744073709551616
unfolding low
up-low ws vs z zero h = low_first ws ∙ z
up-low ws vs z (suc n) h =
    let e : n + 1 ≡ suc n = omega arith in
    let all : low ws (n + 1 + 1) ≡ low vs (n + 1) * 18446744073709551616 =
    low-next ws (n + 1) ∙ ap₂ (λ (a b : ℕ). a * 2 ^ (64 * (n + 1)) + b) (h n (omega arith)) (up-low ws vs z n (λ k l. h k (omega arith)))
    ∙ ap (λ x. get_or vs n 0 * x + low vs n * 18446744073709551616) (next_power n) ∙ omega arith ∙ sym (ap (λ x. x * 18446744073709551616) (low-next vs n)) in
    subst (λ m. low ws (m + 1) ≡ low vs m * 18446744073709551616) e all

pub up-store : (ws vs : List ℕ) (i : ℕ) → i + 1 < length ws → ((k : ℕ) → k < i → get_or ws (k + 1) 0 ≡ get_or vs k 0)
    → (k : ℕ) → k < i + 1 → get_or (set ws (i + 1) (get_or vs i 0)) (k + 1) 0 ≡ get_or vs k 0
up-store ws vs i l h k m = elim (dec_lt k i) [
  | yes b ↦ get_or-set_other ws (i + 1) (k + 1) (get_or vs i 0) 0 (omega arith) ∙ h k b
  | no b ↦ let q : k ≡ i = omega arith in rw q (get_or-set_same ws (i + 1) (get_or vs i 0) 0 l)
]

-- a number with room in the first words has zeros in the others
pub word_more : (u : ℕ) → 64 * u + 64 ≡ 64 * (u + 1)
word_more u = omega arith

pub words-zero : (ws : List ℕ) (n : ℕ) → register ws < 2 ^ (64 * n) → (k : ℕ) → n ≤ k → get_or ws k 0 ≡ 0
words-zero ws n h k l = elim (ℕ_discrete (get_or ws k 0) 0) [
  | yes e ↦ e
  | no e ↦ elim (dec_lt k (length ws)) [
    | yes m ↦
        let a = low-one ws k e in
        let b : low ws (k + 1) ≤ register ws = low-register ws (k + 1) (omega arith) in
        let c : 2 ^ (64 * n) ≤ 2 ^ (64 * k) = pow_mono {i = 64 * n} {j = 64 * k} (omega arith) in
        absurd (omega arith)
    | no m ↦ absurd (e (get_or-eq_default ws 0 (omega arith)))
  ]
]

pub word-up-end : (ws vs : List ℕ) → Words vs → (u w : ℕ) → 0 < u → u < length ws → u ≤ length vs → get_or ws 0 0 ≡ 0 → ((k : ℕ) → k < u → get_or ws (k + 1) 0 ≡ get_or vs k 0)
    → ((k : ℕ) → u + 1 ≤ k → get_or ws k 0 ≡ 0) → register (set ws u (bit_xor (get_or vs (u - 1) 0) w)) ≡ bit_xor (register vs % 2 ^ (64 * u) * 2 ^ 64) (w * 2 ^ (64 * u))
word-up-end ws vs hv u w some l m z h above =
    let n : ℕ = u - 1 in
    let f : ℕ = get_or vs n 0 in
    let x : ℕ = bit_xor f w in
    let a : ℕ = low vs n * 2 ^ 64 in
    let P : ℕ = 2 ^ (64 * u) in
    let e : u ≡ n + 1 = omega arith in
    let p : 64 * n + 64 ≡ 64 * u = omega arith in
    let la : a < P = rw p at (shl_lt (64 * n) 64 (low-lt vs hv n)) in
    let ew : low ws u ≡ a = ap (low ws) e ∙ up-low ws vs z n (λ k i. h k (omega arith)) in
    let ep : P ≡ 18446744073709551616 * 2 ^ (64 * n) = ap (λ k. 2 ^ (64 * k)) e ∙ next_power n in
    let ev : low vs u * 2 ^ 64 ≡ f * P + a = ap (λ k. low vs k * 2 ^ 64) e ∙ ap (λ y. y * 2 ^ 64) (low-next vs n) ∙ omega arith ∙ sym (ap (λ y. f * y + a) ep) in
    let el : u + 1 ≤ length (set ws u x) = rw (length-set ws u x) (omega arith) in
    register-zeros (set ws u x) (u + 1) el (λ k i. get_or-set_other ws u k x 0 (omega arith) ∙ above k i)
    ∙ low-store ws u x l ∙ ap (λ y. x * P + y) (ew ∙ sym (xor_zero_r a)) ∙ sym (xor_block (64 * u) f w a 0 la (pow_pos (64 * u)))
    ∙ ap₂ bit_xor (sym ev ∙ ap (λ y. y * 2 ^ 64) (sym (register-mod vs hv u m))) (add-zero (w * P))

-- a number moved up by k digits, with b added to the word above it

pub carry-next : (w k : ℕ) → k < 64 → w / 2 / 2 ^ (63 - k) ≡ w / 2 ^ (64 - k)
carry-next w k h = let e : 1 + (63 - k) ≡ 64 - k = omega arith in shr-shr w 1 (63 - k) ∙ ap (λ n. w / 2 ^ n) e

pub start-end : (ws vs : List ℕ) (u k c b : ℕ) → u < length ws → u ≤ length vs → register vs < 2 ^ (64 * u) → low ws u < 2 ^ (64 * u) → low ws u + c * 2 ^ (64 * u) ≡ low vs u * 2 ^ k + 0
    → ((j : ℕ) → u ≤ j → get_or ws j 0 ≡ 0) → register (set ws u (bit_xor c b)) ≡ bit_xor (register vs * 2 ^ k) (b * 2 ^ (64 * u))
start-end ws vs u k c b l m hv hw inv above =
    let x : ℕ = bit_xor c b in
    let a : ℕ = low ws u in
    let P : ℕ = 2 ^ (64 * u) in
    let ev : register vs * 2 ^ k ≡ c * P + a = ap (λ y. y * 2 ^ k) (register-short vs u m hv) ∙ omega arith in
    let el : u + 1 ≤ length (set ws u x) = rw (length-set ws u x) (omega arith) in
    register-zeros (set ws u x) (u + 1) el (λ j i. get_or-set_other ws u j x 0 (omega arith) ∙ above j (omega arith))
    ∙ low-store ws u x l ∙ ap (λ y. x * P + y) (sym (xor_zero_r a)) ∙ sym (xor_block (64 * u) c b a 0 hw (pow_pos (64 * u)))
    ∙ ap₂ bit_xor (sym ev) (add-zero (b * P))

pub start-stands : {u : ℕ} → RowWords u → (k r b : ℕ) {x : ℕ} → r < 2 ^ (64 * u) → k < 64 → b < 2 ^ k → x ≡ bit_xor (r * 2 ^ k) (b * 2 ^ (64 * u))
    → (x < 2 ^ (64 * u + 64)) × ((g : ℕ) → reduced (64 * u) g x ≡ parity_from (64 * u) g r (digits b k))
start-stands {u} wide k r b hr hk hb ex =
    let hu = words-many wide in
    let e : k + 64 * u ≡ 64 * u + k = omega arith in
    let m : 2 ^ (64 * u + k) ≤ 2 ^ (64 * u + 64) = pow_mono {i = 64 * u + k} {j = 64 * u + 64} (omega arith) in
    let ha : r * 2 ^ k < 2 ^ (64 * u + k) = shl_lt (64 * u) k hr in
    let hc : b * 2 ^ (64 * u) < 2 ^ (64 * u + k) = rw e at (shl_lt k (64 * u) hb) in
    (rw ex (lt_of_lt_of_le (xor_lt (64 * u + k) (r * 2 ^ k) (b * 2 ^ (64 * u)) ha hc) m), λ g. ap (reduced (64 * u) g) ex ∙ reduced-pushed (64 * u) g (omega arith) k r b (omega arith) hr hb)

-- the first words of a number

pub copy-next : (ws vs : List ℕ) (i : ℕ) → i < length ws → low ws i ≡ low vs i → low (set ws i (get_or vs i 0)) (i + 1) ≡ low vs (i + 1)
copy-next ws vs i l e = low-store ws i (get_or vs i 0) l ∙ ap (λ y. get_or vs i 0 * 2 ^ (64 * i) + y) e ∙ sym (low-next vs i)

pub copy-end : (ws vs : List ℕ) (u d g s : ℕ) → d ≡ 64 * u → 128 ≤ d → u ≤ length ws → u ≤ length vs → g / 2 ^ d ≡ 1 → s < 2 ^ (d + 64) → register vs ≡ reduced d g s
    → low ws u ≡ low vs u → ((k : ℕ) → u ≤ k → get_or ws k 0 ≡ 0) → register ws ≡ reduced d g s
copy-end ws vs u d g s ed hd l m monic hs ev inv above =
    let below : register vs < 2 ^ (64 * u) = rw (ev, ← ed) (reduced-below d g hd monic s hs) in
    register-zeros ws u l above ∙ inv ∙ sym (register-short vs u m below) ∙ ev

-- the bytes of a word, one after the other
pub byte_next : (v b : ℕ) {left : ℕ} → left ≡ v / 2 ^ (8 * b) → left / 256 ≡ v / 2 ^ (8 * (b + 1))
byte_next v b el =
    let e : 8 * b + 8 ≡ 8 * (b + 1) = omega arith in
    ap (λ n. n / 256) el ∙ shr-shr v (8 * b) 8 ∙ ap (λ n. v / 2 ^ n) e

-- values of a function, stored one after the other
pub stored_next : (f : ℕ → ℕ) (ws : List ℕ) (i : ℕ) {w : ℕ} → i < length ws → ((k : ℕ) → k < i → get_or ws k 0 ≡ f k) → w ≡ f i → (k : ℕ) → k < i + 1 → get_or (set ws i w) k 0 ≡ f k
stored_next f ws i {w} l h e k m = elim (dec_lt k i) [
  | yes b ↦ get_or-set_other ws i k w 0 (omega arith) ∙ h k b
  | no b ↦ let q : k ≡ i = omega arith in rw q (get_or-set_same ws i w 0 l ∙ e)
]

-- runs of bits, as the loops feed them

module _ (d g r : ℕ) (page : List ℕ) (s : ℕ) where
  pub parity-parts : (i j : ℕ) {n x y t : ℕ} → n ≡ i + j → t ≡ s + i → x ≡ parity_from d g r (run (bit_of page) s i) → y ≡ parity_from d g x (run (bit_of page) t j)
      → y ≡ parity_from d g r (run (bit_of page) s n)
  parity-parts i j en et ex ey = ey ∙ rw (et, ex, en, run-append (bit_of page) s i j) (sym (parity-append d g r (run (bit_of page) s i) (run (bit_of page) (s + i) j)))

  pub parity-word : (i : ℕ) {x y w : ℕ} → x ≡ parity_from d g r (run (bit_of page) s (64 * i)) → w ≡ number (run (bit_of page) (s + 64 * i) 64) → y ≡ parity_from d g x (digits w 64)
      → y ≡ parity_from d g r (run (bit_of page) s (64 * (i + 1)))
  parity-word i {x} {y} {w} ex ew ey =
      let e : 64 * (i + 1) ≡ 64 * i + 64 = omega arith in
      let v : Word = run (bit_of page) (s + 64 * i) 64 in
      let q : digits w 64 ≡ v = ap (λ m. digits m 64) ew ∙ ap (digits (number v)) (sym (run_length (bit_of page) (s + 64 * i) 64)) ∙ digits_number v in
      parity-parts (64 * i) 64 e refl ex (ey ∙ ap (parity_from d g x) q)

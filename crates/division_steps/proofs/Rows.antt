-- Laws of the rows of bytes: what row v stands for, where it is read for a byte of a word, and sums of eight rows.
use mathlib.Core.Path.{◌≡◌, refl, sym, ap, ap₂, ◌∙◌}
use mathlib.Core.List.{List}
use Prim.Native.Nat.{ℕ, zero, suc, ◌+◌, ◌-◌, ◌*◌, ◌/◌, ◌%◌, ◌^◌, ◌<◌, ◌≤◌}
use native.Mathlib.Omega.{arith}
use native.Mathlib.Numerals.{add-one}
use native.Mathlib.Decide.{dec_lt}
use native.Mathlib.Nat.{zero-mul, one-mul, mul_comm, mul-one, mul-le-mul, pow-suc, mod-lt, mod-eq_of_lt, lt_of_lt_of_le}
use lib.ListN.{length, get_or, drop, set}
use lib.Seq.{get_or-set_same, get_or-set_other}
use lib.Pow.{pow_pos, pow_mono, shl_lt, shr_lt, mod-pow-add}
use lib.Bits.{bit_xor, xor_lt, xor_zero_l, xor_zero_r, xor_block, xor_shifted}
use Rattle.field.proofs.Xor.{xor-half, xor_assoc, xor-swap, xor-double, scale-xor}
use Rattle.bits.specs.Bits.{digits}
use Rattle.code.specs.Generator.{times}
use Rattle.code.specs.Register.{low, register}
use Rattle.remainder.specs.Parity.{rest, parity_from}
use Rattle.remainder.proofs.Parity.{xor-up, rest-xor, rest-zero}
use Rattle.remainder.proofs.Words.{Words, low-lt, low-above, register-short}
use Rattle.wide.specs.Bytes.{little}
use Rattle.wide.proofs.Bytes.{Bytes, bytes_drop, little-lt, little-append, little-from}
use Rattle.table_rows.specs.Rows.{row_bytes}
use Rattle.table_rows.proofs.Rows.{row_read}
use Rattle.partial.specs.Partial.{reduced, Stands}
use Rattle.partial.specs.Clearing.{row_words}
use Rattle.partial.proofs.Partial.{reduced-xor, stands-zero, stands-sum, stands-power, partial-step}
use Rattle.division_table.specs.Table.{RowWords, four, ten, fourteen, row_number, divisor_of, Rests}
use Rattle.division_steps.specs.Sums.{word_sum, Added}

-- products with a number of few digits

module _ (x : ℕ) where
  times_zero : (k : ℕ) → times k x 0 ≡ 0
  unfolding times
  times_zero zero = refl
  times_zero (suc k) = ap₂ (λ (a b : ℕ). bit_xor a (b * 2)) (zero-mul x) (times_zero k)

  times-xor : (k y z : ℕ) → times k x (bit_xor y z) ≡ bit_xor (times k x y) (times k x z)
  unfolding times
  times-xor zero y z = refl
  times-xor (suc k) y z =
      ap₂ bit_xor (scale-xor y z x) (ap (λ n. times k x n * 2) (xor-half y z) ∙ ap (λ n. n * 2) (times-xor k (y / 2) (z / 2)) ∙ xor-double (times k x (y / 2)) (times k x (z / 2)))
      ∙ xor-swap (y % 2 * x) (z % 2 * x) (times k x (y / 2) * 2) (times k x (z / 2) * 2)

  times_power : (k i : ℕ) → i < k → times k x (2 ^ i) ≡ x * 2 ^ i
  unfolding times
  times_power zero i h = absurd (omega arith)
  times_power (suc k) zero h = ap₂ (λ (a b : ℕ). bit_xor a (b * 2)) (one-mul x) (times_zero k) ∙ xor_zero_r x ∙ sym (mul-one x)
  times_power (suc k) (suc i) h =
      let p : 2 ^ suc i ≡ 2 ^ i * 2 = pow-suc 2 i in
      let a : 2 ^ suc i % 2 ≡ 0 = omega arith in
      let b : 2 ^ suc i / 2 ≡ 2 ^ i = omega arith in
      ap₂ (λ (c n : ℕ). bit_xor (c * x) (times k x n * 2)) a b ∙ ap₂ (λ (c n : ℕ). bit_xor c (n * 2)) (zero-mul x) (times_power k i (omega arith))
      ∙ xor_zero_l (x * 2 ^ i * 2) ∙ rw p (omega arith)

-- row v is a partial remainder of v x^64 x^d

module _ (d g : ℕ) (wide : 128 ≤ d) (monic : g / 2 ^ d ≡ 1) where
  stands-below : (i : ℕ) → i ≤ 8 → (v : ℕ) → v < 2 ^ i → Stands d g (v * 2 ^ 64) (times 8 (rest d g (2 ^ 64)) v)
  stands-below zero hi v h =
      let e : v ≡ 0 = omega arith in
      rw (e, times_zero (rest d g (2 ^ 64)) 8) (stands-zero d g)
  stands-below (suc i) hi v h = elim (dec_lt v (2 ^ i)) [
    | yes l ↦ stands-below i (omega arith) v l
    | no l ↦
        let R : ℕ = rest d g (2 ^ 64) in
        let w : ℕ = v - 2 ^ i in
        let p : 2 ^ suc i ≡ 2 ^ i * 2 = pow-suc 2 i in
        let lw : w < 2 ^ i = omega arith in
        let e : bit_xor (2 ^ i) w ≡ v = ap (λ n. bit_xor n w) (sym (one-mul (2 ^ i))) ∙ xor_shifted 1 i w lw ∙ omega arith in
        let a : bit_xor (2 ^ 64 * 2 ^ i) (w * 2 ^ 64) ≡ v * 2 ^ 64 = ap (λ n. bit_xor n (w * 2 ^ 64)) (mul_comm (2 ^ 64) (2 ^ i)) ∙ xor-up 64 (2 ^ i) w ∙ ap (λ n. n * 2 ^ 64) e in
        let b : bit_xor (R * 2 ^ i) (times 8 R w) ≡ times 8 R v = ap (λ n. bit_xor n (times 8 R w)) (sym (times_power R 8 i (omega arith))) ∙ sym (times-xor R 8 (2 ^ i) w) ∙ ap (times 8 R) e in
        rw (a, b) at (stands-sum d g (stands-power d g wide monic (2 ^ 64) i (omega arith) (omega arith)) (stands-below i (omega arith) w lw))
  ]

  pub stands-row : (v : ℕ) → v < 256 → Stands d g (v * 2 ^ 64) (times 8 (rest d g (2 ^ 64)) v)
  stands-row v h = stands-below 8 (omega arith) v h

-- sums of rows, in words and as numbers

-- the sum of x and of the numbers in the first m words of n rows
unfoldable row_sum : List ℕ → List ℕ → ℕ → ℕ → ℕ → ℕ
row_sum bytes at m zero x = x
row_sum bytes at m (suc n) x = bit_xor (little (drop (get_or at n 0) bytes) (8 * m)) (row_sum bytes at m n x)

module _ (bytes at : List ℕ) (hb : Bytes bytes) where
  row_lt : (p m : ℕ) → little (drop p bytes) (8 * m) < 2 ^ (64 * m)
  row_lt p m = let e : 8 * (8 * m) ≡ 64 * m = omega arith in rw e at (little-lt (drop p bytes) (bytes_drop bytes hb p) (8 * m))

  row_word : (p m : ℕ) → little (drop p bytes) (8 * suc m) ≡ little (drop (p + 8 * m) bytes) 8 * 2 ^ (64 * m) + little (drop p bytes) (8 * m)
  row_word p m =
      let e : 8 * suc m ≡ 8 * m + 8 = omega arith in
      let q : 8 * (8 * m) ≡ 64 * m = omega arith in
      ap (little (drop p bytes)) e ∙ little-append (drop p bytes) (8 * m) 8
      ∙ ap₂ (λ (x n : ℕ). x * 2 ^ n + little (drop p bytes) (8 * m)) (little-from bytes p (8 * m) 8) q

  sum_below : (m l : ℕ) → l < 2 ^ (64 * m) → (n : ℕ) → row_sum bytes at m n l < 2 ^ (64 * m)
  unfolding row_sum
  sum_below m l h zero = h
  sum_below m l h (suc n) = xor_lt (64 * m) (little (drop (get_or at n 0) bytes) (8 * m)) (row_sum bytes at m n l) (row_lt (get_or at n 0) m) (sum_below m l h n)

  -- one word more
  sum-block : (m v l : ℕ) → l < 2 ^ (64 * m) → (n : ℕ) → row_sum bytes at (suc m) n (v * 2 ^ (64 * m) + l) ≡ word_sum bytes at m n v * 2 ^ (64 * m) + row_sum bytes at m n l
  unfolding row_sum word_sum
  sum-block m v l h zero = refl
  sum-block m v l h (suc n) =
      let p : ℕ = get_or at n 0 in
      ap₂ bit_xor (row_word p m) (sum-block m v l h n)
      ∙ xor_block (64 * m) (little (drop (p + 8 * m) bytes) 8) (word_sum bytes at m n v) (little (drop p bytes) (8 * m)) (row_sum bytes at m n l) (row_lt p m) (sum_below m l h n)

  low_sum : (vs ws : List ℕ) → Words vs → (m : ℕ) → ((k : ℕ) → k < m → get_or ws k 0 ≡ word_sum bytes at k 8 (get_or vs k 0)) → low ws m ≡ row_sum bytes at m 8 (low vs m)
  unfolding low
  low_sum vs ws hv zero h = let l = sum_below 0 0 (omega arith) 8 in omega arith
  low_sum vs ws hv (suc m) h =
      ap₂ (λ (a b : ℕ). a * 2 ^ (64 * m) + b) (h m (omega arith)) (low_sum vs ws hv m (λ k l. h k (omega arith)))
      ∙ sym (sum-block m (get_or vs m 0) (low vs m) (low-lt vs hv m) 8)

-- words from n on that are those of a number below 2^(64n)
words-above : (vs ws : List ℕ) (n : ℕ) → n ≤ length vs → length ws ≡ length vs → ((k : ℕ) → n ≤ k → get_or ws k 0 ≡ get_or vs k 0) → register vs < 2 ^ (64 * n) → register ws ≡ low ws n
unfolding register
words-above vs ws n l es above hv =
    let e : length vs ≡ n + (length vs - n) = omega arith in
    let s : low vs (length vs) ≡ low vs n = register-short vs n l hv in
    let a : low ws (length vs) + low vs n ≡ low vs (length vs) + low ws n = rw e (low-above ws vs n above (length vs - n)) in
    rw es (omega arith)

-- one row more
pub sum-next : (bytes at : List ℕ) (i n w : ℕ) {x y : ℕ} → x ≡ little (drop (get_or at n 0 + 8 * i) bytes) 8 → y ≡ word_sum bytes at i n w → bit_xor x y ≡ word_sum bytes at i (n + 1) w
unfolding word_sum
sum-next bytes at i n w ex ey = rw (add-one n) (ap₂ bit_xor ex ey)

-- words that are added, the highest first

pub added_none : (bytes at : List ℕ) (to : ℕ) (vs : List ℕ) → Added bytes at to to vs vs
added_none bytes at to vs = record { changed = λ k a b. absurd (omega arith); lower = λ k h. refl; upper = λ k h. refl }

pub added_next : (bytes at : List ℕ) (left to : ℕ) (vs ws : List ℕ) {x : ℕ} → 0 < left → left ≤ to → left ≤ length ws → Added bytes at left to vs ws
    → x ≡ word_sum bytes at (left - 1) 8 (get_or ws (left - 1) 0) → Added bytes at (left - 1) to vs (set ws (left - 1) x)
added_next bytes at left to vs ws {x} some h l a e = record {
  changed = λ k m n. elim (dec_lt (left - 1) k) [
    | yes y ↦ get_or-set_other ws (left - 1) k x 0 (omega arith) ∙ a.changed k (omega arith) n
    | no y ↦ let q : k ≡ left - 1 = omega arith in rw q (get_or-set_same ws (left - 1) x 0 (omega arith) ∙ e ∙ ap (word_sum bytes at (left - 1) 8) (a.lower (left - 1) (omega arith)))
  ];
  lower = λ k m. get_or-set_other ws (left - 1) k x 0 (omega arith) ∙ a.lower k (omega arith);
  upper = λ k m. get_or-set_other ws (left - 1) k x 0 (omega arith) ∙ a.upper k m;
}

pub added_more : (bytes at : List ℕ) {from mid to : ℕ} {us vs ws : List ℕ} → from ≤ mid → mid ≤ to → Added bytes at mid to us vs → Added bytes at from mid vs ws → Added bytes at from to us ws
added_more bytes at {from} {mid} {to} l m a b = record {
  changed = λ k h n. elim (dec_lt k mid) [
    | yes y ↦ b.changed k h y ∙ ap (word_sum bytes at k 8) (a.lower k y)
    | no y ↦ b.upper k (omega arith) ∙ a.changed k (omega arith) n
  ];
  lower = λ k h. b.lower k h ∙ a.lower k (omega arith);
  upper = λ k h. b.upper k (omega arith) ∙ a.upper k h;
}

-- a step: the rows of the bytes of v, which is taken away, are added to n, which has the others and w

pub words-many : {u : ℕ} → RowWords u → (2 ≤ u) × (u ≤ 14)
words-many four = (omega arith, omega arith)
words-many ten = (omega arith, omega arith)
words-many fourteen = (omega arith, omega arith)

-- the words of a row have room for a partial remainder
row_room : {u : ℕ} → RowWords u → (suc u ≤ row_words u) × (row_words u ≤ 15)
unfolding row_words
row_room four = (omega arith, omega arith)
row_room ten = (omega arith, omega arith)
row_room fourteen = (omega arith, omega arith)

-- where a row is read

pub row-place : {n c s : ℕ} → n ≤ 15 → c < 256 → s ≡ row_bytes n → s * c ≤ 32640
unfolding row_bytes
row-place {n} {c} {s} h l e =
    let m : s ≤ 128 = omega arith in
    let k : c ≤ 255 = omega arith in
    mul-le-mul m k

pub place-most : {u : ℕ} → RowWords u → (v b : ℕ) {p : ℕ} → p ≡ row_bytes (row_words u) * (v / 2 ^ (8 * b) % 256) + 8 - b → p ≤ 32648
place-most {u} wide v b e =
    let c : ℕ = v / 2 ^ (8 * b) % 256 in
    let m : row_bytes (row_words u) * c ≤ 32640 = row-place (row_room wide).1 (omega arith) refl in
    omega arith

module _ (u : ℕ) (bytes at : List ℕ) (table : Rests u bytes) (hb : Bytes bytes) (v : ℕ) (place : (b : ℕ) → b < 8 → get_or at b 0 ≡ row_bytes (row_words u) * (v / 2 ^ (8 * b) % 256) + 8 - b) where
  row-reduced : (b : ℕ) → b < 8
      → reduced (64 * u) (divisor_of u bytes) (little (drop (get_or at b 0) bytes) (8 * suc u)) ≡ rest (64 * u) (divisor_of u bytes) (v / 2 ^ (8 * b) % 256 * 2 ^ 64 * 2 ^ (8 * b))
  unfolding row_number
  row-reduced b h =
      let g : ℕ = divisor_of u bytes in
      let c : ℕ = v / 2 ^ (8 * b) % 256 in
      let x : ℕ = times 8 (rest (64 * u) g (2 ^ 64)) c in
      let hu = words-many table.wide in
      let s = stands-row (64 * u) g (omega arith) table.monic c (omega arith) in
      let l : x * 2 ^ (8 * b) < 2 ^ (64 * suc u) = lt_of_lt_of_le (shl_lt (64 * u + 8) (8 * b) s.below) (pow_mono {i = 64 * u + 8 + 8 * b} {j = 64 * suc u} (omega arith)) in
      ap (λ p. reduced (64 * u) g (little (drop p bytes) (8 * suc u))) (place b h)
      ∙ ap (reduced (64 * u) g) (row_read (row_words u) bytes hb c x b (suc u) (table.rows c (omega arith)) (omega arith) (row_room table.wide).0 l) ∙ s.same (8 * b) (omega arith)

  sum-reduced : (n b : ℕ) → b ≤ 8
      → reduced (64 * u) (divisor_of u bytes) (row_sum bytes at (suc u) b n) ≡ bit_xor (rest (64 * u) (divisor_of u bytes) (v % 2 ^ (8 * b) * 2 ^ 64)) (reduced (64 * u) (divisor_of u bytes) n)
  unfolding row_sum
  sum-reduced n zero h =
      let g : ℕ = divisor_of u bytes in
      let e : v % 2 ^ (8 * 0) * 2 ^ 64 ≡ 0 = omega arith in
      sym (ap (λ y. bit_xor (rest (64 * u) g y) (reduced (64 * u) g n)) e ∙ ap (λ y. bit_xor y (reduced (64 * u) g n)) (rest-zero (64 * u) g) ∙ xor_zero_l (reduced (64 * u) g n))
  sum-reduced n (suc b) h =
      let g : ℕ = divisor_of u bytes in
      let R : ℕ → ℕ = rest (64 * u) g in
      let c : ℕ = v / 2 ^ (8 * b) % 256 in
      let a : ℕ = v % 2 ^ (8 * b) in
      let e : 8 * suc b ≡ 8 + 8 * b = omega arith in
      let p : c * 2 ^ 64 * 2 ^ (8 * b) ≡ c * 2 ^ (8 * b) * 2 ^ 64 = omega arith in
      let q : bit_xor (c * 2 ^ 64 * 2 ^ (8 * b)) (a * 2 ^ 64) ≡ v % 2 ^ (8 * suc b) * 2 ^ 64 =
      ap (λ y. bit_xor y (a * 2 ^ 64)) p ∙ xor-up 64 (c * 2 ^ (8 * b)) a
      ∙ ap (λ y. y * 2 ^ 64) (xor_shifted c (8 * b) a (mod-lt v (pow_pos (8 * b))) ∙ sym (ap (λ i. v % 2 ^ i) e ∙ mod-pow-add v 8 (8 * b))) in
      let row : ℕ = little (drop (get_or at b 0) bytes) (8 * suc u) in
      reduced-xor (64 * u) g row (row_sum bytes at (suc u) b n)
      ∙ ap₂ bit_xor (row-reduced b (omega arith)) (sum-reduced n b (omega arith))
      ∙ sym (xor_assoc (R (c * 2 ^ 64 * 2 ^ (8 * b))) (R (a * 2 ^ 64)) (reduced (64 * u) g n))
      ∙ ap (λ y. bit_xor y (reduced (64 * u) g n)) (sym (rest-xor (64 * u) g (c * 2 ^ 64 * 2 ^ (8 * b)) (a * 2 ^ 64)) ∙ ap R q)

  pub added-step : (vs ns rs : List ℕ) (w : ℕ) → register vs < 2 ^ (64 * u + 64) → w < 2 ^ 64 → v ≡ register vs / 2 ^ (64 * u)
      → register ns ≡ bit_xor (register vs % 2 ^ (64 * u) * 2 ^ 64) (w * 2 ^ (64 * u)) → Words ns → length ns ≡ 15 → length rs ≡ 15 → Added bytes at 0 (u + 1) ns rs
      → (register rs < 2 ^ (64 * u + 64)) × (reduced (64 * u) (divisor_of u bytes) (register rs) ≡ parity_from (64 * u) (divisor_of u bytes) (reduced (64 * u) (divisor_of u bytes) (register vs)) (digits w 64))
  added-step vs ns rs w hs hw ev en hn ln lr a =
      let g : ℕ = divisor_of u bytes in
      let hu = words-many table.wide in
      let e : 64 * u + 64 ≡ 64 * suc u = omega arith in
      let f : 64 * u + 64 ≡ 64 + 64 * u = omega arith in
      let s : suc u ≡ u + 1 = omega arith in
      let hv : v < 2 ^ 64 = rw ev (shr_lt 64 (64 * u) (rw (← f) hs)) in
      let ha : register vs % 2 ^ (64 * u) * 2 ^ 64 < 2 ^ (64 * u + 64) = shl_lt (64 * u) 64 (mod-lt (register vs) (pow_pos (64 * u))) in
      let hc : w * 2 ^ (64 * u) < 2 ^ (64 * u + 64) = rw f (shl_lt 64 (64 * u) hw) in
      let below : register ns < 2 ^ (64 * suc u) = rw (← e, en) (xor_lt (64 * u + 64) (register vs % 2 ^ (64 * u) * 2 ^ 64) (w * 2 ^ (64 * u)) ha hc) in
      let n : register ns ≡ low ns (suc u) = register-short ns (suc u) (omega arith) below in
      let r : register rs ≡ low rs (suc u) = words-above ns rs (suc u) (omega arith) (lr ∙ sym ln) (λ k h. a.upper k (omega arith)) below in
      let sum : register rs ≡ row_sum bytes at (suc u) 8 (register ns) =
      r ∙ low_sum bytes at hb ns rs hn (suc u) (λ k h. a.changed k (omega arith) (omega arith)) ∙ ap (row_sum bytes at (suc u) 8) (sym n) in
      let whole : v % 2 ^ (8 * 8) * 2 ^ 64 ≡ register vs / 2 ^ (64 * u) * 2 ^ 64 = ap (λ y. y * 2 ^ 64) (mod-eq_of_lt hv ∙ ev) in (
        rw (sum, e) (sum_below bytes at hb (suc u) (register ns) below 8),
        partial-step (64 * u) g (omega arith) table.monic (register vs) w hs hw en
            (ap (reduced (64 * u) g) sum ∙ sum-reduced (register ns) 8 (omega arith) ∙ ap (λ y. bit_xor (rest (64 * u) g y) (reduced (64 * u) g (register ns))) whole),
      )

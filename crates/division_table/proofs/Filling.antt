-- Laws of the table while it is made: the rows of the powers of 2, and sums of them.
use mathlib.Core.Path.{◌≡◌, refl, sym, ap, ap₂, ◌∙◌}
use mathlib.Core.List.{List}
use Prim.Native.Nat.{ℕ, zero, suc, ◌+◌, ◌-◌, ◌*◌, ◌/◌, ◌%◌, ◌^◌, ◌<◌, ◌≤◌}
use native.Mathlib.Omega.{arith}
use native.Mathlib.Decide.{ℕ_discrete, dec_lt}
use native.Mathlib.Nat.{pow-suc, add-zero, zero-add, zero-mul, one-mul, mul-one, mod-lt, mod-eq_of_lt, div-lt_iff_lt-mul, mul-le-mul_left, mul-le-mul_right, lt_of_lt_of_le, lt_of_le_of_lt}
use lib.ListN.{length, get_or, set, drop}
use lib.Seq.{get_or-drop}
use lib.Pow as Pow
use lib.Pow.{high, split, pow_pos, pow-add, pow_mono, shl_lt, shr-shr, shr_lt}
use lib.Bits.{bit_xor, xor_zero_l, xor_zero_r, xor_self, xor_comm, xor_shifted, xor_block}
use Rattle.bits.specs.Bits.{bit}
use Rattle.bits.proofs.Numbers.{bit-lt}
use Rattle.field.proofs.Xor.{xor-half, xor-swap, xor-double, scale-xor}
use Rattle.code.specs.Generator.{times}
use Rattle.code.specs.Register.{low, register}
use Rattle.remainder.specs.Parity.{rest}
use Rattle.remainder.proofs.Words.{Words, next_power, low-lt, low-next, low-store, register-short, register-zeros, top-store}
use Rattle.remainder.proofs.Parity.{xor-up, rest-xor, rest-zero, rest-one, rest_below, rest-double}
use Rattle.wide.specs.Bytes.{little}
use Rattle.wide.proofs.Bytes.{Bytes, little-lt, little-mod, little-next, bytes_drop}
use Rattle.table_rows.specs.Rows.{row_bytes, Row, OnlyRows}
use Rattle.table_rows.proofs.Rows.{row-size, row-lower, row-upper, rows_both}
use Rattle.partial.specs.Partial.{reduced}
use Rattle.partial.specs.Clearing.{row_words, multiple_of, Clearing}
use Rattle.partial.proofs.Partial.{rest-moved}
use Rattle.division_table.specs.Table.{RowWords, four, ten, fourteen, row_number, Filled}
use Rattle.division_table.specs.Sums.{Sums, Powers, All}

-- the widths of rows

pub wide-two : {u : ℕ} → RowWords u → 2 ≤ u
wide-two four = omega arith
wide-two ten = omega arith
wide-two fourteen = omega arith

pub wide-some : {u : ℕ} → RowWords u → 0 < u
wide-some w = let h = wide-two w in omega arith

pub wide-most : {u : ℕ} → RowWords u → u ≤ 14
wide-most four = omega arith
wide-most ten = omega arith
wide-most fourteen = omega arith

pub wide-last : {u : ℕ} → RowWords u → (u ≡ 4 → ⊥) → (u ≡ 10 → ⊥) → u ≡ 14
wide-last four a b = absurd (a refl)
wide-last ten a b = absurd (b refl)
wide-last fourteen a b = refl

pub wide-degree : {u : ℕ} → RowWords u → 128 ≤ 64 * u
wide-degree w = let h = wide-two w in omega arith

-- a divisor of degree 64 u, given without its highest coefficient

pub divisor-monic : (u g : ℕ) → g < 2 ^ (64 * u) → (2 ^ (64 * u) + g) / 2 ^ (64 * u) ≡ 1
divisor-monic u g h = ap (λ x. (x + g) / 2 ^ (64 * u)) (sym (one-mul (2 ^ (64 * u)))) ∙ high 1 (64 * u) h

pub divisor-rest : (u g : ℕ) → g < 2 ^ (64 * u) → (2 ^ (64 * u) + g) % 2 ^ (64 * u) ≡ g
divisor-rest u g h = ap (λ x. (x + g) % 2 ^ (64 * u)) (sym (one-mul (2 ^ (64 * u)))) ∙ Pow.low 1 (64 * u) h

-- one more row

pub all-next : (n : ℕ) {X : ℕ → ℕ} {before after : List ℕ} (first m : ℕ) {to : ℕ} → All n m X first before → to ≡ first + m → OnlyRows n to 1 before after → Row n after to (X m)
    → All n (m + 1) X first after
all-next n {X} {before} {after} first m {to} all et only row = record {
  row = λ v h. elim (ℕ_discrete v m) [
    | yes e ↦ rw (e, ← et) row
    | no e ↦ row-lower n to 1 only (first + v) (X v) (omega arith) (all.row v (omega arith))
  ];
}

power-rise : (j i : ℕ) → j < i → 2 ^ j < 2 ^ i
power-rise j i h =
    let m : 2 ^ suc j ≤ 2 ^ i = pow_mono h in
    let p = pow-suc 2 j in
    let z = pow_pos j in
    omega arith

pub powers-next : (n : ℕ) {X : ℕ → ℕ} {before after : List ℕ} (first i : ℕ) {to : ℕ} → Powers n i X first before → to ≡ first + 2 ^ i → OnlyRows n to 1 before after
    → Row n after to (X (2 ^ i)) → Powers n (i + 1) X first after
powers-next n {X} {before} {after} first i {to} powers et only row = record {
  none = (let z = pow_pos i in row-lower n to 1 only first (X 0) (omega arith) powers.none);
  power = λ j h. elim (ℕ_discrete j i) [
    | yes e ↦ rw (e, ← et) row
    | no e ↦ (let z = power-rise j i (omega arith) in row-lower n to 1 only (first + 2 ^ j) (X (2 ^ j)) (omega arith) (powers.power j (omega arith)))
  ];
}

-- the rows of a table of which others are changed

pub powers-lower : (n bits from count : ℕ) {X : ℕ → ℕ} {first : ℕ} {before after : List ℕ} → Powers n bits X first before → OnlyRows n from count before after → first + 2 ^ bits ≤ from
    → Powers n bits X first after
powers-lower n bits from count {X} {first} powers only h = record {
  none = (let z = pow_pos bits in row-lower n from count only first (X 0) (omega arith) powers.none);
  power = λ j l. (let z = power-rise j bits l in row-lower n from count only (first + 2 ^ j) (X (2 ^ j)) (omega arith) (powers.power j l));
}

powers-upper : (n bits from count : ℕ) {X : ℕ → ℕ} {first : ℕ} {before after : List ℕ} → Powers n bits X first before → OnlyRows n from count before after → from + count ≤ first
    → Powers n bits X first after
powers-upper n bits from count {X} {first} powers only h = record {
  none = row-upper n from count only first (X 0) h powers.none;
  power = λ j l. row-upper n from count only (first + 2 ^ j) (X (2 ^ j)) (omega arith) (powers.power j l);
}

all-lower : (n m from count : ℕ) {X : ℕ → ℕ} {first : ℕ} {before after : List ℕ} → All n m X first before → OnlyRows n from count before after → first + m ≤ from → All n m X first after
all-lower n m from count {X} {first} all only h = record { row = λ v l. row-lower n from count only (first + v) (X v) (omega arith) (all.row v l) }

-- the sums of row 2^i with the rows before it

pub power_small : (i : ℕ) {p : ℕ} → i ≤ 8 → p ≡ 2 ^ i → (0 < p) × (p ≤ 256)
power_small i h e =
    let m : 2 ^ i ≤ 2 ^ 8 = pow_mono {i = i} {j = 8} h in
    let z = pow_pos i in
    (omega arith, omega arith)

pub power-twice : (i : ℕ) → 2 ^ (i + 1) ≡ 2 ^ i + 2 ^ i
power-twice i = let p = pow-add 2 i 1 in omega arith

pub sum-next : (n : ℕ) {X : ℕ → ℕ} {before after : List ℕ} (first i v : ℕ) {size : ℕ} → Sums (i + 1) X → size ≡ 2 ^ i → v < size → All n (size + v) X first before
    → ((x y : ℕ) → Row n before (first + size) x → Row n before (first + v) y → Row n after (first + size + v) (bit_xor x y)) → OnlyRows n (first + size + v) 1 before after
    → 0 < v → All n (size + (v + 1)) X first after
sum-next n {X} {before} {after} first i v {size} sums es h all made only some =
    let r : Row n after (first + size + v) (bit_xor (X size) (X v)) = made (X size) (X v) (all.row size (omega arith)) (all.row v (omega arith)) in
    let e : X (size + v) ≡ bit_xor (X size) (X v) = rw es (sums.sum i v (omega arith) (rw es at h)) in
    let a : first + size + v ≡ first + (size + v) = omega arith in
    let m : size + v + 1 ≡ size + (v + 1) = omega arith in
    rw m at (all-next n first (size + v) all a only (rw e r))

-- after them, the rows of larger powers of 2 are still there
pub powers-sums : (n bits first i : ℕ) {X : ℕ → ℕ} {before after : List ℕ} → Powers n bits X first before → OnlyRows n (first + 2 ^ i + 1) (2 ^ i - 1) before after
    → Powers n bits X first after
powers-sums n bits first i {X} powers only =
    let z = pow_pos i in
    record {
      none = row-lower n (first + 2 ^ i + 1) (2 ^ i - 1) only first (X 0) (omega arith) powers.none;
      power = λ j l. elim (dec_lt i j) [
        | yes h ↦
            let p = power-twice i in
            let m : 2 ^ (i + 1) ≤ 2 ^ j = pow_mono (omega arith) in
            row-upper n (first + 2 ^ i + 1) (2 ^ i - 1) only (first + 2 ^ j) (X (2 ^ j)) (omega arith) (powers.power j l)
        | no h ↦
            let m : 2 ^ j ≤ 2 ^ i = pow_mono (omega arith) in
            row-lower n (first + 2 ^ i + 1) (2 ^ i - 1) only (first + 2 ^ j) (X (2 ^ j)) (omega arith) (powers.power j l)
      ];
    }

pub sums-less : (k bits : ℕ) {X : ℕ → ℕ} → Sums bits X → k ≤ bits → Sums k X
sums-less k bits sums h = record { sum = λ i v l m. sums.sum i v (omega arith) m }

pub all_first : (n bits first : ℕ) {X : ℕ → ℕ} {bytes : List ℕ} → 0 < bits → Powers n bits X first bytes → All n (2 ^ 1) X first bytes
all_first n bits first {X} {bytes} some powers = record { row = two }
  where
    two : (v : ℕ) → v < 2 → Row n bytes (first + v) (X v)
    two zero h = rw (add-zero first) powers.none
    two (suc zero) h = powers.power 0 some
    two (suc (suc v)) h = absurd (omega arith)

-- a number below a power of 2 beside that power
power-sum : (i v : ℕ) → v < 2 ^ i → 2 ^ i + v ≡ bit_xor (2 ^ i) v
power-sum i v h = sym (ap (λ x. bit_xor x v) (sym (one-mul (2 ^ i))) ∙ xor_shifted 1 i v h ∙ ap (λ x. x + v) (one-mul (2 ^ i)))

pub sums-up : (bits k : ℕ) {X : ℕ → ℕ} → Sums bits X → Sums bits (λ v. X v * 2 ^ k)
sums-up bits k {X} sums = record { sum = λ i v l m. ap (λ x. x * 2 ^ k) (sums.sum i v l m) ∙ sym (xor-up k (X (2 ^ i)) (X v)) }

-- products without carries

module _ (x : ℕ) where
  times-xor : (k y z : ℕ) → times k x (bit_xor y z) ≡ bit_xor (times k x y) (times k x z)
  unfolding times
  times-xor zero y z = refl
  times-xor (suc k) y z =
      ap₂ bit_xor (scale-xor y z x) (ap (λ n. times k x n * 2) (xor-half y z) ∙ ap (λ n. n * 2) (times-xor k (y / 2) (z / 2)) ∙ xor-double (times k x (y / 2)) (times k x (z / 2)))
      ∙ xor-swap (y % 2 * x) (z % 2 * x) (times k x (y / 2) * 2) (times k x (z / 2) * 2)

  pub times_zero : (k : ℕ) → times k x 0 ≡ 0
  unfolding times
  times_zero zero = refl
  times_zero (suc k) = rw (zero-mul x) (ap (λ n. bit_xor 0 (n * 2)) (times_zero k))

  pub times_power : (k i : ℕ) → i < k → times k x (2 ^ i) ≡ x * 2 ^ i
  unfolding times
  times_power zero i h = absurd (omega arith)
  times_power (suc k) zero h = rw (one-mul x) (ap (λ n. bit_xor x (n * 2)) (times_zero k) ∙ xor_zero_r x ∙ sym (mul-one x))
  times_power (suc k) (suc i) h =
      let p = pow-suc 2 i in
      let a : 2 ^ suc i % 2 ≡ 0 = omega arith in
      let b : 2 ^ suc i / 2 ≡ 2 ^ i = omega arith in
      ap₂ (λ c n. bit_xor (c * x) (times k x n * 2)) a b ∙ rw (zero-mul x) (xor_zero_l (times k x (2 ^ i) * 2) ∙ ap (λ n. n * 2) (times_power k i (omega arith)) ∙ rw p (omega arith))

  pub times-sums : (k : ℕ) → Sums k (times k x)
  times-sums k = record { sum = λ i v l m. ap (times k x) (power-sum i v m) ∙ times-xor k (2 ^ i) v }

  pub times-next : (k i : ℕ) → 0 < i → i < k → bit_xor (times k x (2 ^ (i - 1)) * 2 ^ 1) 0 ≡ times k x (2 ^ i)
  times-next k i some h =
      let e : i ≡ suc (i - 1) = omega arith in
      let p : 2 ^ i ≡ 2 ^ (i - 1) * 2 = ap (λ n. 2 ^ n) e ∙ pow-suc 2 (i - 1) in
      xor_zero_r (times k x (2 ^ (i - 1)) * 2 ^ 1) ∙ ap (λ n. n * 2) (times_power k (i - 1) (omega arith)) ∙ sym (times_power k i h ∙ rw p (omega arith))

-- the multiples of the divisor that clear digits

module _ (d g : ℕ) (wide : 128 ≤ d) (monic : g / 2 ^ d ≡ 1) where
  short : (c : ℕ) → c < 2 ^ 64 → c < 2 ^ d
  short c h = let m : 2 ^ 64 ≤ 2 ^ d = pow_mono {i = 64} {j = d} (omega arith) in omega arith

  pub multiple-one : multiple_of d g 1 ≡ g
  unfolding multiple_of
  multiple-one = ap₂ (λ x y. x * 2 ^ d + y) (sym monic) (rest-one d g (omega arith) monic) ∙ split g d

  pub multiple-zero : multiple_of d g 0 ≡ 0
  unfolding multiple_of
  multiple-zero = rw (zero-mul (2 ^ d)) (zero-add (rest d g 0) ∙ rest-zero d g)

  pub multiple-below : (c : ℕ) → c < 16 → multiple_of d g c < 2 ^ (d + 4)
  unfolding multiple_of
  multiple-below c h =
      let p = pow-add 2 d 4 in
      let l : rest d g c < 2 ^ d = rest_below d g (omega arith) monic c (short c (omega arith)) in
      let m : c * 2 ^ d ≤ 15 * 2 ^ d = mul-le-mul_right (2 ^ d) (omega arith) in
      omega arith

  pub multiple-sums : Sums 4 (multiple_of d g)
  unfolding multiple_of
  multiple-sums = record {
    sum = λ i v l m.
        let p : 2 ^ i ≤ 2 ^ 4 = pow_mono {i = i} {j = 4} (omega arith) in
        let a : rest d g (2 ^ i) < 2 ^ d = rest_below d g (omega arith) monic (2 ^ i) (short (2 ^ i) (omega arith)) in
        let b : rest d g v < 2 ^ d = rest_below d g (omega arith) monic v (short v (omega arith)) in
        ap (λ c. c * 2 ^ d + rest d g c) (power-sum i v m) ∙ ap (λ x. bit_xor (2 ^ i) v * 2 ^ d + x) (rest-xor d g (2 ^ i) v)
        ∙ sym (xor_block d (2 ^ i) v (rest d g (2 ^ i)) (rest d g v) a b);
  }

  -- Twice such a multiple: c digits from d on, and `one` more that gets there.
  pub multiple-double : (c : ℕ) → c < 2 ^ 63 → {one : ℕ} → one ≡ bit (rest d g c) (d - 1) → bit_xor (multiple_of d g c * 2 ^ 1) (multiple_of d g one) ≡ multiple_of d g (c * 2)
  unfolding multiple_of bit
  multiple-double c h {one} eo =
      let R : ℕ = rest d g c in
      let x : ℕ = R * 2 % 2 ^ d in
      let ho : one < 2 = rw eo (bit-lt R (d - 1)) in
      let h_r : R < 2 ^ d = rest_below d g (omega arith) monic c (short c (omega arith)) in
      let e : d ≡ 1 + (d - 1) = omega arith in
      let half : R * 2 / 2 ≡ R = omega arith in
      let l : R * 2 / 2 ^ d < 2 = (div-lt_iff_lt-mul (pow_pos d)).1 (omega arith) in
      let q : R * 2 / 2 ^ d ≡ R / 2 ^ (d - 1) = ap (λ n. R * 2 / 2 ^ n) e ∙ sym (shr-shr (R * 2) 1 (d - 1)) ∙ ap (λ y. y / 2 ^ (d - 1)) half in
      let a : R * 2 / 2 ^ d ≡ one = omega arith in
      let b : R * 2 ≡ one * 2 ^ d + x = sym (split (R * 2) d) ∙ ap (λ y. y * 2 ^ d + x) a in
      let s : (c * 2 ^ d + R) * 2 ^ 1 ≡ (c * 2 + one) * 2 ^ d + x = omega arith in
      let z : bit_xor (c * 2 + one) one ≡ c * 2 =
      ap (bit_xor (c * 2 + one)) (sym (zero-add one) ∙ ap (λ y. y + one) (sym (zero-mul 2))) ∙ xor_block 1 c 0 one one ho ho ∙ rw (xor_self one, xor_zero_r c) (add-zero (c * 2)) in
      let hx : x < 2 ^ d = mod-lt (R * 2) (pow_pos d) in
      let r : bit_xor x (rest d g one) ≡ rest d g (c * 2) =
      xor_comm x (rest d g one) ∙ sym (rest-double d g (omega arith) monic c (short (c * 2) (omega arith)) eo refl) in
      ap (λ y. bit_xor y (one * 2 ^ d + rest d g one)) s ∙ xor_block d (c * 2 + one) one x (rest d g one) hx (rest_below d g (omega arith) monic one (short one (omega arith)))
      ∙ ap₂ (λ y w. y * 2 ^ d + w) z r

  -- the row of one digit
  digit-row : (n : ℕ) (bytes : List ℕ) (one : ℕ) → one < 2 → Powers n 1 (multiple_of d g) 256 bytes → Row n bytes (256 + one) (multiple_of d g one)
  digit-row n bytes zero h powers = powers.none
  digit-row n bytes (suc zero) h powers = powers.power 0 (omega arith)
  digit-row n bytes (suc (suc one)) h powers = absurd (omega arith)

-- a byte of a number in bytes
little_byte : (bs : List ℕ) → Bytes bs → (n j : ℕ) → little bs (n + 1 + j) % 2 ^ (8 * (n + 1)) / 2 ^ (8 * n) ≡ get_or bs n 0
little_byte bs h n j =
    ap (λ x. x / 2 ^ (8 * n)) (little-mod bs h (n + 1) j ∙ little-next bs n) ∙ high (get_or bs n 0) (8 * n) (little-lt bs h n)

-- the digit below the degree 64 u of a multiple of the divisor in row v: the highest digit of a byte
row-digit : (n u g c v : ℕ) (bytes : List ℕ) → Bytes bytes → 2 ≤ u → u < n → g / 2 ^ (64 * u) ≡ 1 → c < 16 → Row n bytes v (multiple_of (64 * u) g c)
    → get_or bytes (row_bytes n * v + 8 * u + 7) 0 / 128 ≡ bit (rest (64 * u) g c) (64 * u - 1)
unfolding multiple_of bit
row-digit n u g c v bytes fit some most monic hc row =
    let d : ℕ = 64 * u in
    let k : ℕ = 8 * u - 1 in
    let at : ℕ = row_bytes n * v in
    let bs : List ℕ = drop (at + 8) bytes in
    let R : ℕ = rest d g c in
    let s : 2 ^ 64 ≤ 2 ^ d = pow_mono {i = 64} {j = d} (omega arith) in
    let h_r : R < 2 ^ d = rest_below d g (omega arith) monic c (omega arith) in
    let a : at + 8 * u + 7 ≡ at + 8 + k = omega arith in
    let e : k + 1 + (8 * n - (k + 1)) ≡ 8 * n = omega arith in
    let f : 8 * (k + 1) ≡ d = omega arith in
    let w : 8 * k + 7 ≡ d - 1 = omega arith in
    let m : (c * 2 ^ d + R) % 2 ^ d ≡ R = Pow.low c d h_r in
    let q : little bs (8 * n) % 2 ^ d / 2 ^ (8 * k) ≡ get_or bs k 0 = rw (e, f) at (little_byte bs (bytes_drop bytes fit (at + 8)) k (8 * n - (k + 1))) in
    let b : get_or bytes (at + 8 * u + 7) 0 ≡ R / 2 ^ (8 * k) =
    ap (λ i. get_or bytes i 0) a ∙ sym (get_or-drop (at + 8) bytes k 0) ∙ sym q ∙ ap (λ y. y % 2 ^ d / 2 ^ (8 * k)) row.number ∙ ap (λ y. y / 2 ^ (8 * k)) m in
    let t : R / 2 ^ (8 * k) / 2 ^ 7 ≡ R / 2 ^ (d - 1) = shr-shr R (8 * k) 7 ∙ ap (λ i. R / 2 ^ i) w in
    let z : d ≡ 1 + (d - 1) = omega arith in
    let l : R / 2 ^ (d - 1) < 2 ^ 1 = shr_lt 1 (d - 1) (rw (← z) h_r) in
    ap (λ y. y / 128) b ∙ t ∙ sym (mod-eq_of_lt l)

-- words that are copied, and those above them zero

pub copied_next : (ws row : List ℕ) (i : ℕ) → i < length ws → low ws i ≡ low row i → low (set ws i (get_or row i 0)) (i + 1) ≡ low row (i + 1)
copied_next ws row i h e = low-store ws i (get_or row i 0) h ∙ ap (λ x. get_or row i 0 * 2 ^ (64 * i) + x) e ∙ sym (low-next row i)

pub copied-end : (ws row : List ℕ) → Words row → (u : ℕ) {i : ℕ} → i ≡ u → u < length ws → low ws i ≡ low row i → ((k : ℕ) → i ≤ k → get_or ws k 0 ≡ 0)
    → register (set ws u 1) ≡ 2 ^ (64 * u) + low row u
copied-end ws row fit u {i} ei h e z =
    let r : register ws ≡ low row u = register-zeros ws u (omega arith) (λ k l. z k (omega arith)) ∙ (rw ei at e) in
    top-store ws u 1 h (rw r (low-lt row fit u)) ∙ ap₂ ◌+◌ (one-mul (2 ^ (64 * u))) r

-- the same one word higher

pub higher-next : (ws row : List ℕ) (i : ℕ) → i + 1 < length ws → low ws (i + 1) ≡ low row i * 2 ^ 64 → low (set ws (i + 1) (get_or row i 0)) (i + 1 + 1) ≡ low row (i + 1) * 2 ^ 64
higher-next ws row i h e =
    let p = next_power i in
    low-store ws (i + 1) (get_or row i 0) h ∙ rw (e, low-next row i, p) (omega arith)

pub higher-end : (ws row : List ℕ) (u : ℕ) {i : ℕ} → i ≡ u → u < length ws → low ws (i + 1) ≡ low row i * 2 ^ 64 → ((k : ℕ) → i + 1 ≤ k → get_or ws k 0 ≡ 0)
    → register ws ≡ low row u * 2 ^ 64
higher-end ws row u {i} ei h e z = register-zeros ws (u + 1) (omega arith) (λ k l. z k (omega arith)) ∙ (rw ei at e)

-- Arithmetic of the loops. What is known there speaks of rows far into the table, which `omega` takes long to read.

pub less-eight : {i : ℕ} → i < 4 → i ≤ 8
less-eight h = omega arith

pub less-eight-before : {i : ℕ} → i < 4 → i - 1 ≤ 8
less-eight-before h = omega arith

pub turn-fits : {i : ℕ} → i < 4 → i + 1 < 18446744073709551616
turn-fits h = omega arith

pub turn-less : {i : ℕ} → i < 4 → 4 - (i + 1) < 4 - i
turn-less h = omega arith

pub turn-some : (i : ℕ) → 0 < i + 1
turn-some i = omega arith

pub turn-most : {i : ℕ} → i < 4 → i + 1 ≤ 4
turn-most h = omega arith

pub none-most : 0 ≤ 4
none-most = omega arith

pub no_less : {i : ℕ} → i < 0 → ⊥
no_less h = omega arith

pub one-some : 0 < 1
one-some = omega arith

pub one-most : 1 ≤ 4
one-most = omega arith

pub even-most : 256 ≤ 272
even-most = omega arith

pub odd-most : 272 ≤ 272
odd-most = omega arith

pub odd-after : 256 + 2 ^ 4 ≤ 272
odd-after = omega arith

pub turn_last : {i : ℕ} → i ≤ 4 → 4 ≤ i → i ≡ 4
turn_last a b = omega arith

pub size-kept : {m n : ℕ} → m ≡ n → 36864 ≤ n → 36864 ≤ m
size-kept e h = omega arith

pub even-last : 256 ≤ 256
even-last = omega arith

pub row_room : (n : ℕ) {v size : ℕ} → n ≤ 15 → v < 288 → 36864 ≤ size → row_bytes n * (v + 1) ≤ size
row_room n {v} hn hv hs =
    let e = row-size n in
    let m : row_bytes n * (v + 1) ≤ 128 * (v + 1) = mul-le-mul_right (v + 1) (omega arith) in
    omega arith

pub first-room : (n : ℕ) {size : ℕ} → n ≤ 15 → 36864 ≤ size → row_bytes n * (0 + 1) ≤ size
first-room n hn hs = row_room n {v = 0} hn (omega arith) hs

pub one-room : (n : ℕ) {size : ℕ} → n ≤ 15 → 36864 ≤ size → row_bytes n * (1 + 1) ≤ size
one-room n hn hs = row_room n {v = 1} hn (omega arith) hs

pub even-room : (n : ℕ) {size : ℕ} → n ≤ 15 → 36864 ≤ size → row_bytes n * (256 + 1) ≤ size
even-room n hn hs = row_room n {v = 256} hn (omega arith) hs

pub divisor-room : (n : ℕ) {size : ℕ} → n ≤ 15 → 36864 ≤ size → row_bytes n * (257 + 1) ≤ size
divisor-room n hn hs = row_room n {v = 257} hn (omega arith) hs

pub odd-room : (n : ℕ) {size : ℕ} → n ≤ 15 → 36864 ≤ size → row_bytes n * (272 + 1) ≤ size
odd-room n hn hs = row_room n {v = 272} hn (omega arith) hs

pub power-fits : (a i : ℕ) {p : ℕ} → a ≤ 272 → i ≤ 8 → p ≡ 2 ^ i → a + p < 18446744073709551616
power-fits a i ha h e = let b = power_small i h e in omega arith

-- rows 256 + 2^i and 272 + 2^i
pub odd-turn : (n i : ℕ) {p q size : ℕ} → n ≤ 15 → i < 4 → p ≡ 2 ^ i → q ≡ 2 ^ i → 36864 ≤ size
    → (n ≤ 15) × (256 + p < 272 + q) × (0 < 272 + q) × (row_bytes n * (272 + q + 1) ≤ size) × (0 < 4) × (4 < 8)
odd-turn n i hn h ep eq hs =
    let m : 2 ^ i ≤ 2 ^ 3 = pow_mono {i = i} {j = 3} (omega arith) in
    (hn, omega arith, omega arith, row_room n hn (omega arith) hs, omega arith, omega arith)

-- rows 256 + 2^(i - 1), 256 + one and 256 + 2^i
pub even-turn : (n i : ℕ) {p q size one : ℕ} → n ≤ 15 → 0 < i → i < 4 → p ≡ 2 ^ (i - 1) → q ≡ 2 ^ i → one < 2 → 36864 ≤ size
    → (n ≤ 15) × (256 + p < 256 + q) × (256 + one < 256 + q) × (row_bytes n * (256 + q + 1) ≤ size) × (0 < 1) × (1 < 8)
even-turn n i hn some h ep eq ho hs =
    let m : 2 ^ i ≤ 2 ^ 3 = pow_mono {i = i} {j = 3} (omega arith) in
    let l : 2 ^ 1 ≤ 2 ^ i = pow_mono {i = 1} {j = i} (omega arith) in
    let r = power-rise (i - 1) i (omega arith) in
    (hn, omega arith, omega arith, row_room n hn (omega arith) hs, omega arith, omega arith)

-- the byte of row 256 + 2^(i - 1) that has the digit below the degree; `size` is the size of a row
pub record Place (size p u : ℕ) : Type 0 where
  pub row : size * (256 + p) < 18446744073709551616
  pub word : 8 * u < 18446744073709551616
  pub sum : size * (256 + p) + 8 * u < 18446744073709551616
  pub last : size * (256 + p) + 8 * u + 7 < 18446744073709551616
  pub inside : size * (256 + p) + 8 * u + 7 < 36864

pub digit-place : (n i u : ℕ) {p size : ℕ} → n ≤ 15 → size ≡ row_bytes n → i < 4 → p ≡ 2 ^ (i - 1) → u ≤ 14 → Place size p u
digit-place n i u {p} {size} hn es h e l =
    let m : 2 ^ (i - 1) ≤ 2 ^ 3 = pow_mono {i = i - 1} {j = 3} (omega arith) in
    let s = row-size n in
    let b : size * (256 + p) ≤ 128 * (256 + p) = mul-le-mul_right (256 + p) (omega arith) in
    record { row = omega arith; word = omega arith; sum = omega arith; last = omega arith; inside = omega arith }

pub place_inside : {k n : ℕ} → k < 36864 → 36864 ≤ n → k < n
place_inside a b = omega arith

pub digit-fits : {x : ℕ} → x < 256 → x / 128 < 18446744073709551616
digit-fits h = omega arith

pub digit-small : {x : ℕ} → x < 256 → x / 128 < 2
digit-small h = omega arith

pub digit-sum-fits : {x : ℕ} → x < 256 → 256 + x / 128 < 18446744073709551616
digit-sum-fits h = omega arith

-- One more row from row 256 on: twice the one before, plus the divisor where a digit gets there.
pub even-next : (n u : ℕ) → 2 ≤ u → u < n → (g i : ℕ) {before after : List ℕ} {p q size : ℕ} → size ≡ row_bytes n → g / 2 ^ (64 * u) ≡ 1 → 0 < i → i < 4 → Bytes before
    → p ≡ 2 ^ (i - 1) → q ≡ 2 ^ i
    → ((x y : ℕ) → Row n before (256 + p) x → Row n before (256 + get_or before (size * (256 + p) + 8 * u + 7) 0 / 128) y → x * 2 ^ 1 < 2 ^ (64 * n)
    → Row n after (256 + q) (bit_xor (x * 2 ^ 1) y))
    → OnlyRows n (256 + q) 1 before after → Powers n i (multiple_of (64 * u) g) 256 before → Powers n (i + 1) (multiple_of (64 * u) g) 256 after
even-next n u two most g i {before} {after} {p} {q} {size} es monic some h fit ep eq made only powers =
    let d : ℕ = 64 * u in
    let c : ℕ = 2 ^ (i - 1) in
    let one : ℕ = get_or before (size * (256 + p) + 8 * u + 7) 0 / 128 in
    let m : 2 ^ (i - 1) ≤ 2 ^ 3 = pow_mono {i = i - 1} {j = 3} (omega arith) in
    let w : 128 ≤ d = omega arith in
    let from : Row n before (256 + p) (multiple_of d g c) = rw ep (powers.power (i - 1) (omega arith)) in
    let eo : one ≡ bit (rest d g c) (d - 1) = rw es (row-digit n u g c (256 + p) before fit two most monic (omega arith) from) in
    let ho : one < 2 = rw eo (bit-lt (rest d g c) (d - 1)) in
    let first : Powers n 1 (multiple_of d g) 256 before = record { none = powers.none; power = λ j l. powers.power j (omega arith) } in
    let plus : Row n before (256 + one) (multiple_of d g one) = digit-row d g w monic n before one ho first in
    let b = multiple-below d g w monic c (omega arith) in
    let k : multiple_of d g c * 2 ^ 1 < 2 ^ (d + 4 + 1) = shl_lt (d + 4) 1 b in
    let l : 2 ^ (d + 4 + 1) ≤ 2 ^ (64 * n) = pow_mono {i = d + 4 + 1} {j = 64 * n} (omega arith) in
    let r : Row n after (256 + q) (bit_xor (multiple_of d g c * 2 ^ 1) (multiple_of d g one)) = made _ _ from plus (lt_of_lt_of_le k l) in
    let e : i ≡ suc (i - 1) = omega arith in
    let t : c * 2 ≡ 2 ^ i = sym (ap (λ n. 2 ^ n) e ∙ pow-suc 2 (i - 1)) in
    let s : bit_xor (multiple_of d g c * 2 ^ 1) (multiple_of d g one) ≡ multiple_of d g (2 ^ i) = multiple-double d g w monic c (omega arith) eo ∙ ap (multiple_of d g) t in
    powers-next n 256 i powers (ap (λ n. 256 + n) eq) only (rw s at r)

-- One more row from row 272 on.
odd-next : (n : ℕ) {X : ℕ → ℕ} (i : ℕ) {before after : List ℕ} {p q : ℕ} → i < 4 → p ≡ 2 ^ i → q ≡ 2 ^ i
    → ((x y : ℕ) → Row n before (256 + p) x → Row n before 0 y → x * 2 ^ 4 < 2 ^ (64 * n) → Row n after (272 + q) (bit_xor (x * 2 ^ 4) y))
    → OnlyRows n (272 + q) 1 before after → Row n before 0 0 → X (2 ^ i) * 2 ^ 4 < 2 ^ (64 * n) → Powers n 4 X 256 before → Powers n i (λ v. X v * 2 ^ 4) 272 before
    → Powers n (i + 1) (λ v. X v * 2 ^ 4) 272 after
odd-next n {X} i {before} {after} {p} {q} h ep eq made only zero_row small evens powers =
    let from : Row n before (256 + p) (X (2 ^ i)) = rw ep (evens.power i h) in
    let r : Row n after (272 + q) (bit_xor (X (2 ^ i) * 2 ^ 4) 0) = made _ _ from zero_row small in
    powers-next n 272 i powers (ap (λ n. 272 + n) eq) only (rw (xor_zero_r (X (2 ^ i) * 2 ^ 4)) at r)

-- One more row from row 0 on.
pub byte_next : (n x i : ℕ) {before after : List ℕ} {p q : ℕ} → x * 2 ^ 8 < 2 ^ (64 * n) → 0 < i → i < 8 → p ≡ 2 ^ (i - 1) → q ≡ 2 ^ i
    → ((x y : ℕ) → Row n before p x → Row n before 0 y → x * 2 ^ 1 < 2 ^ (64 * n) → Row n after q (bit_xor (x * 2 ^ 1) y))
    → OnlyRows n q 1 before after → Powers n i (times 8 x) 0 before → Powers n (i + 1) (times 8 x) 0 after
byte_next n x i {before} {after} {p} {q} small some h ep eq made only powers =
    let from : Row n before p (times 8 x (2 ^ (i - 1))) = rw ep (rw (zero-add (2 ^ (i - 1))) at (powers.power (i - 1) (omega arith))) in
    let zero_row : Row n before 0 0 = rw (times_zero x 8) at powers.none in
    let e : i ≡ suc (i - 1) = omega arith in
    let t : 2 ^ (i - 1) * 2 ≡ 2 ^ i = sym (ap (λ n. 2 ^ n) e ∙ pow-suc 2 (i - 1)) in
    let m : 2 ^ i ≤ 2 ^ 8 = pow_mono {i = i} {j = 8} (omega arith) in
    let l : x * 2 ^ i ≤ x * 2 ^ 8 = mul-le-mul_left x m in
    let b : times 8 x (2 ^ (i - 1)) * 2 ^ 1 ≡ x * 2 ^ i = ap (λ n. n * 2) (times_power x 8 (i - 1) (omega arith)) ∙ rw (← t) (omega arith) in
    let r : Row n after q (bit_xor (times 8 x (2 ^ (i - 1)) * 2 ^ 1) 0) = made _ _ from zero_row (rw b (lt_of_le_of_lt l small)) in
    powers-next n 0 i powers (eq ∙ sym (zero-add (2 ^ i))) only (rw (times-next x 8 i some h) at r)

-- The rows while the loops run, and after them. Their first rows are named, so that nothing here speaks of rows far into the table.

pub one_more : (n first count q : ℕ) {start before after : List ℕ} → q < count → OnlyRows n first count start before → OnlyRows n (first + q) 1 before after
    → OnlyRows n first count start after
one_more n first count q h a b = rows_both n first count (first + q) 1 first count a b (omega arith) (omega arith) (omega arith) (omega arith)

pub power-sixteen : (i : ℕ) {q : ℕ} → i < 4 → q ≡ 2 ^ i → q < 16
power-sixteen i h e = let m : 2 ^ i ≤ 2 ^ 3 = pow_mono {i = i} {j = 3} (omega arith) in omega arith

-- a number that has room in the words of a row, as a row has it
pub row-whole : (n : ℕ) (words : List ℕ) → length words ≡ 15 → n ≤ 15 → {x : ℕ} → register words ≡ x → x < 2 ^ (64 * n) → low words n ≡ x
row-whole n words len hn e h = sym (register-short words n (omega arith) (rw e h)) ∙ e

pub divisor-below : (n u x : ℕ) → u < n → x < 2 ^ (64 * u) → 2 ^ (64 * u) + x < 2 ^ (64 * n)
divisor-below n u x h l =
    let p = pow-add 2 (64 * u) 1 in
    let m : 2 ^ (64 * u + 1) ≤ 2 ^ (64 * n) = pow_mono {i = 64 * u + 1} {j = 64 * n} (omega arith) in
    omega arith

pub even-start : (n a b d g : ℕ) {entry mid start : List ℕ} → b ≡ a + 1 → 128 ≤ d → g / 2 ^ d ≡ 1 → Row n mid a 0 → OnlyRows n a 1 entry mid → Row n start b g → OnlyRows n b 1 mid start
    → Powers n 1 (multiple_of d g) a start × OnlyRows n a 16 entry start
even-start n a b d g {entry} {mid} {start} eb wide monic none o one p = (
  record {
    none = row-lower n b 1 p a (multiple_of d g 0) (omega arith) (rw (multiple-zero d g wide monic) none);
    power = λ j h. first j (omega arith);
  },
  rows_both n a 1 b 1 a 16 o p (omega arith) (omega arith) (omega arith) (omega arith),
)
  where
    first : (j : ℕ) → j ≡ 0 → Row n start (a + 2 ^ j) (multiple_of d g (2 ^ j))
    first j z = rw (z, ← eb, multiple-one d g wide monic) one

zero-below : 0 < 272
zero-below = omega arith

even-below : 256 + 2 ^ 4 ≤ 272
even-below = omega arith

pub odd-again : (n : ℕ) {X : ℕ → ℕ} (i : ℕ) {start before after : List ℕ} {p q : ℕ} → i < 4 → p ≡ 2 ^ i → q ≡ 2 ^ i
    → ((x y : ℕ) → Row n before (256 + p) x → Row n before 0 y → x * 2 ^ 4 < 2 ^ (64 * n) → Row n after (272 + q) (bit_xor (x * 2 ^ 4) y))
    → OnlyRows n (272 + q) 1 before after → OnlyRows n 272 16 start before → Row n start 0 0 → ((j : ℕ) → j < 4 → X (2 ^ j) * 2 ^ 4 < 2 ^ (64 * n))
    → Powers n 4 X 256 start → Powers n i (λ v. X v * 2 ^ 4) 272 before → Powers n (i + 1) (λ v. X v * 2 ^ 4) 272 after
odd-again n {X} i {start} {before} {after} h ep eq made only o zero_row small evens powers =
    odd-next n i h ep eq made only (row-lower n 272 16 o 0 0 zero-below zero_row) (small i h) (powers-lower n 4 272 16 evens o even-below) powers

first_below : (o : ℕ) → 256 + 2 ^ 4 ≤ o → 0 < o
first_below o h = omega arith

-- before them, row 272 is cleared
pub odd-start : (n : ℕ) (X : ℕ → ℕ) (o : ℕ) {entry start : List ℕ} → 256 + 2 ^ 4 ≤ o → OnlyRows n o 1 entry start → Row n start o 0 → Row n entry 0 0 → X 0 ≡ 0 → Powers n 4 X 256 entry
    → (Row n start 0 0) × (Powers n 4 X 256 start) × (Row n start o (X 0 * 2 ^ 4))
odd-start n X o {entry} {start} h only none zero_row ex evens = (
  row-lower n o 1 only 0 0 (first_below o h) zero_row,
  powers-lower n 4 o 1 evens only h,
  rw (ex, zero-mul (2 ^ 4)) none,
)

pub cleared-only : (n o : ℕ) {entry start end : List ℕ} → OnlyRows n o 1 entry start → OnlyRows n o 16 start end → OnlyRows n o 16 entry end
cleared-only n o a b = rows_both n o 1 o 16 o 16 a b (omega arith) (omega arith) (omega arith) (omega arith)

pub both-only : (n o : ℕ) {entry start end : List ℕ} → OnlyRows n o 16 entry start → OnlyRows n o 16 start end → OnlyRows n o 16 entry end
both-only n o a b = rows_both n o 16 o 16 o 16 a b (omega arith) (omega arith) (omega arith) (omega arith)

-- the rows of the first byte

pub byte-turn : (n i : ℕ) {p q size : ℕ} → n ≤ 15 → 0 < i → i < 8 → p ≡ 2 ^ (i - 1) → q ≡ 2 ^ i → 36864 ≤ size
    → (n ≤ 15) × (p < q) × (0 < q) × (row_bytes n * (q + 1) ≤ size) × (0 < 1) × (1 < 8)
byte-turn n i hn some h ep eq hs =
    let m : 2 ^ i ≤ 2 ^ 7 = pow_mono {i = i} {j = 7} (omega arith) in
    let r = power-rise (i - 1) i (omega arith) in
    let z = pow_pos i in
    (hn, omega arith, omega arith, row_room n hn (omega arith) hs, omega arith, omega arith)

pub byte-only : (n i : ℕ) {q : ℕ} {start before after : List ℕ} → i < 8 → q ≡ 2 ^ i → OnlyRows n 1 255 start before → OnlyRows n q 1 before after → OnlyRows n 1 255 start after
byte-only n i {q} h e a b =
    let m : 2 ^ i ≤ 2 ^ 7 = pow_mono {i = i} {j = 7} (omega arith) in
    let z = pow_pos i in
    rows_both n 1 255 q 1 1 255 a b (omega arith) (omega arith) (omega arith) (omega arith)

pub byte-start : (n : ℕ) (words : List ℕ) → length words ≡ 15 → n ≤ 15 → {entry start : List ℕ} → register words * 2 ^ 8 < 2 ^ (64 * n) → Row n entry 0 0
    → Row n start 1 (low words n) → OnlyRows n 1 1 entry start → Powers n 1 (times 8 (register words)) 0 start
byte-start n words len hn {entry} {start} small none one only =
    let y : ℕ = register words in
    let m : y * 1 ≤ y * 2 ^ 8 = mul-le-mul_left y (pow_pos 8) in
    let b : y < 2 ^ (64 * n) = omega arith in
    let r : Row n start 1 y = rw (row-whole n words len hn refl b) at one in
    record {
      none = row-lower n 1 1 only 0 (times 8 y 0) (omega arith) (rw (times_zero y 8) none);
      power = λ j h. first r j (omega arith);
    }
  where
    first : Row n start 1 (register words) → (j : ℕ) → j ≡ 0 → Row n start (0 + 2 ^ j) (times 8 (register words) (2 ^ j))
    first r j z = rw z (rw (times_power (register words) 8 0 (omega arith), mul-one (register words)) r)

pub byte-both : (n : ℕ) {entry start end : List ℕ} → OnlyRows n 1 1 entry start → OnlyRows n 1 255 start end → OnlyRows n 1 255 entry end
byte-both n a b = rows_both n 1 1 1 255 1 255 a b (omega arith) (omega arith) (omega arith) (omega arith)

-- The rows that clear digits. Row a is the first, and row o the first of those that are moved up.
module _ (n u g a o : ℕ) (two : 2 ≤ u) (most : u < n) (monic : g / 2 ^ (64 * u) ≡ 1) (below : 256 ≤ a) (apart : a + 16 ≤ o) where
  multiple-small : (i : ℕ) → i < 4 → multiple_of (64 * u) g (2 ^ i) * 2 ^ 4 < 2 ^ (64 * n)
  multiple-small i h =
      let b = multiple-below (64 * u) g (omega arith) monic (2 ^ i) (power-sixteen i h refl) in
      let k : multiple_of (64 * u) g (2 ^ i) * 2 ^ 4 < 2 ^ (64 * u + 4 + 4) = shl_lt (64 * u + 4) 4 b in
      let l : 2 ^ (64 * u + 4 + 4) ≤ 2 ^ (64 * n) = pow_mono {i = 64 * u + 4 + 4} {j = 64 * n} (omega arith) in
      lt_of_lt_of_le k l

  pub clearing-rows : {t1 t2 t3 t4 t5 : List ℕ} → Row n t1 0 0
      → Powers n 4 (multiple_of (64 * u) g) a t2 × OnlyRows n a 16 t1 t2
      → ((X : ℕ → ℕ) → Row n t2 0 0 → X 0 ≡ 0 → ((i : ℕ) → i < 4 → X (2 ^ i) * 2 ^ 4 < 2 ^ (64 * n)) → Powers n 4 X a t2 → Powers n 4 (λ v. X v * 2 ^ 4) o t3) × OnlyRows n o 16 t2 t3
      → ((X : ℕ → ℕ) → Sums 4 X → Powers n 4 X a t3 → All n (2 ^ 4) X a t4) × OnlyRows n a (2 ^ 4) t3 t4
      → ((X : ℕ → ℕ) → Sums 4 X → Powers n 4 X o t4 → All n (2 ^ 4) X o t5) × OnlyRows n o (2 ^ 4) t4 t5
      → Row n t5 0 0 × All n 16 (multiple_of (64 * u) g) a t5 × All n 16 (λ v. multiple_of (64 * u) g v * 2 ^ 4) o t5
  clearing-rows {t1} {t2} {t3} {t4} {t5} z1 f2 f3 f4 f5 =
      let X : ℕ → ℕ = multiple_of (64 * u) g in
      let w : 128 ≤ 64 * u = omega arith in
      let l : 0 < a = omega arith in
      let m : 0 < o = omega arith in
      let z2 : Row n t2 0 0 = row-lower n a 16 f2.1 0 0 l z1 in
      let z3 : Row n t3 0 0 = row-lower n o 16 f3.1 0 0 m z2 in
      let z4 : Row n t4 0 0 = row-lower n a 16 f4.1 0 0 l z3 in
      let z5 : Row n t5 0 0 = row-lower n o 16 f5.1 0 0 m z4 in
      let odd3 : Powers n 4 (λ v. X v * 2 ^ 4) o t3 = f3.0 X z2 (multiple-zero (64 * u) g w monic) multiple-small f2.0 in
      let even3 : Powers n 4 X a t3 = powers-lower n 4 o 16 f2.0 f3.1 apart in
      let sums : Sums 4 X = multiple-sums (64 * u) g w monic in
      let even4 : All n 16 X a t4 = f4.0 X sums even3 in
      let odd4 : Powers n 4 (λ v. X v * 2 ^ 4) o t4 = powers-upper n 4 a 16 odd3 f4.1 apart in
      let even5 : All n 16 X a t5 = all-lower n 16 o 16 even4 f5.1 apart in
      let odd5 : All n 16 (λ v. X v * 2 ^ 4) o t5 = f5.0 _ (sums-up 4 4 sums) odd4 in
      (z5, even5, odd5)

pub clearing-made : (n d g : ℕ) {bytes : List ℕ} → Row n bytes 0 0 × All n 16 (multiple_of d g) 256 bytes × All n 16 (λ v. multiple_of d g v * 2 ^ 4) 272 bytes
    → Row n bytes 0 0 × Clearing n d g bytes
clearing-made n d g all = (all.0, record { even = all.1.row; odd = all.2.row })

after-even : {k : ℕ} (c : ℕ) → k ≤ 256 → k ≤ 256 + c
after-even c h = omega arith

after-odd : {k : ℕ} (c : ℕ) → k ≤ 256 → k ≤ 272 + c
after-odd c h = omega arith

-- they are still there after the rows of the first byte
clearing-kept : (n d g from count : ℕ) {before after : List ℕ} → from + count ≤ 256 → OnlyRows n from count before after → Clearing n d g before → Clearing n d g after
clearing-kept n d g from count h only clearing = record {
  even = λ c l. row-upper n from count only (256 + c) (multiple_of d g c) (after-even c h) (clearing.even c l);
  odd = λ c l. row-upper n from count only (272 + c) (multiple_of d g c * 2 ^ 4) (after-odd c h) (clearing.odd c l);
}

-- how many words a row has

pub words-four : row_words 4 ≡ 7
unfolding row_words
words-four = refl

pub words-ten : row_words 10 ≡ 11
unfolding row_words
words-ten = refl

pub words-fourteen : row_words 14 ≡ 15
unfolding row_words
words-fourteen = refl

-- a row has room for one word more than the divisor
pub words-room : {u n : ℕ} → RowWords u → row_words u ≡ n → (u < n) × (n ≤ 15)
unfolding row_words
words-room four e = (omega arith, omega arith)
words-room ten e = (omega arith, omega arith)
words-room fourteen e = (omega arith, omega arith)

pub higher-below : (u : ℕ) (divisor : List ℕ) → Words divisor → {x : ℕ} → x ≡ low divisor u * 2 ^ 64 → x < 2 ^ (64 * u + 64)
higher-below u divisor fit e = rw e (shl_lt (64 * u) 64 (low-lt divisor fit u))

-- The whole table of a divisor, given without its highest coefficient.
module _ (u n : ℕ) (wide : RowWords u) (en : row_words u ≡ n) (most : u < n) (divisor : List ℕ) (fit : Words divisor) where
  -- The remainder of x^(64u + 64): the divisor's other coefficients stand for x^(64u).
  byte-first : {x y : ℕ} → x ≡ low divisor u * 2 ^ 64 → y ≡ reduced (64 * u) (2 ^ (64 * u) + low divisor u) x → y ≡ rest (64 * u) (2 ^ (64 * u) + low divisor u) (2 ^ 64)
  byte-first ex ey =
      let two = wide-two wide in
      let d : ℕ = 64 * u in
      let g : ℕ = 2 ^ d + low divisor u in
      let monic = divisor-monic u (low divisor u) (low-lt divisor fit u) in
      let r : rest d g 1 ≡ low divisor u = rest-one d g (omega arith) monic ∙ divisor-rest u (low divisor u) (low-lt divisor fit u) in
      let m : 2 ^ 65 ≤ 2 ^ d = pow_mono {i = 65} {j = d} (omega arith) in
      ey ∙ ap (reduced d g) (ex ∙ ap (λ n. n * 2 ^ 64) (sym r)) ∙ rest-moved d g (omega arith) monic 1 64 (omega arith) (omega arith)

  byte_small : {y : ℕ} → y ≡ rest (64 * u) (2 ^ (64 * u) + low divisor u) (2 ^ 64) → y * 2 ^ 8 < 2 ^ (64 * n)
  byte_small {y} ey =
      let two = wide-two wide in
      let d : ℕ = 64 * u in
      let g : ℕ = 2 ^ d + low divisor u in
      let monic = divisor-monic u (low divisor u) (low-lt divisor fit u) in
      let m : 2 ^ 65 ≤ 2 ^ d = pow_mono {i = 65} {j = d} (omega arith) in
      let b : y < 2 ^ d = rw ey (rest_below d g (omega arith) monic (2 ^ 64) (omega arith)) in
      let k : y * 2 ^ 8 < 2 ^ (d + 8) = shl_lt d 8 b in
      let l : 2 ^ (d + 8) ≤ 2 ^ (64 * n) = pow_mono {i = d + 8} {j = 64 * n} (omega arith) in
      lt_of_lt_of_le k l

  byte-rows : {y : ℕ} {bytes : List ℕ} → y ≡ rest (64 * u) (2 ^ (64 * u) + low divisor u) (2 ^ 64) → All n 256 (times 8 y) 0 bytes
      → (v : ℕ) → v < 256 → Row n bytes v (row_number u (2 ^ (64 * u) + low divisor u) v)
  unfolding row_number
  byte-rows {y} {bytes} ey all v h = rw (← ey) (rw (zero-add v) at (all.row v h))

  pub filled-made : {x y : ℕ} {t1 t2 t3 : List ℕ} → Row n t1 0 0 × Clearing n (64 * u) (2 ^ (64 * u) + low divisor u) t1 → x ≡ low divisor u * 2 ^ 64
      → ((g : ℕ) → Clearing (row_words u) (64 * u) g t1 → g / 2 ^ (64 * u) ≡ 1 → y ≡ reduced (64 * u) g x)
      → (Row n t1 0 0 → y * 2 ^ 8 < 2 ^ (64 * n) → Powers n 8 (times 8 y) 0 t2) × OnlyRows n 1 255 t1 t2
      → ((X : ℕ → ℕ) → Sums 8 X → Powers n 8 X 0 t2 → All n (2 ^ 8) X 0 t3) × OnlyRows n 0 (2 ^ 8) t2 t3
      → 36864 ≤ length t3 → Filled u (2 ^ (64 * u) + low divisor u) t3
  filled-made {x} {y} {t1} {t2} {t3} f1 ex ey f2 f3 size =
      let d : ℕ = 64 * u in
      let g : ℕ = 2 ^ d + low divisor u in
      let monic = divisor-monic u (low divisor u) (low-lt divisor fit u) in
      let clearing1 : Clearing (row_words u) d g t1 = rw en f1.1 in
      let e : y ≡ rest d g (2 ^ 64) = byte-first ex (ey g clearing1 monic) in
      let all : All n 256 (times 8 y) 0 t3 = f3.0 (times 8 y) (times-sums y 8) (f2.0 f1.0 (byte_small e)) in
      let clearing3 : Clearing n d g t3 = clearing-kept n d g 0 256 even-last f3.1 (clearing-kept n d g 1 255 even-last f2.1 f1.1) in
      record {
        wide = wide;
        size = size;
        monic = monic;
        rows = λ v h. rw en (byte-rows e all v h);
        clearing = rw en clearing3;
      }

pub even-apart : 256 + 16 ≤ 272
even-apart = omega arith

pub sums-room : (n : ℕ) {size : ℕ} → n ≤ 15 → 36864 ≤ size → (n ≤ 15) × (0 < 4) × (4 ≤ 8) × (256 + 2 ^ 4 ≤ 288) × (36864 ≤ size)
sums-room n hn h = (hn, omega arith, omega arith, omega arith, h)

pub sums-room-odd : (n : ℕ) {size : ℕ} → n ≤ 15 → 36864 ≤ size → (n ≤ 15) × (0 < 4) × (4 ≤ 8) × (272 + 2 ^ 4 ≤ 288) × (36864 ≤ size)
sums-room-odd n hn h = (hn, omega arith, omega arith, omega arith, h)

pub sums-room-bytes : (n : ℕ) {size : ℕ} → n ≤ 15 → 36864 ≤ size → (n ≤ 15) × (0 < 8) × (8 ≤ 8) × (0 + 2 ^ 8 ≤ 288) × (36864 ≤ size)
sums-room-bytes n hn h = (hn, omega arith, omega arith, omega arith, h)

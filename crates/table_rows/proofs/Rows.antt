-- Laws of the rows of a table: where rows stand, rows kept and changed, and a row read from earlier on.
use mathlib.Core.Path.{◌≡◌, refl, sym, ap, ◌∙◌}
use mathlib.Core.List.{List}
use Prim.Native.Nat.{ℕ, ◌+◌, ◌-◌, ◌*◌, ◌%◌, ◌^◌, ◌<◌, ◌≤◌}
use native.Mathlib.Omega.{arith}
use native.Mathlib.Nat.{mod-eq_of_lt, mul-le-mul_left}
use lib.ListN.{drop}
use lib.Pow.{pow_pos}
use Rattle.wide.specs.Bytes.{little, Only}
use Rattle.wide.proofs.Bytes.{Bytes, little-mod, bytes_drop, row-kept-lower, row-kept-upper, row_up}
use Rattle.table_rows.specs.Rows.{row_bytes, Row, OnlyRows}

-- where rows stand

pub row-size : (n : ℕ) → row_bytes n ≡ 8 * n + 8
unfolding row_bytes
row-size n = refl

pub rows_next : (n v : ℕ) → row_bytes n * (v + 1) ≡ row_bytes n * v + row_bytes n
rows_next n v = omega arith

pub rows-one : (n : ℕ) → row_bytes n * 1 ≡ row_bytes n
rows-one n = omega arith

pub rows-most : (n : ℕ) {v w : ℕ} → v ≤ w → row_bytes n * v ≤ row_bytes n * w
rows-most n l = mul-le-mul_left (row_bytes n) l

pub rows_before : (n : ℕ) {v w : ℕ} → v < w → row_bytes n * v + row_bytes n ≤ row_bytes n * w
rows_before n {v} {w} l =
    let h : v + 1 ≤ w = omega arith in
    let m : row_bytes n * (v + 1) ≤ row_bytes n * w = mul-le-mul_left (row_bytes n) h in
    omega arith

-- the same where a row's size was computed

pub size-most : (n : ℕ) {s : ℕ} → s ≡ row_bytes n → n ≤ 15 → s ≤ 128
size-most n e l = omega (arith, row-size n)

pub size-least : (n : ℕ) {s : ℕ} → s ≡ row_bytes n → 8 ≤ s
size-least n e = omega (arith, row-size n)

pub size-end : (n v : ℕ) {s size : ℕ} → s ≡ row_bytes n → row_bytes n * (v + 1) ≤ size → s * v + s ≤ size
size-end n v e l = rw (e, ← rows_next n v) l

pub size-before : (n : ℕ) {s v w : ℕ} → s ≡ row_bytes n → v < w → s * v + s ≤ s * w
size-before n e l = rw e (rows_before n l)

-- a row that does not overlap with the changed bytes is as it was

pub row_kept : (n at m : ℕ) {before after : List ℕ} → Only at m before after → (v x : ℕ) → row_bytes n * v + row_bytes n ≤ at → Row n before v x → Row n after v x
row_kept n at m {before} {after} o v x l r =
    let s = row-size n in record {
      zeros = row-kept-lower before after at m o (row_bytes n * v) 8 (omega arith) ∙ r.zeros;
      number = row-kept-lower before after at m o (row_bytes n * v + 8) (8 * n) (omega arith) ∙ r.number;
    }

pub row-lower : (n from count : ℕ) {before after : List ℕ} → OnlyRows n from count before after → (v x : ℕ) → v < from → Row n before v x → Row n after v x
row-lower n from count o v x l r = row_kept n (row_bytes n * from) (row_bytes n * count) o v x (rows_before n l) r

pub row-upper : (n from count : ℕ) {before after : List ℕ} → OnlyRows n from count before after → (v x : ℕ) → from + count ≤ v → Row n before v x → Row n after v x
row-upper n from count {before} {after} o v x l r =
    let m : row_bytes n * (from + count) ≤ row_bytes n * v = rows-most n l in record {
      zeros = row-kept-upper before after (row_bytes n * from) (row_bytes n * count) o (row_bytes n * v) 8 (omega arith) ∙ r.zeros;
      number = row-kept-upper before after (row_bytes n * from) (row_bytes n * count) o (row_bytes n * v + 8) (8 * n) (omega arith) ∙ r.number;
    }

-- no change of rows
pub rows_none : (n from count : ℕ) (bytes : List ℕ) → OnlyRows n from count bytes bytes
rows_none n from count bytes = record {
  lower = λ k h. refl;
  upper = λ k h. refl;
}

-- two changes within one range of rows
pub rows_both : (n : ℕ) {before mid after : List ℕ} (a i b j q k : ℕ) → OnlyRows n a i before mid → OnlyRows n b j mid after → q ≤ a → a + i ≤ q + k → q ≤ b → b + j ≤ q + k
    → OnlyRows n q k before after
rows_both n a i b j q k o p la li lb lj =
    let ha : row_bytes n * q ≤ row_bytes n * a = rows-most n la in
    let hi : row_bytes n * (a + i) ≤ row_bytes n * (q + k) = rows-most n li in
    let hb : row_bytes n * q ≤ row_bytes n * b = rows-most n lb in
    let hj : row_bytes n * (b + j) ≤ row_bytes n * (q + k) = rows-most n lj in record {
      lower = λ e h. p.lower e (omega arith) ∙ o.lower e (omega arith);
      upper = λ e h. p.upper e (omega arith) ∙ o.upper e (omega arith);
    }

-- a row's number in its first words
row_words_lem : (n : ℕ) (bytes : List ℕ) → Bytes bytes → (v x m : ℕ) → Row n bytes v x → m ≤ n → x < 2 ^ (8 * (8 * m)) → little (drop (row_bytes n * v + 8) bytes) (8 * m) ≡ x
row_words_lem n bytes h v x m r l f =
    let bs : List ℕ = drop (row_bytes n * v + 8) bytes in
    let e : 8 * m + (8 * n - 8 * m) ≡ 8 * n = omega arith in
    sym (little-mod bs (bytes_drop bytes h (row_bytes n * v + 8)) (8 * m) (8 * n - 8 * m))
    ∙ ap (λ k. little bs k % 2 ^ (8 * (8 * m))) e
    ∙ ap (λ y. y % 2 ^ (8 * (8 * m))) r.number
    ∙ mod-eq_of_lt f

-- a row read from b bytes earlier on
pub row_read : (n : ℕ) (bytes : List ℕ) → Bytes bytes → (v x b m : ℕ) → Row n bytes v x → b ≤ 8 → m ≤ n → x * 2 ^ (8 * b) < 2 ^ (64 * m)
    → little (drop (row_bytes n * v + 8 - b) bytes) (8 * m) ≡ x * 2 ^ (8 * b)
row_read n bytes h v x b m r lb lm f =
    let e : 64 * m ≡ 8 * (8 * m) = omega arith in
    let g : x * 2 ^ (8 * b) < 2 ^ (8 * (8 * m)) = rw (← e) f in
    let k : x * 1 ≤ x * 2 ^ (8 * b) = mul-le-mul_left x (pow_pos (8 * b)) in
    let w : little (drop (row_bytes n * v + 8) bytes) (8 * m) ≡ x = row_words_lem n bytes h v x m r lm (omega arith) in
    row_up bytes h (row_bytes n * v) b (8 * m) lb r.zeros (rw w g) ∙ ap (λ y. y * 2 ^ (8 * b)) w

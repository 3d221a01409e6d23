-- What the code's steps do: bytes of a row stored one after the other, and a row from its bytes.
use mathlib.Core.Path.{◌≡◌, refl, sym, ap, ap₂, ◌∙◌}
use mathlib.Core.List.{List, [], ◌∷◌}
use Prim.Native.Nat.{ℕ, zero, suc, ◌+◌, ◌-◌, ◌*◌, ◌/◌, ◌%◌, ◌^◌, ◌<◌, ◌≤◌}
use native.Mathlib.Omega.{arith}
use native.Mathlib.Nat.{add-zero, zero-mul, mod-lt, mod-eq_of_lt, mul-add-div_right, mul-add-mod_self_right, mul-mod_left}
use lib.ListN.{length, get_or, set, drop, length-drop}
use lib.Seq.{get_or-set_same, get_or-set_other, get_or-drop, drop-set-add}
use lib.Pow as Pow
use lib.Pow.{pow_pos, pow-add, mod-pow-add, shr_lt, shr-shr, shl-shr}
use lib.Arith.{digits_lt}
use lib.Bits.{bit_xor, xor_block}
use Rattle.wide.specs.Bytes.{little, Only}
use Rattle.wide.proofs.Bytes.{Bytes, little-next, little-lt, little-agree, little-append, little-from, bytes_drop, row-kept-lower}
use Rattle.table_rows.specs.Rows.{row_bytes, Row, OnlyRows}
use Rattle.table_rows.proofs.Rows.{row-size, rows-one}

-- a row and its bytes

row-split : (n : ℕ) (bytes : List ℕ) (v : ℕ)
    → little (drop (row_bytes n * v) bytes) (row_bytes n) ≡ little (drop (row_bytes n * v + 8) bytes) (8 * n) * 2 ^ 64 + little (drop (row_bytes n * v) bytes) 8
row-split n bytes v =
    let e : row_bytes n ≡ 8 + 8 * n = omega (arith, row-size n) in
    ap (little (drop (row_bytes n * v) bytes)) e
    ∙ little-append (drop (row_bytes n * v) bytes) 8 (8 * n)
    ∙ ap (λ x. x * 2 ^ 64 + little (drop (row_bytes n * v) bytes) 8) (little-from bytes (row_bytes n * v) 8 (8 * n))

row-whole : (n : ℕ) (bytes : List ℕ) (v : ℕ) {x : ℕ} → Row n bytes v x → little (drop (row_bytes n * v) bytes) (row_bytes n) ≡ x * 2 ^ 64
row-whole n bytes v {x} r = row-split n bytes v ∙ ap₂ (λ y z. y * 2 ^ 64 + z) r.number r.zeros ∙ add-zero (x * 2 ^ 64)

row_made : (n : ℕ) (bytes : List ℕ) → Bytes bytes → (v x : ℕ) → little (drop (row_bytes n * v) bytes) (row_bytes n) ≡ x * 2 ^ 64 → Row n bytes v x
row_made n bytes h v x e =
    let z : ℕ = little (drop (row_bytes n * v) bytes) 8 in
    let l : z < 2 ^ 64 = little-lt (drop (row_bytes n * v) bytes) (bytes_drop bytes h (row_bytes n * v)) 8 in
    let w = row-split n bytes v in record {
      zeros = omega arith;
      number = omega arith;
    }

pub row-cleared : (n : ℕ) (bytes : List ℕ) (v : ℕ) → little (drop (row_bytes n * v) bytes) (row_bytes n) ≡ 0 → Row n bytes v 0
row-cleared n bytes v e =
    let w = row-split n bytes v in record {
      zeros = omega arith;
      number = omega arith;
    }

-- the bytes of one row
pub only_row : (n v : ℕ) {us vs : List ℕ} → Only (row_bytes n * v) (row_bytes n) us vs → OnlyRows n v 1 us vs
only_row n v o = rw (rows-one n) o

-- no change
pub only_none : (at n : ℕ) (us : List ℕ) → Only at n us us
only_none at n us = record {
  lower = λ k h. refl;
  upper = λ k h. refl;
}

-- two changes, one after the other
pub only-both : (at m n p k : ℕ) {us vs ws : List ℕ} → Only at m us vs → Only p k vs ws → m ≤ n → at ≤ p → p + k ≤ at + n → Only at n us ws
only-both at m n p k o q hm hp hk = record {
  lower = λ j h. q.lower j (omega arith) ∙ o.lower j h;
  upper = λ j h. q.upper j (omega arith) ∙ o.upper j (omega arith);
}

-- a row from eight zeros and the words of a number
pub row_put : (n v : ℕ) {x : ℕ} (bs vs : List ℕ) → little (drop (row_bytes n * v) bs) 8 ≡ 0 → little (drop (row_bytes n * v + 8) vs) (8 * n) ≡ x
    → Only (row_bytes n * v + 8) (8 * n) bs vs → Row n vs v x
row_put n v bs vs z e o = record {
  zeros = row-kept-lower bs vs (row_bytes n * v + 8) (8 * n) o (row_bytes n * v) 8 (omega arith) ∙ z;
  number = e;
}

-- a byte stored above those that are done
stored : (to i x : ℕ) (bs : List ℕ) → to + i < length bs → little (drop to (set bs (to + i) x)) (i + 1) ≡ x * 2 ^ (8 * i) + little (drop to bs) i
stored to i x bs l =
    let ds : List ℕ = drop to bs in
    let h : i < length ds = omega (arith, length-drop to bs) in
    rw (drop-set-add to bs i x)
    (little-next (set ds i x) i
    ∙ ap₂ (λ (a b : ℕ). a * 2 ^ (8 * i) + b) (get_or-set_same ds i x 0 h) (little-agree (set ds i x) ds i (λ k g. get_or-set_other ds i k x 0 (λ e. omega arith))))

pub zero-next : (to i : ℕ) (bs : List ℕ) → to + i < length bs → little (drop to bs) i ≡ 0 → little (drop to (set bs (to + i) 0)) (i + 1) ≡ 0
zero-next to i bs l e = stored to i 0 bs l ∙ ap (λ y. 0 * 2 ^ (8 * i) + y) e ∙ add-zero (0 * 2 ^ (8 * i)) ∙ zero-mul (2 ^ (8 * i))

xor-stored : (to i a b x y : ℕ) (bs : List ℕ) → to + i < length bs → x < 2 ^ (8 * i) → y < 2 ^ (8 * i) → little (drop to bs) i ≡ bit_xor x y
    → little (drop to (set bs (to + i) (bit_xor a b))) (i + 1) ≡ bit_xor (a * 2 ^ (8 * i) + x) (b * 2 ^ (8 * i) + y)
xor-stored to i a b x y bs l hx hy inv = stored to i (bit_xor a b) bs l ∙ ap (λ z. bit_xor a b * 2 ^ (8 * i) + z) inv ∙ sym (xor_block (8 * i) a b x y hx hy)

byte_more : (us : List ℕ) (p i : ℕ) {x : ℕ} → x ≡ get_or us (p + i) 0 → little (drop p us) (i + 1) ≡ x * 2 ^ (8 * i) + little (drop p us) i
byte_more us p i e = little-next (drop p us) i ∙ ap (λ y. y * 2 ^ (8 * i) + little (drop p us) i) (get_or-drop p us i 0 ∙ sym e)

below : (us : List ℕ) → Bytes us → (p i : ℕ) → little (drop p us) i < 2 ^ (8 * i)
below us h p i = little-lt (drop p us) (bytes_drop us h p) i

below-kept : (us bs : List ℕ) → Bytes bs → (p to i : ℕ) → p + i < to → Only to i us bs → little (drop p us) i < 2 ^ (8 * i)
below-kept us bs h p to i l o = rw (sym (row-kept-lower us bs to i o p i (omega arith))) (below bs h p i)

-- a byte stored among bytes
pub bytes-set : (bs : List ℕ) → Bytes bs → (i x : ℕ) → x < 256 → Bytes (set bs i x)
bytes-set [] h i x l k = h k
bytes-set (b ∷ bs) h zero x l zero = l
bytes-set (b ∷ bs) h zero x l (suc k) = h (suc k)
bytes-set (b ∷ bs) h (suc i) x l zero = h zero
bytes-set (b ∷ bs) h (suc i) x l (suc k) = bytes-set bs (λ j. h (suc j)) i x l k

-- one more byte of the sum of two rows that come before
pub sum-next : (us bs : List ℕ) (p q to i : ℕ) → Bytes bs → to + i < length bs → p + i < to → q + i < to → Only to i us bs
    → little (drop to bs) i ≡ bit_xor (little (drop p us) i) (little (drop q us) i)
    → little (drop to (set bs (to + i) (bit_xor (get_or bs (p + i) 0) (get_or bs (q + i) 0)))) (i + 1) ≡ bit_xor (little (drop p us) (i + 1)) (little (drop q us) (i + 1))
sum-next us bs p q to i h l lp lq o inv =
    xor-stored to i (get_or bs (p + i) 0) (get_or bs (q + i) 0) (little (drop p us) i) (little (drop q us) i) bs l (below-kept us bs h p to i lp o) (below-kept us bs h q to i lq o) inv
    ∙ sym (ap₂ bit_xor (byte_more us p i (o.lower (p + i) lp)) (byte_more us q i (o.lower (q + i) lq)))

-- the sum of two rows, from its bytes
pub sum-made : (n : ℕ) (us bs : List ℕ) (a b to x y : ℕ) → Bytes bs
    → little (drop (row_bytes n * to) bs) (row_bytes n) ≡ bit_xor (little (drop (row_bytes n * a) us) (row_bytes n)) (little (drop (row_bytes n * b) us) (row_bytes n))
    → Row n us a x → Row n us b y → Row n bs to (bit_xor x y)
sum-made n us bs a b to x y h e rx ry =
    row_made n bs h to (bit_xor x y)
    (e
    ∙ ap₂ bit_xor (row-whole n us a rx ∙ sym (add-zero (x * 2 ^ 64))) (row-whole n us b ry ∙ sym (add-zero (y * 2 ^ 64)))
    ∙ xor_block 64 x y 0 0 (pow_pos 64) (pow_pos 64)
    ∙ add-zero (bit_xor x y * 2 ^ 64))

-- what a byte v gives to the one above it, where both go up by k digits
carry-fits : (w v k : ℕ) → k ≤ 8 → v < 256 → w * 2 ^ k % 256 + v / 2 ^ (8 - k) < 256
carry-fits w v k l h =
    let e : 8 - k + k ≡ 8 = omega arith in
    let f : k + (8 - k) ≡ 8 = omega arith in
    let c : v / 2 ^ (8 - k) < 2 ^ k = shr_lt k (8 - k) (rw f h) in
    let p : 2 ^ (8 - k) * 2 ^ k ≡ 256 = sym (pow-add 2 (8 - k) k) ∙ ap (λ (n : ℕ). 2 ^ n) e in
    let m : w * 2 ^ k % 256 ≡ w % 2 ^ (8 - k) * 2 ^ k + 0 =
    ap (λ (n : ℕ). w * 2 ^ k % 2 ^ n) (sym e) ∙ mod-pow-add (w * 2 ^ k) (8 - k) k
    ∙ ap₂ (λ (x y : ℕ). x % 2 ^ (8 - k) * 2 ^ k + y) (shl-shr w k) (mul-mod_left w (2 ^ k)) in
    let d = digits_lt (mod-lt w (pow_pos (8 - k))) c in
    omega arith

carry-of : (us : List ℕ) → Bytes us → (p j k : ℕ) → k ≤ 8 → little (drop p us) (j + 1) * 2 ^ k / 2 ^ (8 * (j + 1)) ≡ get_or us (p + j) 0 / 2 ^ (8 - k)
carry-of us h p j k l =
    let x : ℕ = little (drop p us) (j + 1) in
    let e : 8 * (j + 1) ≡ k + (8 * j + (8 - k)) = omega arith in
    let q : x ≡ get_or (drop p us) j 0 * 2 ^ (8 * j) + little (drop p us) j = little-next (drop p us) j in
    ap (λ n. x * 2 ^ k / 2 ^ n) e
    ∙ sym (shr-shr (x * 2 ^ k) k (8 * j + (8 - k)))
    ∙ ap (λ n. n / 2 ^ (8 * j + (8 - k))) (shl-shr x k)
    ∙ sym (shr-shr x (8 * j) (8 - k))
    ∙ ap (λ n. n / 2 ^ (8 - k)) (ap (λ n. n / 2 ^ (8 * j)) q ∙ Pow.high (get_or (drop p us) j 0) (8 * j) (below us h p j) ∙ get_or-drop p us j 0)

-- one byte more of a number times 2^k
power-more : (w v x i k : ℕ) → k ≤ 8 → v < 256 → x * 2 ^ k / 2 ^ (8 * i) ≡ v / 2 ^ (8 - k)
    → (w * 2 ^ k % 256 + v / 2 ^ (8 - k)) * 2 ^ (8 * i) + x * 2 ^ k % 2 ^ (8 * i) ≡ (w * 2 ^ (8 * i) + x) * 2 ^ k % 2 ^ (8 * (i + 1))
power-more w v x i k l h e =
    let P : ℕ = 2 ^ (8 * i) in
    let c : ℕ = v / 2 ^ (8 - k) in
    let u : ℕ = w * 2 ^ k in
    let n : (w * P + x) * 2 ^ k ≡ u * P + x * 2 ^ k = omega arith in
    let d : (u * P + x * 2 ^ k) / P ≡ u + c = mul-add-div_right (pow_pos (8 * i)) u (x * 2 ^ k) ∙ ap (λ y. u + y) e in
    let f : u % 256 + c < 256 = carry-fits w v k l h in
    let g : (u + c) % 256 ≡ u % 256 + c = omega arith in
    let s : 8 * (i + 1) ≡ 8 + 8 * i = omega arith in
    sym
    (ap₂ (λ y m. y % 2 ^ m) n s
    ∙ mod-pow-add (u * P + x * 2 ^ k) 8 (8 * i)
    ∙ ap₂ (λ y z. y * P + z) (ap (λ y. y % 256) d ∙ g) (mul-add-mod_self_right u P (x * 2 ^ k)))

-- one more byte of a row times 2^k, plus another row; both come before
pub power-next : (us bs : List ℕ) (p q to i k : ℕ) {r : ℕ} → Bytes us → 0 < i → k < 8 → to + i < length bs → p + i < to → q + i < to → Only to i us bs
    → r ≡ get_or bs (p + i) 0 * 2 ^ k % 256 + get_or bs (p + i - 1) 0 / 2 ^ (8 - k)
    → little (drop to bs) i ≡ bit_xor (little (drop p us) i * 2 ^ k % 2 ^ (8 * i)) (little (drop q us) i)
    → little (drop to (set bs (to + i) (bit_xor r (get_or bs (q + i) 0)))) (i + 1) ≡ bit_xor (little (drop p us) (i + 1) * 2 ^ k % 2 ^ (8 * (i + 1))) (little (drop q us) (i + 1))
power-next us bs p q to i k {r} h li lk l lp lq o er inv =
    let a : ℕ = get_or bs (p + i) 0 in
    let b : ℕ = get_or bs (p + i - 1) 0 in
    let x : ℕ = little (drop p us) i in
    let s : i - 1 + 1 ≡ i = omega arith in
    let t : p + i - 1 ≡ p + (i - 1) = omega arith in
    let eb : b ≡ get_or us (p + i - 1) 0 = o.lower (p + i - 1) (omega arith) in
    let c : x * 2 ^ k / 2 ^ (8 * i) ≡ b / 2 ^ (8 - k) =
    rw s at (carry-of us h p (i - 1) k (omega arith)) ∙ ap (λ n. n / 2 ^ (8 - k)) (ap (λ n. get_or us n 0) (sym t) ∙ sym eb) in
    xor-stored to i r (get_or bs (q + i) 0) (x * 2 ^ k % 2 ^ (8 * i)) (little (drop q us) i) bs l (mod-lt (x * 2 ^ k) (pow_pos (8 * i))) (below us h q i) inv
    ∙ ap₂ bit_xor
    (ap (λ n. n * 2 ^ (8 * i) + x * 2 ^ k % 2 ^ (8 * i)) er
    ∙ power-more a b x i k (omega arith) (rw eb (h (p + i - 1))) c
    ∙ ap (λ n. n * 2 ^ k % 2 ^ (8 * (i + 1))) (sym (byte_more us p i (o.lower (p + i) lp))))
    (sym (byte_more us q i (o.lower (q + i) lq)))

-- the first eight bytes
pub power-start : (us bs : List ℕ) (p q to k : ℕ) → little (drop to bs) 8 ≡ 0 → little (drop p us) 8 ≡ 0 → little (drop q us) 8 ≡ 0
    → little (drop to bs) 8 ≡ bit_xor (little (drop p us) 8 * 2 ^ k % 2 ^ 64) (little (drop q us) 8)
power-start us bs p q to k e ep eq = e ∙ sym (ap₂ (λ x y. bit_xor (x * 2 ^ k % 2 ^ 64) y) ep eq ∙ ap (λ x. bit_xor (x % 2 ^ 64) 0) (zero-mul (2 ^ k)))

-- a row times 2^k, plus another row, from its bytes
pub power-made : (n : ℕ) (us bs : List ℕ) (a b to k x y : ℕ) → Bytes bs
    → little (drop (row_bytes n * to) bs) (row_bytes n)
    ≡ bit_xor (little (drop (row_bytes n * a) us) (row_bytes n) * 2 ^ k % 2 ^ (8 * row_bytes n)) (little (drop (row_bytes n * b) us) (row_bytes n))
    → Row n us a x → Row n us b y → x * 2 ^ k < 2 ^ (64 * n) → Row n bs to (bit_xor (x * 2 ^ k) y)
power-made n us bs a b to k x y h e rx ry f =
    let z : ℕ = x * 2 ^ k in
    let w : little (drop (row_bytes n * a) us) (row_bytes n) * 2 ^ k ≡ z * 2 ^ 64 = ap (λ i. i * 2 ^ k) (row-whole n us a rx) ∙ omega arith in
    let s : 64 * n + 64 ≡ 8 * row_bytes n = omega (arith, row-size n) in
    let m : z * 2 ^ 64 < 2 ^ (8 * row_bytes n) = rw s at (Pow.shl_lt (64 * n) 64 f) in
    row_made n bs h to (bit_xor z y)
    (e
    ∙ ap₂ bit_xor (ap (λ i. i % 2 ^ (8 * row_bytes n)) w ∙ mod-eq_of_lt m ∙ sym (add-zero (z * 2 ^ 64))) (row-whole n us b ry ∙ sym (add-zero (y * 2 ^ 64)))
    ∙ xor_block 64 z y 0 0 (pow_pos 64) (pow_pos 64)
    ∙ add-zero (bit_xor z y * 2 ^ 64))

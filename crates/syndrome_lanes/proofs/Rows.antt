-- Laws of lanes: the value of a number's lowest terms, one term or one word more, and the turns of the loops.
--
-- Filling powers p s i e v     row p of s is begun in v: its i first lanes are there, and e is the next exponent
-- Adding s r p i v        row p of r is added to the i first lanes of s
-- Scanning w r x s y v    what v lacks in its w first lanes of s with the terms of x is the terms of y
-- Raising f t s i e v     the i first lanes of s are multiplied
use mathlib.Core.Path.{◌≡◌, refl, sym, ap, ap₂, ◌∙◌, subst}
use mathlib.Core.Bool.{cond}
use mathlib.Core.List.{List, ◌∷◌}
use Prim.Native.Nat.{ℕ, zero, suc, ◌+◌, ◌-◌, ◌*◌, ◌/◌, ◌%◌, ◌^◌, ◌≤◌, ◌<◌}
use native.Mathlib.Nat.{one-mul, add-mul, mul_comm, mul-add, add-zero, zero-mul, zero-add, pow-suc, mul_assoc, mul-le-mul, zero-div, add_comm, mod-lt, mod-eq_of_lt, div-one}
use native.Mathlib.Omega.{arith}
use native.Mathlib.Decide.{dec_lt, ℕ_discrete}
use borrow.Author.Tests.{eq-eqb, ne_eqb}
use lib.Dec.{eqb}
use lib.Bits.{bit_xor, xor_lt, xor_zero_r, xor_zero_l, xor_comm}
use lib.Count.{count_trailing_zeros, under}
use lib.ListN.{length, get_or, set, replicate, length-set, length-replicate}
use lib.Pow.{pow_pos, split, shr-shr}
use lib.Seq.{get_or-set_same, get_or-set_other}
use Rattle.bits.specs.Bits.{bit, digits}
use Rattle.bits.proofs.Numbers.{digits-length, bit-low, bit_high, bit-shift, bit-mod, bit-ext, bit-zero}
use Rattle.field.specs.declared.Field.{Field}
use Rattle.field.specs.declared.Field.TheVariants.{Thirteen, Fourteen}
use Rattle.field.specs.Field.{degree, modulus, longest, mul, product, a^, Elem}
use Rattle.field.proofs.Xor.{xor_assoc}
use Rattle.field.proofs.Order.{a^-below, a^-add}
use Rattle.field.proofs.Primitive.{primitive, usable}
use Rattle.field.proofs.Multiply.{mul-add-left, mul-zero-left}
use Rattle.powers.specs.Powers.{Powers}
use Rattle.code.specs.Word.{descending}
use Rattle.code.specs.Locations.{power_sum}
use Rattle.code.specs.Register.{register}
use Rattle.remainder.proofs.Words.{Words, register-bit}
use Rattle.syndrome_lanes.specs.Lanes.{terms, Rows, Rowed, Decoding, Lanes, Raised, Added, Scanned, Filled}
use Rattle.series.proofs.Arrays.{zeros-at}

-- ---- the value of the lowest terms of a number

xor-right : (a b c : ℕ) → bit_xor (bit_xor a b) c ≡ bit_xor (bit_xor a c) b
xor-right a b c = xor_assoc a b c ∙ ap (bit_xor a) (xor_comm b c) ∙ sym (xor_assoc a c b)

digits_same : (x y n : ℕ) → ((k : ℕ) → k < n → bit x k ≡ bit y k) → digits x n ≡ digits y n
unfolding digits
digits_same x y zero h = refl
digits_same x y (suc n) h = ap₂ (λ b w. eqb b 1 ∷ w) (h n (omega arith)) (digits_same x y n (λ k l. h k (omega arith)))

term-next : (x p : ℕ) → descending (digits x (suc p)) ≡ cond (eqb (bit x p) 1) (p ∷ descending (digits x p)) (descending (digits x p))
unfolding descending digits
term-next x p = rw (digits-length x p)

module _ (f : Field) (j : ℕ) where
  pub terms-same : (x y n : ℕ) → ((k : ℕ) → k < n → bit x k ≡ bit y k) → terms f x n j ≡ terms f y n j
  unfolding terms
  terms-same x y n h = ap (λ w. power_sum f (descending w) j) (digits_same x y n h)

  pub terms-none : (x : ℕ) → terms f x 0 j ≡ 0
  unfolding terms power_sum descending digits
  terms-none x = refl

  pub terms-one : (x n : ℕ) → bit x n ≡ 1 → terms f x (suc n) j ≡ bit_xor (terms f x n j) (a^ f (j * n))
  unfolding terms power_sum
  terms-one x n e =
      let ps = descending (digits x n) in
      let q : cond (eqb (bit x n) 1) (n ∷ ps) ps ≡ n ∷ ps = rw (eq-eqb (bit x n) 1 e) refl in
      ap (λ w. power_sum f w j) (term-next x n ∙ q) ∙ xor_comm (a^ f (j * n)) (power_sum f ps j)

  pub terms-zero : (x n : ℕ) → (bit x n ≡ 1 → ⊥) → terms f x (suc n) j ≡ terms f x n j
  unfolding terms
  terms-zero x n e =
      let ps = descending (digits x n) in
      let q : cond (eqb (bit x n) 1) (n ∷ ps) ps ≡ ps = rw (ne_eqb (bit x n) 1 e) refl in
      ap (λ w. power_sum f w j) (term-next x n ∙ q)

  pub terms-of-zero : (n : ℕ) → terms f 0 n j ≡ 0
  unfolding bit
  terms-of-zero zero = terms-none 0
  terms-of-zero (suc n) = terms-zero 0 n (λ e. no-bit n e) ∙ terms-of-zero n
    where
      no-bit : (k : ℕ) → bit 0 k ≡ 1 → ⊥
      no-bit k e = let z : 0 / 2 ^ k ≡ 0 = zero-div (2 ^ k) in absurd (omega arith)

  -- A number with k digits more below: the terms of x, times x^k, and those of w.
  pub terms-up : (x w k n : ℕ) → w < 2 ^ k → terms f (x * 2 ^ k + w) (n + k) j ≡ bit_xor (product f (terms f x n j) (a^ f (k * j))) (terms f w k j)
  terms-up x w k zero l =
      ap (λ z. terms f (x * 2 ^ k + w) z j) (zero-add k)
      ∙ terms-same (x * 2 ^ k + w) w k (λ i m. bit-low x k i w m)
      ∙ sym (xor_zero_l (terms f w k j))
      ∙ ap (λ z. bit_xor z (terms f w k j)) (sym (mul-zero-left (usable f) (a^ f (k * j))) ∙ ap (λ z. product f z (a^ f (k * j))) (sym (terms-none x)))
  terms-up x w k (suc n) l = go (ℕ_discrete (bit x n) 1) (terms-up x w k n l)
    where
      high : bit (x * 2 ^ k + w) (n + k) ≡ bit x n
      high = ap (bit (x * 2 ^ k + w)) (add_comm n k) ∙ bit_high x k n l

      next : suc n + k ≡ suc (n + k)
      next = omega arith

      split : a^ f (j * (n + k)) ≡ product f (a^ f (j * n)) (a^ f (k * j))
      split = ap (a^ f) (mul-add j n k ∙ ap (λ z. j * n + z) (mul_comm j k)) ∙ a^-add (primitive f) (j * n) (k * j)

      go : Dec (bit x n ≡ 1) → terms f (x * 2 ^ k + w) (n + k) j ≡ bit_xor (product f (terms f x n j) (a^ f (k * j))) (terms f w k j)
          → terms f (x * 2 ^ k + w) (suc n + k) j ≡ bit_xor (product f (terms f x (suc n) j) (a^ f (k * j))) (terms f w k j)
      go (yes e) ih =
          ap (λ z. terms f (x * 2 ^ k + w) z j) next
          ∙ terms-one (x * 2 ^ k + w) (n + k) (high ∙ e)
          ∙ ap₂ bit_xor ih split
          ∙ xor-right (product f (terms f x n j) (a^ f (k * j))) (terms f w k j) (product f (a^ f (j * n)) (a^ f (k * j)))
          ∙ ap (λ z. bit_xor z (terms f w k j)) (sym (mul-add-left (usable f) (terms f x n j) (a^ f (j * n)) (a^ f (k * j))) ∙ ap (λ z. product f z (a^ f (k * j))) (sym (terms-one x n e)))
      go (no e) ih =
          ap (λ z. terms f (x * 2 ^ k + w) z j) next
          ∙ terms-zero (x * 2 ^ k + w) (n + k) (λ q. e (sym high ∙ q))
          ∙ ih
          ∙ ap (λ z. bit_xor (product f z (a^ f (k * j))) (terms f w k j)) (sym (terms-zero x n e))

  -- No term is at or above the place d of a number below 2^d.
  pub terms-more : (x d k : ℕ) → x < 2 ^ d → terms f x (k + d) j ≡ terms f x d j
  terms-more x d k l =
      let e : 0 * 2 ^ d + x ≡ x = ap (λ z. z + x) (zero-mul (2 ^ d)) ∙ zero-add x in
      ap (λ z. terms f z (k + d) j) (sym e)
      ∙ terms-up 0 x d k l
      ∙ ap (λ z. bit_xor (product f z (a^ f (d * j))) (terms f x d j)) (terms-of-zero k)
      ∙ ap (λ z. bit_xor z (terms f x d j)) (mul-zero-left (usable f) (a^ f (d * j)))
      ∙ xor_zero_l (terms f x d j)

  pub terms-below : (x n : ℕ) → terms f x n j < 2 ^ degree f
  terms-below x zero = rw (terms-none x) (pow_pos (degree f))
  terms-below x (suc n) = elim (ℕ_discrete (bit x n) 1) [
    | yes e ↦ rw (terms-one x n e) (xor_lt (degree f) _ _ (terms-below x n) (a^-below (primitive f) (j * n)))
    | no e ↦ rw (terms-zero x n e) (terms-below x n)
  ]

-- ---- the lowest one of a number

pub record Lowest (q p d : ℕ) : Type 0 where
  pub high : ℕ
  pub is : q ≡ high * 2 ^ suc p + 2 ^ p
  pub less : p < d

pub lowest : (d q : ℕ) → 0 < q → q < 2 ^ d → Lowest q (count_trailing_zeros d q) d
unfolding count_trailing_zeros
lowest zero q h k = absurd (none q h k)
  where
    none : (q : ℕ) → 0 < q → q < 1 → ⊥
    none q h k = omega arith
lowest (suc d) q h k = go (q % 2) refl (λ e. lowest d (q / 2) (positive e) (below (rw (pow-suc 2 d) at k)))
  where
    positive : q % 2 ≡ 0 → 0 < q / 2
    positive e = omega arith

    below : q < 2 ^ d * 2 → q / 2 < 2 ^ d
    below l = omega arith

    go : (r : ℕ) → q % 2 ≡ r → (q % 2 ≡ 0 → Lowest (q / 2) (count_trailing_zeros d (q / 2)) d) → Lowest q (under r (count_trailing_zeros d (q / 2))) (suc d)
    go zero e ih =
        let l = ih e in
        let t = count_trailing_zeros d (q / 2) in
        record { high = l.high; is = twice l.high (2 ^ suc t) (2 ^ t) (2 ^ suc (suc t)) e l.is (pow-suc 2 (suc t)) (pow-suc 2 t); less = omega (arith, l.less) }
      where
        twice : (a x y z : ℕ) → q % 2 ≡ 0 → q / 2 ≡ a * x + y → z ≡ x * 2 → x ≡ y * 2 → q ≡ a * z + x
        twice a x y z e m u v = let w : a * z ≡ a * x * 2 = ap (λ k. a * k) u ∙ sym (mul_assoc a x 2) in omega arith
    go (suc r) e ih = record { high = q / 2; is = omega arith; less = omega arith }

pub lowest-le : {q p d : ℕ} → Lowest q p d → 2 ^ p ≤ q
lowest-le l = omega (arith, l.is)

pub lowest-shift : {q p : ℕ} → q < 4294967296 → Lowest q p 32 → 1 * 2 ^ p % 4294967296 ≡ 2 ^ p
lowest-shift {q} {p} m l = ap (λ z. z % 4294967296) (one-mul (2 ^ p)) ∙ mod-eq_of_lt (omega (arith, lowest-le l))

-- Without its lowest one a number has one term less.
pub terms-lowest : (f : Field) (j : ℕ) {q p : ℕ} → Lowest q p 32 → terms f q 32 j ≡ bit_xor (terms f (q - 2 ^ p) 32 j) (a^ f (j * p))
terms-lowest f j {q} {p} l =
    rw (width, l.is, rest)
    (terms-up f j l.high (2 ^ p) (suc p) (31 - p) less ∙ ap₂ bit_xor (sym (xor_zero_r top) ∙ ap (bit_xor top) (sym (terms-of-zero f j (suc p))) ∙ sym (terms-up f j l.high 0 (suc p) (31 - p) (pow_pos (suc p)))) single)
  where
    top : ℕ
    top = product f (terms f l.high (31 - p) j) (a^ f (suc p * j))

    width : 32 ≡ 31 - p + suc p
    width = omega (arith, l.less)

    less : 2 ^ p < 2 ^ suc p
    less = let e = pow-suc 2 p in let z = pow_pos p in omega arith

    rest : l.high * 2 ^ suc p + 2 ^ p - 2 ^ p ≡ l.high * 2 ^ suc p + 0
    rest = omega arith

    alone : 2 ^ p ≡ 1 * 2 ^ p + 0
    alone = omega arith

    one : bit (2 ^ p) p ≡ 1
    one = ap₂ bit alone (sym (add-zero p)) ∙ bit_high 1 p 0 (pow_pos p) ∙ bit-zero 1

    single : terms f (2 ^ p) (suc p) j ≡ a^ f (j * p)
    single =
        terms-one f j (2 ^ p) p one
        ∙ ap (λ z. bit_xor z (a^ f (j * p))) (terms-same f j (2 ^ p) 0 p (λ k m. ap (λ z. bit z k) alone ∙ bit-low 1 p k 0 m) ∙ terms-of-zero f j p)
        ∙ xor_zero_l (a^ f (j * p))

-- ---- digits of a register, two in each word

pub register-digit : (ws : List ℕ) → Words ws → (q : ℕ) → q < 2 * length ws
    → register ws / 2 ^ (32 * q) ≡ register ws / 2 ^ (32 * (q + 1)) * 2 ^ 32 + get_or ws (q / 2) 0 / 2 ^ (32 * (q % 2)) % 2 ^ 32
register-digit ws h q l =
    sym (split (register ws / 2 ^ (32 * q)) 32)
    ∙ ap₂ (λ a b. a * 2 ^ 32 + b) (shr-shr (register ws) (32 * q) 32 ∙ ap (λ k. register ws / 2 ^ k) above) same
  where
    above : 32 * q + 32 ≡ 32 * (q + 1)
    above = omega arith

    same : register ws / 2 ^ (32 * q) % 2 ^ 32 ≡ get_or ws (q / 2) 0 / 2 ^ (32 * (q % 2)) % 2 ^ 32
    same = bit-ext 32 _ _ (mod-lt _ (pow_pos 32)) (mod-lt _ (pow_pos 32)) (λ k m.
        let a : (32 * q + k) / 64 ≡ q / 2 = omega arith in
        let b : (32 * q + k) % 64 ≡ 32 * (q % 2) + k = omega arith in
        bit-mod (register ws / 2 ^ (32 * q)) 32 k m
        ∙ sym (bit-shift (register ws) (32 * q) k)
        ∙ register-bit ws h (32 * q + k) (omega arith)
        ∙ ap₂ (λ u v. bit (get_or ws u 0) v) a b
        ∙ bit-shift (get_or ws (q / 2) 0) (32 * (q % 2)) k
        ∙ sym (bit-mod (get_or ws (q / 2) 0 / 2 ^ (32 * (q % 2))) 32 k m))

-- ---- exponents that need no wrapping

longest-most : (f : Field) → 8191 ≤ longest f
unfolding longest
longest-most Thirteen = omega arith
longest-most Fourteen = omega arith

pub row-exponent : {t i p : ℕ} → t ≤ 62 → i < t → p < 32 → suc (i + i) * p < 8191
row-exponent {t} {i} {p} l m k = let b : suc (i + i) * p ≤ 123 * 31 = mul-le-mul {n₂ = 123} {m₂ = 31} (omega arith) (omega arith) in omega arith

pub raise-exponent : (f : Field) {t i : ℕ} → t ≤ 62 → i < t → 32 * suc (i + i) < longest f
raise-exponent f l m = omega (arith, longest-most f)

-- ---- a row

module _ (powers : List ℕ) (p : ℕ) where
  pub record Filling (s : List ℕ) (i e : ℕ) (v : List ℕ) : Type 0 where
    pub full : length v ≡ 2048
    pub at : (k : ℕ) → k < i → get_or v (64 * p + k) 0 ≡ get_or powers (suc (k + k) * p) 0
    pub before : (k : ℕ) → k < 64 * p → get_or v k 0 ≡ get_or s k 0
    pub next : e ≡ suc (i + i) * p

  pub filling-start : {s : List ℕ} → length s ≡ 2048 → Filling s 0 p s
  filling-start h = record { full = h; at = λ k l. absurd (omega arith); before = λ k l. refl; next = sym (one-mul p) }

  pub filling-next : {s v : List ℕ} (i e : ℕ) → i < 64 → p < 32 → Filling s i e v → Filling s (i + 1) (e + (p + p)) (set v (64 * p + i) (get_or powers e 0))
  filling-next {s} {v} i e m b h = record {
    full = simp length-set h.full;
    at = λ k n. go k n (dec_lt k i);
    before = λ k n. get_or-set_other v (64 * p + i) k x 0 (omega arith) ∙ h.before k n;
    next = ap (λ z. z + (p + p)) h.next ∙ grow;
  }
    where
      x : ℕ
      x = get_or powers e 0

      grow : suc (i + i) * p + (p + p) ≡ suc (i + 1 + (i + 1)) * p
      grow = let q : suc (i + 1 + (i + 1)) ≡ suc (i + i) + 2 = omega arith in rw (q, add-mul (suc (i + i)) 2 p) (omega arith)

      go : (k : ℕ) → k < i + 1 → Dec (k < i) → get_or (set v (64 * p + i) x) (64 * p + k) 0 ≡ get_or powers (suc (k + k) * p) 0
      go k n (yes q) = get_or-set_other v (64 * p + i) (64 * p + k) x 0 (omega arith) ∙ h.at k q
      go k n (no q) = let w : k ≡ i = omega arith in rw (w, get_or-set_same v (64 * p + i) x 0 (omega (arith, h.full))) (ap (λ z. get_or powers z 0) h.next)

  pub filling-end : {s v : List ℕ} {e : ℕ} (t : ℕ) → Filling s t e v → Rowed powers t p s v
  filling-end t h = record { full = h.full; at = h.at; before = h.before }

module _ (f : Field) (t : ℕ) where
  pub rows_next : {powers s v : List ℕ} (n : ℕ) → t ≤ 62 → n < 32 → Powers f powers → Rows f t n s → Rowed powers t n s v → Rows f t (n + 1) v
  rows_next {powers} {s} {v} n b c table h g = record { full = g.full; at = λ p i l m. go p i l m (dec_lt p n) }
    where
      go : (p i : ℕ) → p < n + 1 → i < t → Dec (p < n) → get_or v (64 * p + i) 0 ≡ a^ f (suc (i + i) * p)
      go p i l m (yes q) = g.before (64 * p + i) (omega arith) ∙ h.at p i q m
      go p i l m (no q) =
          let w : p ≡ n = omega arith in
          let e = row-exponent b m c in
          let z = longest-most f in
          rw w (g.at i m ∙ table.at (suc (i + i) * n) (omega arith))

module _ (t : ℕ) where
  pub filled-start : {powers s : List ℕ} → length s ≡ 2048 → Filled powers t 0 s
  filled-start h = record { full = h; made = λ f q. record { full = h; at = λ p i l m. absurd (omega arith) } }

  pub filled_next : {powers s v : List ℕ} (n : ℕ) → t ≤ 62 → n < 32 → Filled powers t n s → Rowed powers t n s v → Filled powers t (n + 1) v
  filled_next n b c h g = record { full = g.full; made = λ f q. rows_next f t n b c q (h.made f q) g }

-- fewer lanes
pub filled-fewer : {powers rows : List ℕ} {t u n : ℕ} → t ≤ u → Filled powers u n rows → Filled powers t n rows
filled-fewer l h = record { full = h.full; made = λ f q. record { full = h.full; at = λ p i m b. (h.made f q).at p i m (omega arith) } }

-- ---- a row added

pub record Adding (rows : List ℕ) (p : ℕ) (s : List ℕ) (i : ℕ) (v : List ℕ) : Type 0 where
  pub full : length v ≡ 64
  pub done : (k : ℕ) → k < i → get_or v k 0 ≡ bit_xor (get_or s k 0) (get_or rows (64 * p + k) 0)
  pub rest : (k : ℕ) → i ≤ k → get_or v k 0 ≡ get_or s k 0

pub adding-start : {rows s : List ℕ} {p : ℕ} → length s ≡ 64 → Adding rows p s 0 s
adding-start h = record { full = h; done = λ k l. absurd (omega arith); rest = λ k l. refl }

pub adding-next : {rows s v : List ℕ} {p : ℕ} (i : ℕ) → i < 64 → Adding rows p s i v → Adding rows p s (i + 1) (set v i (bit_xor (get_or v i 0) (get_or rows (64 * p + i) 0)))
adding-next {rows} {s} {v} {p} i l h = record {
  full = simp length-set h.full;
  done = λ k n. go k n (dec_lt k i);
  rest = λ k n. get_or-set_other v i k x 0 (omega arith) ∙ h.rest k (omega arith);
}
  where
    x : ℕ
    x = bit_xor (get_or v i 0) (get_or rows (64 * p + i) 0)

    go : (k : ℕ) → k < i + 1 → Dec (k < i) → get_or (set v i x) k 0 ≡ bit_xor (get_or s k 0) (get_or rows (64 * p + k) 0)
    go k n (yes q) = get_or-set_other v i k x 0 (omega arith) ∙ h.done k q
    go k n (no q) = let w : k ≡ i = omega arith in rw (w, get_or-set_same v i x 0 (omega (arith, h.full))) (ap (λ z. bit_xor z (get_or rows (64 * p + i) 0)) (h.rest i (omega arith)))

pub adding-end : {rows s v : List ℕ} {w p i : ℕ} → w ≤ i → Adding rows p s i v → Added w rows p s v
adding-end m h = record { full = h.full; lane = λ k l. h.done k (omega arith) }

-- ---- the ones of a word

pub record Scanning (w : ℕ) (rows : List ℕ) (x : ℕ) (s : List ℕ) (y : ℕ) (v : List ℕ) : Type 0 where
  pub full : length v ≡ 64
  pub lane : (f : Field) (t i : ℕ) → Rows f t 32 rows → t ≤ w → i < t
      → bit_xor (get_or v i 0) (terms f y 32 (suc (i + i))) ≡ bit_xor (get_or s i 0) (terms f x 32 (suc (i + i)))

pub scanning-start : {rows s : List ℕ} {w x : ℕ} → length s ≡ 64 → Scanning w rows x s x s
scanning-start h = record { full = h; lane = λ f t i r l m. refl }

pub scanning-next : {rows s v u : List ℕ} {w x y p : ℕ} → Lowest y p 32 → Scanning w rows x s y v → Added w rows p v u → Scanning w rows x s (y - 2 ^ p) u
scanning-next {rows} {s} {v} {u} {w} {x} {y} {p} low h g = record { full = g.full; lane = lane }
  where
    lane : (f : Field) (t i : ℕ) → Rows f t 32 rows → t ≤ w → i < t
        → bit_xor (get_or u i 0) (terms f (y - 2 ^ p) 32 (suc (i + i))) ≡ bit_xor (get_or s i 0) (terms f x 32 (suc (i + i)))
    lane f t i r l m =
        ap (λ z. bit_xor z (terms f (y - 2 ^ p) 32 (suc (i + i)))) (g.lane i (omega arith) ∙ ap (bit_xor (get_or v i 0)) (r.at p i low.less m))
        ∙ xor_assoc (get_or v i 0) (a^ f (suc (i + i) * p)) (terms f (y - 2 ^ p) 32 (suc (i + i)))
        ∙ ap (bit_xor (get_or v i 0)) (xor_comm (a^ f (suc (i + i) * p)) (terms f (y - 2 ^ p) 32 (suc (i + i))) ∙ sym (terms-lowest f (suc (i + i)) low))
        ∙ h.lane f t i r l m

pub scanning-end : {rows s v : List ℕ} {w x y : ℕ} → y ≡ 0 → Scanning w rows x s y v → Scanned w rows x s v
scanning-end {rows} {s} {v} {w} {x} {y} e h = record {
  full = h.full;
  lane = λ f t i r l m. sym (xor_zero_r _) ∙ ap (bit_xor (get_or v i 0)) (sym (terms-of-zero f (suc (i + i)) 32) ∙ ap (λ z. terms f z 32 (suc (i + i))) (sym e)) ∙ h.lane f t i r l m;
}

-- fewer lanes
pub scanned-fewer : {rows s v : List ℕ} {t w x : ℕ} → t ≤ w → Scanned w rows x s v → Scanned t rows x s v
scanned-fewer l h = record { full = h.full; lane = λ f u i r m b. h.lane f u i r (omega arith) b }

-- ---- lanes multiplied

module _ (f : Field) where
  pub record Raising (s : List ℕ) (i e : ℕ) (v : List ℕ) : Type 0 where
    pub full : length v ≡ 64
    pub done : (k : ℕ) → k < i → get_or v k 0 ≡ mul (degree f) (modulus f) (get_or s k 0) (a^ f (32 * suc (k + k)))
    pub rest : (k : ℕ) → i ≤ k → get_or v k 0 ≡ get_or s k 0
    pub next : e ≡ 32 * suc (i + i)

  pub raising-start : {s : List ℕ} → length s ≡ 64 → Raising s 0 32 s
  raising-start h = record { full = h; done = λ k l. absurd (omega arith); rest = λ k l. refl; next = refl }

  pub raising-next : {s v : List ℕ} (i e x : ℕ) → i < 64 → Raising s i e v → Elem (degree f) (mul (degree f) (modulus f) (get_or v i 0) (a^ f e)) x
      → Raising s (i + 1) (e + 64) (set v i x)
  raising-next {s} {v} i e x l h w = record {
    full = simp length-set h.full;
    done = λ k n. go k n (dec_lt k i);
    rest = λ k n. get_or-set_other v i k x 0 (omega arith) ∙ h.rest k (omega arith);
    next = omega (arith, h.next);
  }
    where
      go : (k : ℕ) → k < i + 1 → Dec (k < i) → get_or (set v i x) k 0 ≡ mul (degree f) (modulus f) (get_or s k 0) (a^ f (32 * suc (k + k)))
      go k n (yes q) = get_or-set_other v i k x 0 (omega arith) ∙ h.done k q
      go k n (no q) =
          let c : k ≡ i = omega arith in
          rw (c, get_or-set_same v i x 0 (omega (arith, h.full))) (w.value ∙ ap₂ (λ a b. mul (degree f) (modulus f) a (a^ f b)) (h.rest i (omega arith)) h.next)

  pub raising-end : {s v : List ℕ} {e : ℕ} (t : ℕ) → Raising s t e v → Raised f t s v
  raising-end t h = record { full = h.full; lane = h.done }

  -- ---- the words of a register, the highest first

  module _ (t : ℕ) where
    pub lanes_start : (x : ℕ) → Lanes f t x 0 (replicate 64 0)
    lanes_start x = record { full = length-replicate {A = ℕ} 64 0; lane = λ i l. zeros-at 64 i ∙ sym (terms-none f (suc (i + i)) x) }

    pub lanes-below : {x n : ℕ} {v : List ℕ} → Lanes f t x n v → (i : ℕ) → i < t → get_or v i 0 < 2 ^ degree f
    lanes-below {x} {n} h i l = rw (h.lane i l) (terms-below f (suc (i + i)) x n)

    pub lanes_next : {rows v u z : List ℕ} {x y n w : ℕ} → Rows f t 32 rows → w < 2 ^ 32 → y ≡ x * 2 ^ 32 + w
        → Lanes f t x n v → Raised f t v u → Scanned t rows w u z → Lanes f t y (n + 32) z
    lanes_next {rows} {v} {u} {z} {x} {y} {n} {w} r m e h g k = record {
      full = k.full;
      lane = λ i b.
          k.lane f t i r (omega arith) b
          ∙ ap (λ c. bit_xor c (terms f w 32 (suc (i + i)))) (g.lane i b ∙ ap (λ c. mul (degree f) (modulus f) c (a^ f (32 * suc (i + i)))) (h.lane i b))
          ∙ sym (terms-up f (suc (i + i)) x w 32 n m)
          ∙ ap (λ c. terms f c (n + 32) (suc (i + i))) (sym e);
    }

    pub lanes_end : {x d n : ℕ} {v : List ℕ} → x < 2 ^ d → d ≤ n → Lanes f t x n v → Lanes f t x d v
    lanes_end {x} {d} {n} l m h = record {
      full = h.full;
      lane = λ i b. h.lane i b ∙ (let e : n ≡ n - d + d = omega arith in ap (λ c. terms f x c (suc (i + i))) e) ∙ terms-more f (suc (i + i)) x d (n - d) l;
    }

    pub lanes-digit : {rows v u z : List ℕ} (ws : List ℕ) (n i : ℕ) → Words ws → i < n → n ≤ 2 * length ws → Rows f t 32 rows
        → Lanes f t (register ws / 2 ^ (32 * (n - i))) (32 * i) v → Raised f t v u
        → Scanned t rows (get_or ws ((n - 1 - i) / 2) 0 / 2 ^ (32 * ((n - 1 - i) % 2)) % 2 ^ 32) u z
        → Lanes f t (register ws / 2 ^ (32 * (n - (i + 1)))) (32 * (i + 1)) z
    lanes-digit ws n i h l m r lanes raised scanned =
        let p : n - (i + 1) ≡ n - 1 - i = omega arith in
        let q : n - i ≡ n - 1 - i + 1 = omega arith in
        let w : 32 * (i + 1) ≡ 32 * i + 32 = omega arith in
        rw (p, w) (lanes_next r (mod-lt _ (pow_pos 32)) (register-digit ws h (n - 1 - i) (omega arith)) (rw q at lanes) raised scanned)

    pub lanes-done : {v : List ℕ} (ws : List ℕ) (n i d : ℕ) → i ≡ n → register ws < 2 ^ d → d ≤ 32 * n
        → Lanes f t (register ws / 2 ^ (32 * (n - i))) (32 * i) v → Lanes f t (register ws) d v
    lanes-done {v} ws n i d e l m h = lanes_end l (omega arith) (subst (λ x. Lanes f t x (32 * i) v) all h)
      where
        none : 32 * (n - i) ≡ 0
        none = omega arith

        all : register ws / 2 ^ (32 * (n - i)) ≡ register ws
        all = ap (λ k. register ws / 2 ^ k) none ∙ div-one (register ws)

-- ---- tables for fewer lanes

pub decoding-fewer : (f : Field) (t u : ℕ) {powers logs rows : List ℕ} → u ≤ t → Decoding f t powers logs rows → Decoding f u powers logs rows
decoding-fewer f t u l d = record { tables = d.tables; lanes = record { full = d.lanes.full; at = λ p i k m. d.lanes.at p i k (omega arith) } }

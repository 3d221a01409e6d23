-- The step rule of a table of logarithms: that of a x is one more than that of x. Tested once over the table, then known at each power of a.
-- Once over m. With h = 2^(m - 1) and the modulus 2^m + 2c + 1, a x is 2x for x below h, and 2(i + c) + 1 for x = h + i, where i + c is a sum of
-- elements. So the entries at even places follow from the first half of the table, and those at odd places from the second half, crosswise.
use mathlib.Core.Path.{◌≡◌, refl, sym, ap, ap₂, ◌∙◌, subst}
use mathlib.Core.Bool.{Bool, true, false, not}
use mathlib.Core.List.{List, [], ◌∷◌}
use mathlib.Core.Logic.{◌≢◌}
use Prim.Native.Nat.{ℕ, zero, suc, ◌+◌, ◌-◌, ◌*◌, ◌/◌, ◌%◌, ◌^◌, ◌≤◌, ◌<◌}
use native.Mathlib.Nat.{le_of_suc-le-suc, pos_of_ne-zero, add-zero, div-add-mod', pow-suc}
use native.Mathlib.Numerals.{add-one}
use native.Mathlib.Omega.{arith}
use lib.Arith.{lt-one}
use lib.Bits.{bit_xor, differ, xor_step, xor_zero_r, xor_comm}
use lib.Dec.{T, eqb, ltb, eqb→eq, ltb→lt, nltb→le}
use lib.ListN.{length, get_or, drop, set, length-set}
use lib.Seq.{get_or-set_other, get_or-drop}
use Rattle.field.specs.Field.{mul_x, pow}
use Rattle.field.proofs.Test.{both, both_left, both_right}
use Rattle.field.proofs.Xor.{Bit, mod2, differ-bit}
use Rattle.field.proofs.Multiply.{mul-two, mul_x-below}
use Rattle.field.proofs.Fast.{fast_x, reduce, fast_x-mul_x}
use Rattle.field.proofs.Order.{Primitive, a^-below, a^-positive}

-- ---- the entries at even and at odd places

unfoldable pub evens : List ℕ → List ℕ
evens [] = []
evens (x ∷ []) = x ∷ []
evens (x ∷ y ∷ l) = x ∷ evens l

unfoldable pub odds : List ℕ → List ℕ
odds [] = []
odds (x ∷ l) = evens l

-- the entries at the places of the digit b
unfoldable pub half : ℕ → List ℕ → List ℕ
half zero l = evens l
half (suc b) l = odds l

-- the doubled number, as places count
twice : (i : ℕ) → suc i * 2 ≡ suc (suc (i * 2))
twice i = omega arith

evens_at : (l : List ℕ) (i : ℕ) → get_or (evens l) i 0 ≡ get_or l (i * 2) 0
unfolding evens
evens_at [] i = refl
evens_at (x ∷ []) zero = refl
evens_at (x ∷ []) (suc i) = sym (ap (λ (n : ℕ). get_or (x ∷ []) n 0) (twice i))
evens_at (x ∷ y ∷ l) zero = refl
evens_at (x ∷ y ∷ l) (suc i) = evens_at l i ∙ sym (ap (λ (n : ℕ). get_or (x ∷ y ∷ l) n 0) (twice i))

evens-inside : (l : List ℕ) (i : ℕ) → i * 2 < length l → i < length (evens l)
unfolding evens
evens-inside [] i h = absurd (omega arith)
evens-inside (x ∷ []) zero h = omega arith
evens-inside (x ∷ []) (suc i) h = absurd (omega arith)
evens-inside (x ∷ y ∷ l) zero h = omega arith
evens-inside (x ∷ y ∷ l) (suc i) h = let r : i < length (evens l) = evens-inside l i (omega arith) in omega arith

pub half_at : (b : ℕ) → Bit b → (l : List ℕ) (i : ℕ) → get_or (half b l) i 0 ≡ get_or l (i * 2 + b) 0
unfolding half odds
half_at zero h l i = evens_at l i ∙ ap (λ (n : ℕ). get_or l n 0) (sym (add-zero (i * 2)))
half_at (suc zero) h [] i = refl
half_at (suc zero) h (x ∷ l) i = evens_at l i ∙ ap (λ (n : ℕ). get_or (x ∷ l) n 0) (sym (add-one (i * 2)))
half_at (suc (suc b)) h l i = absurd (omega arith)

pub half-inside : (b : ℕ) → Bit b → (l : List ℕ) (i : ℕ) → i * 2 + b < length l → i < length (half b l)
unfolding half odds
half-inside zero h l i k = evens-inside l i (omega arith)
half-inside (suc zero) h [] i k = absurd (omega arith)
half-inside (suc zero) h (x ∷ l) i k = evens-inside l i (omega arith)
half-inside (suc (suc b)) h l i k = absurd (omega arith)

-- ---- one more

-- each entry of xs is one more than the entry of ys at the same place
unfoldable pub successors : List ℕ → List ℕ → Bool
successors [] ys = true
successors (x ∷ xs) [] = false
successors (x ∷ xs) (y ∷ ys) = both (eqb x (suc y)) (successors xs ys)

pub successors-at : (xs ys : List ℕ) → T (successors xs ys) → (i : ℕ) → i < length xs → get_or xs i 0 ≡ suc (get_or ys i 0)
unfolding successors
successors-at [] ys t i h = absurd (omega arith)
successors-at (x ∷ xs) [] t i h = absurd t
successors-at (x ∷ xs) (y ∷ ys) t zero h = eqb→eq x (suc y) (both_left (eqb x (suc y)) (successors xs ys) t)
successors-at (x ∷ xs) (y ∷ ys) t (suc i) h = successors-at xs ys (both_right (eqb x (suc y)) (successors xs ys) t) i (le_of_suc-le-suc h)

-- the same, where the place of xs is the sum of c and the place of ys, for c of n digits
unfoldable pub crossed : ℕ → ℕ → List ℕ → List ℕ → Bool
crossed zero c xs ys = successors xs ys
crossed (suc n) c xs ys =
    both (crossed n (c / 2) (half (differ 0 (c % 2)) xs) (half 0 ys))
    (crossed n (c / 2) (half (differ 1 (c % 2)) xs) (half 1 ys))

-- that test at the places of ys that end in the digit b
abbrev ending : ℕ → ℕ → List ℕ → List ℕ → ℕ → Bool
ending n c xs ys b = crossed n (c / 2) (half (differ b (c % 2)) xs) (half b ys)

crossed-ending : (n c : ℕ) (xs ys : List ℕ) → T (crossed (suc n) c xs ys) → (b : ℕ) → Bit b → T (ending n c xs ys b)
unfolding crossed
crossed-ending n c xs ys t zero h = both_left (ending n c xs ys 0) (ending n c xs ys 1) t
crossed-ending n c xs ys t (suc zero) h = both_right (ending n c xs ys 0) (ending n c xs ys 1) t
crossed-ending n c xs ys t (suc (suc b)) h = absurd (omega arith)

pub crossed-at : (n c : ℕ) → c < 2 ^ n → (xs ys : List ℕ) → T (crossed n c xs ys) → (j : ℕ) → bit_xor j c < length xs
    → get_or xs (bit_xor j c) 0 ≡ suc (get_or ys j 0)
unfolding crossed
crossed-at zero c h xs ys t j k =
    let e : bit_xor j c ≡ j = ap (bit_xor j) (lt-one h) ∙ xor_zero_r j in
    ap (λ (i : ℕ). get_or xs i 0) e ∙ successors-at xs ys t j (subst (λ (i : ℕ). i < length xs) e k)
crossed-at (suc n) c h xs ys t j k =
    let bit : Bit (differ (j % 2) (c % 2)) = differ-bit (j % 2) (c % 2) (mod2 j) (mod2 c) in
    ap (λ (i : ℕ). get_or xs i 0) (xor_step j c)
    ∙ sym (half_at (differ (j % 2) (c % 2)) bit xs (bit_xor (j / 2) (c / 2)))
    ∙ crossed-at n (c / 2) (omega (arith, pow-suc 2 n)) (half (differ (j % 2) (c % 2)) xs) (half (j % 2) ys)
    (crossed-ending n c xs ys t (j % 2) (mod2 j)) (j / 2)
    (half-inside (differ (j % 2) (c % 2)) bit xs (bit_xor (j / 2) (c / 2)) (subst (λ (i : ℕ). i < length xs) (xor_step j c) k))
    ∙ ap suc (half_at (j % 2) (mod2 j) ys (j / 2) ∙ ap (λ (i : ℕ). get_or ys i 0) (div-add-mod' j 2))

-- ---- the rule

reduced : (c i : ℕ) → bit_xor (c * 2 + 1) (i * 2) ≡ bit_xor i c * 2 + 1
reduced c i =
    let c-half : (c * 2 + 1) / 2 ≡ c = omega arith in
    let i-half : i * 2 / 2 ≡ i = omega arith in
    let c-digit : (c * 2 + 1) % 2 ≡ 1 = omega arith in
    let i-digit : i * 2 % 2 ≡ 0 = omega arith in
    xor_step (c * 2 + 1) (i * 2)
    ∙ ap₂ (λ (a b : ℕ). a * 2 + b) (ap₂ bit_xor c-half i-half ∙ xor_comm c i) (ap₂ differ c-digit i-digit)

-- with N = 2^m - 1; the entries at 0 and at 1 are 0, and need not follow from any other
unfoldable pub stepped : ℕ → ℕ → ℕ → ℕ → List ℕ → Bool
stepped h N n c l =
    both (eqb (get_or l 0 0) 0)
    (both (eqb (get_or l 1 0) 0) (both (successors (set (half 0 l) 0 1) l) (crossed n c (set (half 1 l) 0 N) (drop h l))))

module _ (m h N n c : ℕ) (p : Primitive m (2 ^ m + (c * 2 + 1)) N) (twice-h : h * 2 ≡ 2 ^ m) (small : c < 2 ^ n) (low : c * 2 + 1 < 2 ^ m)
    (l : List ℕ) (size : length l ≡ 2 ^ m) (t : T (stepped h N n c l)) where
  abbrev P : ℕ
  P = 2 ^ m + (c * 2 + 1)

  abbrev firsts : Bool
  firsts = successors (set (half 0 l) 0 1) l

  abbrev seconds : Bool
  seconds = crossed n c (set (half 1 l) 0 N) (drop h l)

  pub stepped-zero : get_or l 0 0 ≡ 0
  unfolding stepped
  stepped-zero = eqb→eq (get_or l 0 0) 0 (both_left (eqb (get_or l 0 0) 0) (both (eqb (get_or l 1 0) 0) (both firsts seconds)) t)

  rest : T (both (eqb (get_or l 1 0) 0) (both firsts seconds))
  unfolding stepped
  rest = both_right (eqb (get_or l 0 0) 0) (both (eqb (get_or l 1 0) 0) (both firsts seconds)) t

  at_one : get_or l 1 0 ≡ 0
  at_one = eqb→eq (get_or l 1 0) 0 (both_left (eqb (get_or l 1 0) 0) (both firsts seconds) rest)

  halves : T (both firsts seconds)
  halves = both_right (eqb (get_or l 1 0) 0) (both firsts seconds) rest

  -- an element that is doubled
  even_step : (x : ℕ) → zero < x → x * 2 < 2 ^ m → get_or l (x * 2) 0 ≡ suc (get_or l x 0)
  even_step x p k =
      ap (λ (i : ℕ). get_or l i 0) (sym (add-zero (x * 2)))
      ∙ sym (half_at 0 (omega arith) l x)
      ∙ sym (get_or-set_other (half 0 l) 0 x 1 0 (λ e. omega (arith, e)))
      ∙ successors-at (set (half 0 l) 0 1) l (both_left firsts seconds halves) x
      (subst (λ (i : ℕ). x < i) (sym (length-set (half 0 l) 0 1)) (half-inside 0 (omega arith) l x (omega (arith, size))))

  -- one that is reduced
  odd_step : (i : ℕ) → zero < bit_xor i c → bit_xor i c * 2 + 1 < 2 ^ m → get_or l (bit_xor i c * 2 + 1) 0 ≡ suc (get_or l (h + i) 0)
  odd_step i p k =
      sym (half_at 1 (omega arith) l (bit_xor i c))
      ∙ sym (get_or-set_other (half 1 l) 0 (bit_xor i c) N 0 (λ e. omega (arith, e)))
      ∙ crossed-at n c small (set (half 1 l) 0 N) (drop h l) (both_right firsts seconds halves) i
      (subst (λ (j : ℕ). bit_xor i c < j) (sym (length-set (half 1 l) 0 N)) (half-inside 1 (omega arith) l (bit_xor i c) (omega (arith, size))))
      ∙ ap suc (get_or-drop h l i 0)

  next : (x : ℕ) → zero < x → x < 2 ^ m → mul_x m P x ≢ 1 → get_or l (mul_x m P x) 0 ≡ suc (get_or l x 0)
  unfolding fast_x reduce
  next x px hx fresh = go (ltb (x * 2) (2 ^ m)) refl
    where
      goes : (y : ℕ) → mul_x m P x ≡ y → get_or l y 0 ≡ suc (get_or l x 0) → get_or l (mul_x m P x) 0 ≡ suc (get_or l x 0)
      goes y e r = ap (λ (j : ℕ). get_or l j 0) e ∙ r

      fast : (b : Bool) → ltb (x * 2) (2 ^ m) ≡ b → mul_x m P x ≡ reduce b (c * 2 + 1) (2 ^ m) (x * 2)
      fast b e = subst (λ (a : Bool). mul_x m P x ≡ reduce a (c * 2 + 1) (2 ^ m) (x * 2)) e (sym (fast_x-mul_x m (c * 2 + 1) low x hx))

      go : (b : Bool) → ltb (x * 2) (2 ^ m) ≡ b → get_or l (mul_x m P x) 0 ≡ suc (get_or l x 0)
      go true e = goes (x * 2) (fast true e) (even_step x px (ltb→lt (x * 2) (2 ^ m) (subst (λ (a : Bool). T a) (sym e) tt)))
      go false e =
          let over : 2 ^ m ≤ x * 2 = nltb→le (x * 2) (2 ^ m) (subst (λ (a : Bool). T (not a)) (sym e) tt) in
          let i : ℕ = x - h in
          let double : x * 2 - 2 ^ m ≡ i * 2 = omega arith in
          let to : mul_x m P x ≡ bit_xor i c * 2 + 1 = fast false e ∙ ap (bit_xor (c * 2 + 1)) double ∙ reduced c i in
          let inside : bit_xor i c * 2 + 1 < 2 ^ m = subst (λ (j : ℕ). j < 2 ^ m) to (mul_x-below p.usable x hx) in
          goes (bit_xor i c * 2 + 1) to
          (odd_step i (pos_of_ne-zero (λ z. fresh (to ∙ ap (λ (j : ℕ). j * 2 + 1) z))) inside
          ∙ ap (λ (j : ℕ). suc (get_or l j 0)) (omega arith))

  pub stepped-power : (k : ℕ) → k < N → get_or l (pow m P 2 k) 0 ≡ k
  unfolding pow
  stepped-power zero b = at_one
  stepped-power (suc k) b =
      let two : pow m P 2 (suc k) ≡ mul_x m P (pow m P 2 k) = mul-two p.usable (pow m P 2 k) (a^-below p k) in
      ap (λ (x : ℕ). get_or l x 0) two
      ∙ next (pow m P 2 k) (a^-positive p k) (a^-below p k) (λ e. p.fresh (suc k) (omega arith) b (two ∙ e))
      ∙ ap suc (stepped-power k (omega arith))

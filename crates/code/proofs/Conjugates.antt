-- The exponents of the conjugates of a, a^3, ..: j, 2j, 4j, .. modulo 2^m - 1 for each odd j. That they differ is a computed test:
-- each sets a bit of a number, and none is met that is set already.
--
-- exponent f i      the exponent number i, (2 (i / m) + 1) 2^(i mod m)
-- fresh n l         the numbers of the list l differ from each other and from the bits that n has
-- differing g n     g 0, .., g (n - 1) differ
use mathlib.Core.Path.{◌≡◌, sym, ap, ◌∙◌}
use mathlib.Core.Bool.{Bool, true, ◌&&◌}
use mathlib.Core.List.{List, [], ◌∷◌}
use Prim.Native.Nat.{ℕ, zero, suc, ◌+◌, ◌-◌, ◌*◌, ◌/◌, ◌%◌, ◌^◌, ◌<◌}
use native.Mathlib.Omega.{arith}
use native.Mathlib.Nat.{add-zero, div-add-mod', mod-lt, one-mul, add-mul}
use native.Mathlib.Decide.{dec_lt}
use lib.Pow.{pow_pos}
use lib.ListN.{length, get_or}
use lib.Dec.{T, eqb, eqb→eq}
use Rattle.bits.specs.Bits.{bit, run}
use Rattle.bits.proofs.Numbers.{bit-zero, bit-low, bit_high, bit-shift, bit-mod}
use Rattle.bits.proofs.Runs.{run_length, run_at}
use Rattle.field.specs.declared.Field.{Field}
use Rattle.field.specs.Field.{degree, longest}
use Rattle.code.proofs.Test.{and_left, and_right}

unfoldable pub exponent : Field → ℕ → ℕ
exponent f i = (2 * (i / degree f) + 1) * 2 ^ (i % degree f) % longest f

unfoldable pub fresh : ℕ → List ℕ → Bool
fresh n [] = true
fresh n (x ∷ l) = eqb (bit n x) 0 && fresh (n + 2 ^ x) l

unfoldable pub differing : (ℕ → ℕ) → ℕ → Bool
differing g n = fresh 0 (run g 0 n)

module _ (n x : ℕ) (clear : bit n x ≡ 0) where
  split : n + 2 ^ x ≡ (n / 2 ^ x + 1) * 2 ^ x + n % 2 ^ x
  split = let e = div-add-mod' n (2 ^ x) in rw (add-mul (n / 2 ^ x) 1 (2 ^ x), one-mul (2 ^ x)) (omega arith)

  even : n / 2 ^ x % 2 ≡ 0
  unfolding bit
  even = clear

  low : n % 2 ^ x < 2 ^ x
  low = mod-lt n (pow_pos x)

  -- A clear bit x is set by adding 2^x, and the bits that were set stay so.
  set_new : bit (n + 2 ^ x) x ≡ 1
  set_new =
      rw split (ap (bit ((n / 2 ^ x + 1) * 2 ^ x + n % 2 ^ x)) (sym (add-zero x)) ∙ bit_high (n / 2 ^ x + 1) x 0 low ∙ bit-zero (n / 2 ^ x + 1) ∙ (let e = even in omega arith))

  set-old : (p : ℕ) → bit n p ≡ 1 → bit (n + 2 ^ x) p ≡ 1
  set-old p h = go (dec_lt p x) (dec_lt x p)
    where
      above : (i : ℕ) → p ≡ x + (1 + i) → bit (n + 2 ^ x) p ≡ 1
      above i e =
          let same : (n / 2 ^ x + 1) / 2 ^ 1 ≡ n / 2 ^ x / 2 ^ 1 = (let e = even in omega arith) in
          rw (split, e) (bit_high (n / 2 ^ x + 1) x (1 + i) low ∙ bit-shift (n / 2 ^ x + 1) 1 i ∙ rw same (sym (bit-shift (n / 2 ^ x) 1 i) ∙ sym (bit-shift n x (1 + i)) ∙ (rw e at h)))

      go : Dec (p < x) → Dec (x < p) → bit (n + 2 ^ x) p ≡ 1
      go (yes l) d = rw split (bit-low (n / 2 ^ x + 1) x p (n % 2 ^ x) l ∙ bit-mod n x p l ∙ h)
      go (no l) (yes m) = above (p - suc x) (omega arith)
      go (no l) (no m) = let e : p ≡ x = omega arith in let k : bit n x ≡ 1 = rw e at h in absurd (omega arith)

fresh-new : (n : ℕ) (l : List ℕ) → T (fresh n l) → (i d : ℕ) → i < length l → bit n (get_or l i d) ≡ 1 → ⊥
unfolding fresh
fresh-new n [] t i d h e = omega arith
fresh-new n (x ∷ l) t zero d h e = let c : bit n x ≡ 0 = eqb→eq _ _ (and_left (eqb (bit n x) 0) (fresh (n + 2 ^ x) l) t) in omega arith
fresh-new n (x ∷ l) t (suc i) d h e =
    fresh-new (n + 2 ^ x) l (and_right (eqb (bit n x) 0) (fresh (n + 2 ^ x) l) t) i d (omega arith)
    (set-old n x (eqb→eq _ _ (and_left (eqb (bit n x) 0) (fresh (n + 2 ^ x) l) t)) (get_or l i d) e)

fresh-differ : (n : ℕ) (l : List ℕ) → T (fresh n l) → (i j d : ℕ) → i < j → j < length l → get_or l i d ≡ get_or l j d → ⊥
unfolding fresh
fresh-differ n [] t i j d h k e = omega arith
fresh-differ n (x ∷ l) t i zero d h k e = omega arith
fresh-differ n (x ∷ l) t zero (suc j) d h k e =
    fresh-new (n + 2 ^ x) l (and_right (eqb (bit n x) 0) (fresh (n + 2 ^ x) l) t) j d (omega arith)
    (rw (← e) (set_new n x (eqb→eq _ _ (and_left (eqb (bit n x) 0) (fresh (n + 2 ^ x) l) t))))
fresh-differ n (x ∷ l) t (suc i) (suc j) d h k e =
    fresh-differ (n + 2 ^ x) l (and_right (eqb (bit n x) 0) (fresh (n + 2 ^ x) l) t) i j d (omega arith) (omega arith) e

pub differing-differ : (g : ℕ → ℕ) (n : ℕ) → T (differing g n) → (i j : ℕ) → i < j → j < n → g i ≡ g j → ⊥
unfolding differing
differing-differ g n t i j h k e = fresh-differ 0 (run g 0 n) t i j 0 h (omega (arith, run_length g 0 n)) (each i (omega arith) ∙ e ∙ sym (each j k))
  where
    each : (i : ℕ) → i < n → get_or (run g 0 n) i 0 ≡ g i
    each i l = run_at g 0 n i 0 l ∙ (let z : 0 + i ≡ i = omega arith in rw z)

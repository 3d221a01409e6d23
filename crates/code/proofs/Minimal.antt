-- The minimal polynomials are tested together: the value of each at its a^j is a sum of powers of a, which stand in one list.
--
-- Minimal f j x         x has degree m, and a^j as a zero
-- times_a f x            a times an element, as the checker computes it fast
-- stepped s n x         x, s x, .., n numbers
-- strided j k x l       the sum of the entries 0, j, 2j, .. of l for which the digits 0, 1, 2, .. of x are ones, for k digits
-- all_minimal f n l i xs    the numbers xs have a^(i + 1), a^(i + 3), .. as zeros, by the n first powers of a in l
use mathlib.Core.Path.{◌≡◌, refl, sym, ap, ap₂, ◌∙◌}
use mathlib.Core.Bool.{Bool, true, false, ◌&&◌}
use mathlib.Core.List.{List, [], ◌∷◌}
use Prim.Native.Nat.{ℕ, zero, suc, ◌+◌, ◌-◌, ◌*◌, ◌/◌, ◌%◌, ◌^◌, ◌≤◌, ◌<◌}
use native.Mathlib.Omega.{arith}
use native.Mathlib.Nat.{add-zero, zero-add, add_assoc, zero-mul, one-mul, mul-suc}
use lib.ListN.{length, get_or, drop}
use lib.Seq.{get_or-drop}
use lib.Dec.{T, eqb, eqb→eq, leb, leb→le, lit<}
use lib.Bits.{bit_xor}
use Rattle.bits.specs.Bits.{digit}
use Rattle.field.specs.declared.Field.{Field}
use Rattle.field.specs.declared.Field.TheVariants.{Thirteen, Fourteen}
use Rattle.field.specs.Field.{degree, modulus, a^, mul_x}
use Rattle.field.proofs.Multiply.{shifted, shifted-inside, mul_x-below, one_below}
use Rattle.field.proofs.Exponents.{pow-shifted}
use Rattle.field.proofs.Fast.{fast_x, fast_x-mul_x}
use Rattle.field.proofs.Primitive.{usable}
use Rattle.field.proofs.Instance.{gf, a, el, el-same, el-nil, el-add, el-pow}
use Rattle.algebra.specs.Polynomial.{pow}
use Rattle.algebra.specs.Word as word
use Rattle.algebra.proofs.Field.{ring, mul-nil, one-mul as one-mul-of}
use Rattle.algebra.proofs.Polynomial.{pow-add}
use Rattle.code.proofs.Test.{and_left, and_right}
use Rattle.code.proofs.Polynomial.{value_at, value_at-none, value_at-digit}

pub record Minimal (f : Field) (j x : ℕ) : Type 0 where
  pub monic : x / 2 ^ degree f ≡ 1
  pub zero : value_at (gf f) (suc (degree f)) x (pow (gf f) (a f) j) ≡ (gf f).nil

-- ---- the powers of a in a list

unfoldable pub times_a : Field → ℕ → ℕ
times_a Thirteen x = fast_x 0x1b 0x2000 x
times_a Fourteen x = fast_x 0x2b 0x4000 x

unfoldable pub stepped : (ℕ → ℕ) → ℕ → ℕ → List ℕ
stepped s zero x = []
stepped s (suc n) x = x ∷ stepped s n (s x)

-- the first n entries of a list are a^s, a^(s + 1), ..
record From (f : Field) (s n : ℕ) (l : List ℕ) : Type 0 where
  at : (i : ℕ) → i < n → get_or l i 0 ≡ a^ f (s + i)

times_a-mul_x : (f : Field) (x : ℕ) → x < 2 ^ degree f → times_a f x ≡ mul_x (degree f) (modulus f) x
unfolding times_a degree modulus
times_a-mul_x Thirteen x h = fast_x-mul_x 13 0x1b (lit< tt) x h
times_a-mul_x Fourteen x h = fast_x-mul_x 14 0x2b (lit< tt) x h

stepped-at : (f : Field) (n i x : ℕ) → x < 2 ^ degree f → i < n → get_or (stepped (times_a f) n x) i 0 ≡ shifted (degree f) (modulus f) i x
unfolding stepped shifted
stepped-at f zero i x h l = absurd (omega arith)
stepped-at f (suc n) zero x h l = refl
stepped-at f (suc n) (suc i) x h l =
    let e = times_a-mul_x f x h in
    rw e (stepped-at f n i (mul_x (degree f) (modulus f) x) (mul_x-below (usable f) x h) (omega arith)) ∙ shifted-inside (degree f) (modulus f) i x

stepped-from : (f : Field) (n : ℕ) → From f 0 n (stepped (times_a f) n 1)
stepped-from f n = record {
  at = λ i l. stepped-at f n i 1 (one_below (usable f)) l ∙ sym (pow-shifted (usable f) i) ∙ ap (a^ f) (sym (zero-add i));
}

-- ---- a value is a sum of entries

unfoldable pub strided : ℕ → ℕ → ℕ → List ℕ → ℕ
strided j zero x l = 0
strided j (suc k) x l = bit_xor (x % 2 * get_or l 0 0) (strided j k (x / 2) (drop j l))

module _ (f : Field) (j : ℕ) where
  abbrev y : (gf f).carrier
  y = pow (gf f) (a f) (suc j)

  from_next : (s n : ℕ) (l : List ℕ) → suc j ≤ n → From f s n l → From f (s + suc j) (n - suc j) (drop (suc j) l)
  from_next s n l h p = record {
    at = λ i k. get_or-drop (suc j) l i 0 ∙ p.at (suc j + i) (omega arith) ∙ ap (a^ f) (sym (add_assoc s (suc j) i));
  }

  -- one digit, times a^s
  first : (b : Bool) (s u x : ℕ) → x % 2 ≡ digit b → u ≡ a^ f s → x % 2 * u ≡ el f ((gf f).mul (pow (gf f) (a f) s) (word.bit (gf f) b))
  unfolding digit word.bit
  first true s u x e h = rw (e, h, one-mul (a^ f s)) (sym (ap (el f) ((gf f).mul-one _) ∙ el-pow f s))
  first false s u x e h = rw (e, zero-mul u) (sym (ap (el f) (mul-nil (gf f) _) ∙ el-nil f))

  taken_out : (p q u v : (gf f).carrier) → (gf f).add ((gf f).mul p u) ((gf f).mul ((gf f).mul p q) v) ≡ (gf f).mul p ((gf f).add u ((gf f).mul q v))
  taken_out p q u v = simp ring

  strided-value : (k x s n : ℕ) (l : List ℕ) → From f s n l → suc j * k ≤ n → strided (suc j) k x l ≡ el f ((gf f).mul (pow (gf f) (a f) s) (value_at (gf f) k x y))
  unfolding strided
  strided-value zero x s n l p h = sym (ap (λ v. el f ((gf f).mul (pow (gf f) (a f) s) v)) (value_at-none (gf f) x y) ∙ ap (el f) (mul-nil (gf f) _) ∙ el-nil f)
  strided-value (suc k) x s n l p h =
      go (strided-value k (x / 2) (s + suc j) (n - suc j) (drop (suc j) l) (from_next s n l (omega (arith, m)) p) (omega (arith, m))) (x % 2) refl
    where
      m : suc j * suc k ≡ suc j * k + suc j
      m = mul-suc (suc j) k

      start : get_or l 0 0 ≡ a^ f s
      start = p.at 0 (omega (arith, m)) ∙ ap (a^ f) (add-zero s)

      upper : (gf f).carrier
      upper = value_at (gf f) k (x / 2) y

      join : (b : Bool) → (gf f).add ((gf f).mul (pow (gf f) (a f) s) (word.bit (gf f) b)) ((gf f).mul (pow (gf f) (a f) (s + suc j)) upper)
          ≡ (gf f).mul (pow (gf f) (a f) s) ((gf f).add (word.bit (gf f) b) ((gf f).mul y upper))
      join b =
          ap (λ q. (gf f).add ((gf f).mul (pow (gf f) (a f) s) (word.bit (gf f) b)) ((gf f).mul q upper)) (pow-add (gf f) (a f) s (suc j))
          ∙ taken_out (pow (gf f) (a f) s) y (word.bit (gf f) b) upper

      Rest : Type 0
      Rest = strided (suc j) k (x / 2) (drop (suc j) l) ≡ el f ((gf f).mul (pow (gf f) (a f) (s + suc j)) upper)

      by : Rest → (b : Bool) → x % 2 ≡ digit b → bit_xor (x % 2 * get_or l 0 0) (strided (suc j) k (x / 2) (drop (suc j) l))
          ≡ el f ((gf f).mul (pow (gf f) (a f) s) (value_at (gf f) (suc k) x y))
      by r b e =
          ap₂ bit_xor (first b s (get_or l 0 0) x e start) r ∙ sym (el-add f _ _)
          ∙ ap (el f) (join b ∙ ap ((gf f).mul (pow (gf f) (a f) s)) (sym (value_at-digit (gf f) k x b y e)))

      go : Rest → (u : ℕ) → x % 2 ≡ u → bit_xor (x % 2 * get_or l 0 0) (strided (suc j) k (x / 2) (drop (suc j) l))
          ≡ el f ((gf f).mul (pow (gf f) (a f) s) (value_at (gf f) (suc k) x y))
      go r zero e = by r false (unfold digit in e)
      go r (suc zero) e = by r true (unfold digit in e)
      go r (suc (suc u)) e = absurd (omega arith)

-- ---- the test

unfoldable pub is_minimal : Field → ℕ → List ℕ → ℕ → ℕ → Bool
is_minimal f n l i x = leb (suc i * suc (degree f)) n && (eqb (x / 2 ^ degree f) 1 && eqb (strided (suc i) (suc (degree f)) x l) 0)

unfoldable pub all_minimal : Field → ℕ → List ℕ → ℕ → List ℕ → Bool
all_minimal f n l i [] = true
all_minimal f n l i (x ∷ xs) = is_minimal f n l i x && all_minimal f n l (suc (suc i)) xs

module _ (f : Field) (n : ℕ) (l : List ℕ) (p : From f 0 n l) where
  by_one : (v : (gf f).carrier) → (gf f).mul (pow (gf f) (a f) 0) v ≡ v
  unfolding pow
  by_one v = one-mul-of (gf f) v

  minimal-tested : (i x : ℕ) → T (is_minimal f n l i x) → Minimal f (suc i) x
  unfolding is_minimal
  minimal-tested i x u =
      let r : Bool = leb (suc i * suc (degree f)) n in
      let m : Bool = eqb (x / 2 ^ degree f) 1 in
      let z : Bool = eqb (strided (suc i) (suc (degree f)) x l) 0 in
      let v = and_right r (m && z) u in
      record {
        monic = eqb→eq _ _ (and_left m z v);
        zero = el-same f _ _ (ap (el f) (sym (by_one _))
            ∙ sym (strided-value f i (suc (degree f)) x 0 n l p (leb→le _ _ (and_left r (m && z) u))) ∙ eqb→eq _ _ (and_right m z v) ∙ sym (el-nil f));
      }

  all_minimal-each : (xs : List ℕ) (i : ℕ) → T (all_minimal f n l i xs) → (k : ℕ) → k < length xs → Minimal f (suc (i + (k + k))) (get_or xs k 0)
  unfolding all_minimal
  all_minimal-each [] i t k h = absurd (omega arith)
  all_minimal-each (x ∷ xs) i t zero h = rw (add-zero i) (minimal-tested i x (and_left (is_minimal f n l i x) (all_minimal f n l (suc (suc i)) xs) t))
  all_minimal-each (x ∷ xs) i t (suc k) h =
      let e : i + (suc k + suc k) ≡ suc (suc i) + (k + k) = omega arith in
      rw e (all_minimal-each xs (suc (suc i)) (and_right (is_minimal f n l i x) (all_minimal f n l (suc (suc i)) xs) t) k (omega arith))

-- Numbers that pass by the first n powers of a are minimal polynomials of a, a^3, ..
pub tested : (f : Field) (n : ℕ) (xs : List ℕ) → T (all_minimal f n (stepped (times_a f) n 1) 0 xs) → (k : ℕ) → k < length xs → Minimal f (suc (k + k)) (get_or xs k 0)
tested f n xs t k h = rw (zero-add (k + k)) at (all_minimal-each f n (stepped (times_a f) n 1) (stepped-from f n) xs 0 t k h)

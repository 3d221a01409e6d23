-- Positions that are passed over.
--
-- marked-past                     behind the mark's start only its end is asked for
-- step-within                     what is passed over ends within the page
-- differs-marked, differs-bits    the two cases of the definition
-- byte-free                       pages with the same byte do not differ at its positions
-- one_free                        one position is passed over
-- next_here, next_past, next-end  the next position is p, is one past those passed over, or there is none
use mathlib.Core.Path.{◌≡◌, refl, ap, ◌∙◌}
use mathlib.Core.Bool.{Bool, true, false, not, cond}
use mathlib.Core.List.{List}
use Prim.Native.Nat.{ℕ, zero, suc, ◌+◌, ◌-◌, ◌*◌, ◌/◌, ◌%◌, ◌<◌, ◌≤◌}
use native.Mathlib.Omega.{arith}
use native.Mathlib.Decide.{dec_lt}
use native.Mathlib.Numerals.{unary_clauses}
use lib.ListN.{get_or}
use lib.Dec.{eqb, ltb}
use borrow.Author.Tests.{eq-eqb, le-leb}
use Rattle.bits.specs.Bits.{bit, bit_at}
use Rattle.mark.specs.declared.Mark.{Mark}
use Rattle.mark.specs.Mark.{marked}
use Rattle.std.specs.Prelude.{Some, None}
use Rattle.differences.specs.Differences.{differs, next_of, next}

pub marked-past : (k : Mark) (p : ℕ) → 8 * k.offset ≤ p → marked k p ≡ ltb p (8 * (k.offset + k.length))
unfolding marked
marked-past k p l = rw (le-leb (8 * k.offset) p l)

pub step-within : (size p n : ℕ) → p < 8 * size → n ≤ 8 → (1 < n → p % 8 ≡ 0) → p + n ≤ 8 * size
step-within size p n l s h = elim (dec_lt 1 n) [
  | yes m ↦ (let e = h m in omega arith)
  | no m ↦ omega arith
]

module _ (k : Mark) (first second : List ℕ) where
  pub differs-marked : (p : ℕ) → marked k p ≡ true → differs k first second p ≡ false
  unfolding differs
  differs-marked p e = rw e

  pub differs-bits : (p : ℕ) → marked k p ≡ false → differs k first second p ≡ not (eqb (bit_at first p) (bit_at second p))
  unfolding differs
  differs-bits p e = rw e

  pub byte-free : (p i : ℕ) → p % 8 ≡ 0 → get_or first (p / 8) 0 ≡ get_or second (p / 8) 0 → i < 8 → differs k first second (p + i) ≡ false
  unfolding differs bit_at
  byte-free p i a e l =
      let here : (p + i) / 8 ≡ p / 8 = omega arith in
      let same : bit (get_or first ((p + i) / 8) 0) (7 - (p + i) % 8) ≡ bit (get_or second ((p + i) / 8) 0) (7 - (p + i) % 8) = rw (here, e) in
      go (marked k (p + i)) (eqb (bit (get_or first ((p + i) / 8) 0) (7 - (p + i) % 8)) (bit (get_or second ((p + i) / 8) 0) (7 - (p + i) % 8)))
      (eq-eqb _ _ same)
    where
      go : (x y : Bool) → y ≡ true → cond x false (not y) ≡ false
      go true y e = refl
      go false y e = rw e

  pub one_free : (p i : ℕ) → i < 1 → differs k first second p ≡ false → differs k first second (p + i) ≡ false
  one_free p i l e = let here : p + i ≡ p = omega arith in rw here e

  next-past-of : (s n p : ℕ) → s ≤ n → ((i : ℕ) → i < s → differs k first second (p + i) ≡ false)
      → next_of k first second p n ≡ next_of k first second (p + s) (n - s)
  unfolding next_of
  next-past-of zero n p l h = simp unary_clauses
  next-past-of (suc s) zero p l h = absurd (omega arith)
  next-past-of (suc s) (suc n) p l h =
      let here : differs k first second p ≡ false = simp unary_clauses at (h 0 (omega arith)) in
      let e : p + suc s ≡ suc p + s = omega arith in
      let m : suc n - suc s ≡ n - s = omega arith in
      rw (here, e, m) (next-past-of s n (suc p) (omega arith) (λ i j. let f : suc p + i ≡ p + suc i = omega arith in rw f (h (suc i) (omega arith))))

  module _ (size : ℕ) where
    pub next_past : (s p : ℕ) → p + s ≤ 8 * size → ((i : ℕ) → i < s → differs k first second (p + i) ≡ false)
        → next k size first second p ≡ next k size first second (p + s)
    unfolding next
    next_past s p l h =
        let e : 8 * size - p - s ≡ 8 * size - (p + s) = omega arith in
        next-past-of s (8 * size - p) p (omega arith) h ∙ ap (next_of k first second (p + s)) e

    pub next_here : (p : ℕ) → p < 8 * size → differs k first second p ≡ true → next k size first second p ≡ Some p
    unfolding next next_of
    next_here p l e = let n : 8 * size - p ≡ suc (8 * size - suc p) = omega arith in rw (n, e)

    pub next-end : (p : ℕ) → 8 * size ≤ p → next k size first second p ≡ None
    unfolding next next_of
    next-end p l = let n : 8 * size - p ≡ 0 = omega arith in rw n

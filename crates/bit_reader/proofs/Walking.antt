-- What a read gives inside a page and at its end, and what a walk of n reads gives. Assumes nothing.
use mathlib.Core.Bool.{Bool, true, false}
use mathlib.Core.List.{List, ◌∷◌}
use mathlib.Core.Path.{◌≡◌, refl, ap, subst, sym, ◌∙◌}
use Prim.Native.Nat.{ℕ, zero, suc, ◌+◌, ◌*◌, ◌/◌, ◌<◌, ◌≤◌}
use native.Mathlib.Omega.{arith}
use native.Mathlib.Numerals.{add-one}
use lib.ListN.{length}
use lib.Dec.{ltb}
use borrow.Author.Tests.{ltb-true, ltb-false, lt-ltb, le-ltb}
use Rattle.bits.specs.Bits.{bit_at, run, digit}
use Rattle.bits.proofs.Pages.{bit_of-digit, bit_of-past}
use Rattle.std.specs.Prelude.{Option, Some, None}
use Rattle.bit_reader.specs.Reading.{greatest, end_of, step_at, bit_in, before, walk}

module _ (page : List ℕ) where
  -- the end is that of the page, or the greatest position
  end_of-short : 8 * length page < greatest → end_of page ≡ 8 * length page
  unfolding end_of
  end_of-short h = simp (lt-ltb _ _ h)

  end_of-long : greatest ≤ 8 * length page → end_of page ≡ greatest
  unfolding end_of
  end_of-long h = simp (le-ltb _ _ h)

  end_of-cases : (P : ℕ → Type 0) → (8 * length page < greatest → P (8 * length page)) → (greatest ≤ 8 * length page → P greatest) → P (end_of page)
  end_of-cases P short long = go (ltb (8 * length page) greatest) refl
    where
      go : (t : Bool) → ltb (8 * length page) greatest ≡ t → P (end_of page)
      go true e = subst P (sym (end_of-short (ltb-true _ _ e))) (short (ltb-true _ _ e))
      go false e = subst P (sym (end_of-long (ltb-false _ _ e))) (long (ltb-false _ _ e))

  pub end_of-greatest : end_of page ≤ greatest
  end_of-greatest = end_of-cases (λ e. e ≤ greatest) (λ h. omega arith) (λ h. omega arith)

  -- position p is before the end exactly if the page has the byte that it lies in, and it is not the greatest position
  pub end_of-after : (p : ℕ) → p / 8 < length page → p < greatest → p < end_of page
  end_of-after p h k = end_of-cases (λ e. p < e) (λ l. omega arith) (λ l. k)

  pub end_of-before : (p : ℕ) → length page ≤ p / 8 → end_of page ≤ p
  end_of-before p h = end_of-cases (λ e. e ≤ p) (λ l. omega arith) (λ l. omega arith)

  -- inside the page a read gives the bit and the position after it, from its end on `None`
  pub step_at-inside : (p : ℕ) → p < end_of page → step_at page p ≡ Some (bit_at page p, p + 1)
  unfolding step_at
  step_at-inside p h = simp (lt-ltb _ _ h)

  pub step_at-end : (p : ℕ) → end_of page ≤ p → step_at page p ≡ None
  unfolding step_at
  step_at-end p h = simp (le-ltb _ _ h)

  -- below the greatest position the bit of a read is the bit of the page, past its end too
  pub bit_in-step_at : (p : ℕ) → p < greatest → bit_in (step_at page p) ≡ bit_at page p
  unfolding bit_in digit
  bit_in-step_at p k = go (ltb p (end_of page)) refl
    where
      past : end_of page ≤ p → 8 * length page ≤ p
      past = end_of-cases (λ e. e ≤ p → 8 * length page ≤ p) (λ l h. h) (λ l h. omega arith)

      go : (t : Bool) → ltb p (end_of page) ≡ t → bit_in (step_at page p) ≡ bit_at page p
      go true e = ap bit_in (step_at-inside p (ltb-true _ _ e))
      go false e = ap bit_in (step_at-end p (ltb-false _ _ e)) ∙ ap digit (sym (bit_of-past page p (past (ltb-false _ _ e)))) ∙ bit_of-digit page p

  -- so the bit that a caller gets by `next_bit` and `bit_or_zero` is the bit of the page
  pub bit_in-read : (p : ℕ) {step : Option (ℕ × ℕ)} {b : ℕ} → step ≡ step_at page p → b ≡ bit_in step → p + 1 < 18446744073709551616 → b ≡ bit_at page p
  unfolding greatest
  bit_in-read p e h k = h ∙ ap bit_in e ∙ bit_in-step_at p (omega arith)

  -- n reads from position p on give the run of n bits there, where so many are left
  pub walk-run : (n p : ℕ) → p + n ≤ end_of page → walk page n p ≡ run (bit_at page) p n
  unfolding walk run before
  walk-run zero p h = refl
  walk-run (suc n) p h =
      ap (λ s. before s (walk page n)) (step_at-inside p (omega arith)) ∙
      ap (λ w. bit_at page p ∷ w) (walk-run n (p + 1) (omega arith) ∙ ap (λ q. run (bit_at page) q n) (add-one p))

  -- where k are left, and n is no less, they give those k
  pub walk_end : (n k p : ℕ) → end_of page ≡ p + k → k ≤ n → walk page n p ≡ run (bit_at page) p k
  unfolding walk run before
  walk_end zero zero p e h = refl
  walk_end zero (suc k) p e h = absurd (omega arith)
  walk_end (suc n) zero p e h = ap (λ s. before s (walk page n)) (step_at-end p (omega arith))
  walk_end (suc n) (suc k) p e h =
      ap (λ s. before s (walk page n)) (step_at-inside p (omega arith)) ∙
      ap (λ w. bit_at page p ∷ w) (walk_end n k (p + 1) (omega arith) (omega arith) ∙ ap (λ q. run (bit_at page) q k) (add-one p))

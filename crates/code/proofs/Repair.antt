-- A word with the coefficients at a set of exponents turned over. The recheck makes a repair right whatever proposed it;
-- with the decoder's state a codeword within t flips is the word repaired at the roots, so that where it is none there is none.
--
-- repaired w e    the word w with the coefficient of x^p turned over at each p with e p
use mathlib.Core.Path.{◌≡◌, sym, ap, ◌∙◌}
use mathlib.Core.Bool.{Bool, true, false}
use Prim.Native.Nat.{ℕ, suc, ◌+◌, ◌-◌, ◌*◌, ◌≤◌, ◌<◌}
use native.Mathlib.Omega.{arith}
use lib.ListN.{length, get_or}
use Rattle.bits.specs.Bits.{run}
use Rattle.bits.proofs.Runs.{run_length, run_at}
use Rattle.field.specs.declared.Field.{Field}
use Rattle.field.specs.Field.{longest}
use Rattle.field.proofs.Instance.{gf, a, order, unit}
use Rattle.algebra.specs.Polynomial.{pow, value}
use Rattle.algebra.specs.Recurrence.{State}
use Rattle.algebra.specs.Word.{differ, both, count, power-sum}
use Rattle.algebra.proofs.Field.{add-nil-eq}
use Rattle.algebra.proofs.Word.{differ-differ, count-cong, power-sum-cong, power-sum-both, near-corrected}
use Rattle.code.specs.Word.{Word, distance}
use Rattle.code.specs.Code.{Codeword, Near}
use Rattle.code.proofs.Distance.{coefficient, coefficient-ext, count-distance}
use Rattle.code.proofs.Codeword.{codeword-odd, power-sum-value, codeword-power-sums}

unfoldable pub repaired : Word → (ℕ → Bool) → Word
repaired w e = run (λ i. differ (get_or w i false) (e (length w - suc i))) 0 (length w)

pub repaired-length : (w : Word) (e : ℕ → Bool) → length (repaired w e) ≡ length w
unfolding repaired
repaired-length w e = run_length _ _ _

pub repaired-at : (w : Word) (e : ℕ → Bool) (i : ℕ) → i < length w → get_or (repaired w e) i false ≡ differ (get_or w i false) (e (length w - suc i))
unfolding repaired
repaired-at w e i l = run_at _ 0 (length w) i false l ∙ (let z : 0 + i ≡ i = omega arith in rw z)

pub repaired-coefficient : (w : Word) (e : ℕ → Bool) (p : ℕ) → p < length w → coefficient (repaired w e) p ≡ differ (coefficient w p) (e p)
unfolding coefficient
repaired-coefficient w e p l =
    let q : length w - suc (length w - suc p) ≡ p = omega arith in
    rw (repaired-length w e, repaired-at w e (length w - suc p) (omega arith), q)

pub repaired-distance : (w : Word) (e : ℕ → Bool) → distance w (repaired w e) ≡ count e (length w)
repaired-distance w e =
    sym (count-distance w (repaired w e) (sym (repaired-length w e)))
    ∙ count-cong _ e (length w) (λ p l. ap (differ (coefficient w p)) (repaired-coefficient w e p l) ∙ differ-differ (coefficient w p) (e p))

pub repaired-near : (f : Field) (t : ℕ) (w : Word) (e : ℕ → Bool) → Codeword f t (repaired w e) → count e (length w) ≤ t → Near f t w (repaired w e)
repaired-near f t w e c l = record { same = repaired-length w e; code = c; close = rw (repaired-distance w e) l }

-- The recheck: the repaired word is a codeword exactly if the power sums of the places are those of the word; the odd ones are enough.
module _ (f : Field) (t : ℕ) (w : Word) (e : ℕ → Bool) where
  repaired-sum : (j : ℕ) → power-sum (gf f) (a f) (coefficient (repaired w e)) (length (repaired w e)) j
      ≡ (gf f).add (power-sum (gf f) (a f) (coefficient w) (length w) j) (power-sum (gf f) (a f) e (length w) j)
  repaired-sum j =
      rw (repaired-length w e)
      (power-sum-cong (gf f) (a f) (coefficient (repaired w e)) (both (coefficient w) e) (length w) j (repaired-coefficient w e) ∙ power-sum-both (gf f) (a f) (coefficient w) e (length w) j)

  pub recheck-codeword : ((i : ℕ) → i < t → power-sum (gf f) (a f) (coefficient w) (length w) (i + i) ≡ power-sum (gf f) (a f) e (length w) (i + i))
      → Codeword f t (repaired w e)
  recheck-codeword h = codeword-odd f t (repaired w e) (λ i l. sym (power-sum-value f (repaired w e) (i + i)) ∙ repaired-sum (i + i) ∙ rw (h i l) ((gf f).add-self _))

  pub codeword-recheck : Codeword f t (repaired w e) → (j : ℕ) → j < 2 * t
      → power-sum (gf f) (a f) (coefficient w) (length w) j ≡ power-sum (gf f) (a f) e (length w) j
  codeword-recheck c j l = add-nil-eq (gf f) _ _ (sym (repaired-sum j) ∙ codeword-power-sums f t (repaired w e) c j l)

-- The decoder's state after the 2t syndromes S of the word, and the set e of the roots of its polynomial.
module _ (f : Field) (t : ℕ) (w : Word) (h : length w ≤ longest f)
    (S : ℕ → (gf f).carrier) (sums : (j : ℕ) → j < 2 * t → S j ≡ power-sum (gf f) (a f) (coefficient w) (length w) j)
    (L : ℕ) (b : (gf f).carrier) (C T : ℕ → (gf f).carrier) (s : State (gf f) S (2 * t) L b C T)
    (e : ℕ → Bool) (at-roots : (p : ℕ) → p < length w → e p ≡ true → value (gf f) C (pow (gf f) (a f) p) L ≡ (gf f).nil)
    (elsewhere : (p : ℕ) → p < length w → e p ≡ false → value (gf f) C (pow (gf f) (a f) p) L ≡ (gf f).nil → ⊥) where
  pub near-repaired : (c : Word) → Near f t w c → c ≡ repaired w e
  near-repaired c x = coefficient-ext c (repaired w e) (x.same ∙ sym (repaired-length w e)) (λ p l.
      let k : p < length w = omega (arith, repaired-length w e) in
      sym (near-corrected (gf f) (a f) (longest f) (unit f) (order f) (length w) h (2 * t) (coefficient w) (coefficient c) S sums (rw x.same at (codeword-power-sums f t c x.code))
      (let n : count (both (coefficient w) (coefficient c)) (length w) ≡ distance w c = count-distance w c (sym x.same) in omega (arith, x.close))
      L b C T s e at-roots elsewhere p k)
      ∙ sym (repaired-coefficient w e p k))

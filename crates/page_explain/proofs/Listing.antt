-- The places in which a block and the codeword near it differ are what locating lists for the block's remainder; and lists of page positions.
--
-- differing-length, differing-at    the word of the places in which two words differ
-- near-exponents          a codeword within t flips: locating answers the places in which it differs
-- positions-length, positions-at, positions-snoc    the page positions of a list of exponents
-- listed_next             one more position at the start of the list
-- taken-below             an exponent among the first ones of a list
use mathlib.Core.Path.{◌≡◌, refl, sym, ap, ◌∙◌}
use mathlib.Core.Bool.{false}
use mathlib.Core.List.{List, [], ◌∷◌, ◌++◌}
use Prim.Native.Nat.{ℕ, zero, suc, ◌+◌, ◌-◌, ◌≤◌, ◌<◌}
use native.Mathlib.Omega.{arith}
use native.Mathlib.Numerals.{add-one}
use lib.ListN.{length, get_or, set, take, drop}
use lib.Seq.{ext_get_or, length-take-le, take-suc, drop-cons, append_snoc, set_at, get_or-take}
use Rattle.algebra.specs.Word.{differ}
use Rattle.field.specs.declared.Field.{Field}
use Rattle.layout_plan.specs.declared.Plan.{Plan}
use Rattle.code.specs.Word.{Word, Below}
use Rattle.code.specs.Code.{Near, Fits}
use Rattle.code.specs.Generator.{remainder}
use Rattle.code.specs.Locations.{listed, exponents, locate}
use Rattle.code.proofs.Distance.{coefficient}
use Rattle.code.proofs.Flips.{each_below}
use Rattle.code.proofs.Repair.{repaired, repaired-length, repaired-at}
use Rattle.code.proofs.Locations.{near-locates, locate-exponents}
use Rattle.page_explain.specs.Explain.{differing, position_of, positions}

pub differing-length : (v w : Word) → length w ≡ length v → length (differing v w) ≡ length v
unfolding differing
differing-length [] w h = refl
differing-length (x ∷ v) [] h = absurd (omega arith)
differing-length (x ∷ v) (y ∷ w) h = ap suc (differing-length v w (omega arith))

pub differing-at : (v w : Word) (i : ℕ) → length w ≡ length v → i < length v → get_or (differing v w) i false ≡ differ (get_or v i false) (get_or w i false)
unfolding differing
differing-at [] w i h l = absurd (omega arith)
differing-at (x ∷ v) [] i h l = absurd (omega arith)
differing-at (x ∷ v) (y ∷ w) zero h l = refl
differing-at (x ∷ v) (y ∷ w) (suc i) h l = differing-at v w i (omega arith) (omega arith)

differing-repaired : (w c : Word) → length c ≡ length w → differing w c ≡ repaired w (coefficient c)
unfolding coefficient
differing-repaired w c h =
    ext_get_or false _ _ (differing-length w c h ∙ sym (repaired-length w (coefficient c))) (λ i l.
    let k : i < length w = omega (arith, differing-length w c h) in
    let e : length c - suc (length w - suc i) ≡ i = omega arith in
    differing-at w c i h k ∙ sym (repaired-at w (coefficient c) i k ∙ rw e))

pub near-exponents : (f : Field) (t : ℕ) (w c : Word) → Fits f t (length w) → Near f t w c
    → locate f t (length w) (remainder f t w) ≡ exponents (listed (differing w c))
near-exponents f t w c h x =
    locate-exponents f t (length w) (remainder f t w) _ h (rw (differing-repaired w c x.same) (near-locates f t w c h.level x))

module _ (q : Plan) (b : ℕ) where
  pub positions-length : (es : List ℕ) → length (positions q b es) ≡ length es
  unfolding positions
  positions-length [] = refl
  positions-length (e ∷ es) = ap suc (positions-length es)

  pub positions-at : (es : List ℕ) (i : ℕ) → i < length es → get_or (positions q b es) i 0 ≡ position_of q b (get_or es i 0)
  unfolding positions
  positions-at [] i l = absurd (omega arith)
  positions-at (e ∷ es) zero l = refl
  positions-at (e ∷ es) (suc i) l = positions-at es i (omega arith)

  pub positions-snoc : (es : List ℕ) (e : ℕ) → positions q b (es ++ (e ∷ [])) ≡ positions q b es ++ (position_of q b e ∷ [])
  unfolding positions
  positions-snoc [] e = refl
  positions-snoc (x ∷ es) e = ap (λ r. position_of q b x ∷ r) (positions-snoc es e)

  -- One more position of es is put at the start of d.
  pub listed_next : (es d : List ℕ) {l : List ℕ} {x : ℕ} (i : ℕ) → i < length es → i < length d → l ≡ positions q b (take i es) ++ drop i d
      → x ≡ position_of q b (get_or es i 0) → set l i x ≡ positions q b (take (i + 1) es) ++ drop (i + 1) d
  listed_next es d {x = x} i m k h e =
      let s : length (positions q b (take i es)) ≡ i = positions-length (take i es) ∙ length-take-le i es (omega arith) in
      rw (
        h,
        drop-cons d i 0 k,
        set_at (positions q b (take i es)) (get_or d i 0) (drop (suc i) d) x i s,
        add-one i,
        take-suc es i 0 m,
        positions-snoc (take i es) (get_or es i 0),
        e,
      )
      (sym (append_snoc (positions q b (take i es)) (position_of q b (get_or es i 0)) (drop (suc i) d)))

pub taken-below : (m : ℕ) (es : List ℕ) (n i : ℕ) → Below m (take n es) → n ≤ length es → i < n → get_or es i 0 < m
taken-below m es n i h l k =
    let r = each_below m (take n es) h i (omega (arith, length-take-le n es l)) in
    rw (get_or-take n es i 0 k) at r

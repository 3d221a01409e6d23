-- A level has one generator.
use mathlib.Core.Path.{◌≡◌, refl, sym, ◌∙◌, subst}
use mathlib.Core.Bool.{true, false}
use mathlib.Core.List.{[], ◌∷◌}
use Prim.Native.Nat.{ℕ, zero, suc, ◌-◌, ◌*◌, ◌≤◌, ◌<◌}
use native.Mathlib.Omega.{arith}
use native.Mathlib.Decide.{dec_lt}
use lib.ListN.{length, get_or}
use lib.Seq.{ext_get_or}
use Rattle.bits.specs.Bits.{digits}
use Rattle.field.specs.declared.Field.{Field}
use Rattle.field.specs.Field.{degree}
use Rattle.field.proofs.Instance.{gf, a}
use Rattle.algebra.specs.Polynomial.{pow}
use Rattle.algebra.specs.Word.{flip, differ}
use Rattle.algebra.specs.Word as word
use Rattle.algebra.proofs.Polynomial.{horner-tail}
use Rattle.algebra.proofs.Word.{differ-false}
use Rattle.code.specs.Word.{Word}
use Rattle.code.specs.Code.{Codeword, Generator}
use Rattle.code.specs.Generator.{generator}
use Rattle.code.proofs.Distance.{coefficient}
use Rattle.code.proofs.Codeword.{elements, value-element, element-value}
use Rattle.code.proofs.Generator.{generator-generates}
use Rattle.code.proofs.Remainder.{codeword-remainder, remainder-codeword}
use Rattle.code.proofs.Repair.{repaired, repaired-length, repaired-at}
use Rattle.code.proofs.Locations.{repaired-remainder}

-- A leading 0 does not matter.
codeword-tail : (f : Field) (t : ℕ) (w : Word) → Codeword f t (false ∷ w) → Codeword f t w
unfolding elements word.bit
codeword-tail f t w c = record {
  zeros = λ j l m.
      element-value f w j (sym (horner-tail (gf f) (elements f (false ∷ w)) (pow (gf f) (a f) j) (length w) refl) ∙ value-element f (false ∷ w) j (c.zeros j l m));
}

shorter : (f : Field) (t : ℕ) (g h : Word) → Generator f t g → Generator f t h → length g ≤ length h
shorter f t g h x y = elim (dec_lt (length h) (length g)) [
  | no n ↦ omega arith
  | yes l ↦ (let e : true ≡ false = sym y.monic ∙ x.least h y.code l 0 in let z : ◌≡◌ {A = ℕ} 0 1 = cc in absurd (omega arith))
]

-- A codeword no longer than the generator, whose first coefficient is 0, is 0.
all-zero : (f : Field) (t : ℕ) (g w : Word) → Generator f t g → Codeword f t w → length w ≤ length g → get_or w 0 false ≡ false → (i : ℕ) → get_or w i false ≡ false
all-zero f t g [] x c l e i = refl
all-zero f t g (b ∷ w) x c l e zero = e
all-zero f t g (b ∷ w) x c l e (suc i) = x.least w (codeword-tail f t w (subst (λ b. Codeword f t (b ∷ w)) e c)) l i

pub generator-unique : (f : Field) (t : ℕ) (g h : Word) → t ≤ 62 → Generator f t g → Generator f t h → g ≡ h
generator-unique f t g h k x y =
    ext_get_or false g h len (λ i l. differ-false _ _ (sym (sum-at i l) ∙ all-zero f t g (repaired g (coefficient h)) x code (rw (repaired-length g (coefficient h)) (omega arith)) head i))
  where
    len : length g ≡ length h
    len = omega (arith, shorter f t g h x y, shorter f t h g y x)

    sum-at : (i : ℕ) → i < length g → get_or (repaired g (coefficient h)) i false ≡ differ (get_or g i false) (get_or h i false)
    sum-at i l = repaired-at g (coefficient h) i l ∙ (unfold coefficient in (let e : length h - suc (length g - suc i) ≡ i = omega (arith, len) in rw e))

    code : Codeword f t (repaired g (coefficient h))
    code = remainder-codeword f t _ k (repaired-remainder f t g h (sym len) ∙ rw (codeword-remainder f t g k x.code, codeword-remainder f t h k y.code))

    some : (v : Word) → get_or v 0 false ≡ true → 0 < length v
    some [] e = let z : ◌≡◌ {A = ℕ} 0 1 = cc in absurd (omega arith)
    some (b ∷ v) e = omega arith

    head : get_or (repaired g (coefficient h)) 0 false ≡ false
    head = sum-at 0 (some g x.monic) ∙ rw (x.monic, y.monic) (unfold differ flip in refl)

-- So it is the product of the minimal polynomials, of degree m t.
pub generator-only : (f : Field) (t : ℕ) (g : Word) → t ≤ 62 → Generator f t g → g ≡ digits (generator f t) (suc (degree f * t))
generator-only f t g h x = generator-unique f t g _ h x (generator-generates f t h)

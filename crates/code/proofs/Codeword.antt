-- Words over the fields of crate `field`: values as elements, syndromes as power sums, and the distance of the code.
--
-- elements f w i    bit i of a word as an element
use mathlib.Core.Path.{◌≡◌, refl, sym, ap, ap₂, ◌∙◌}
use mathlib.Core.Bool.{Bool, true, false}
use mathlib.Core.List.{◌++◌}
use Prim.Native.Nat.{ℕ, zero, suc, ◌+◌, ◌-◌, ◌*◌, ◌≤◌, ◌<◌}
use native.Mathlib.Omega.{arith}
use native.Mathlib.Decide.{dec_lt}
use lib.ListN.{length, get_or, replicate, length-append, length-replicate, get_or-replicate, get_or-append, get_or-eq_default}
use lib.Seq.{get_or-append-add}
use lib.Bits.{bit_xor}
use Rattle.bits.specs.Bits.{digit}
use Rattle.field.specs.declared.Field.{Field}
use Rattle.field.specs.Field.{product, a^, longest}
use Rattle.field.proofs.Multiply.{mul-zero-right}
use Rattle.field.proofs.Primitive.{usable}
use Rattle.field.proofs.Instance.{gf, a, el, el-same, el-nil, el-add, el-mul, el-pow, order, unit}
use Rattle.algebra.specs.Polynomial.{pow, horner}
use Rattle.algebra.specs.Word.{bit, power-sum}
use Rattle.algebra.specs.Word as word
use Rattle.algebra.proofs.Field.{mul-nil}
use Rattle.algebra.proofs.Polynomial.{pow-add, horner-zero, horner-suc, horner-cong, horner-append, horner-square, horner-odd-zeros}
use Rattle.algebra.proofs.Word.{power-sum-word}
use Rattle.algebra.proofs.Word as words
use Rattle.code.specs.Word.{Word, distance}
use Rattle.code.specs.Code.{value_of, value, Codeword, Fits, Near}
use Rattle.code.proofs.Distance.{coefficient, coefficient-ext, count-distance, distance-comm, distance-triangle, distance-zero}

pub zeros-at : (n i : ℕ) → get_or (replicate n false) i false ≡ false
zeros-at n i = elim (dec_lt i n) [
  | yes h ↦ get_or-replicate n i false false h
  | no h ↦ get_or-eq_default (replicate n false) false (rw (length-replicate n false) (omega arith))
]

module _ (f : Field) where
  unfoldable pub elements : Word → ℕ → (gf f).carrier
  elements w i = bit (gf f) (get_or w i false)

  el-bit : (b : Bool) → el f (bit (gf f) b) ≡ digit b
  unfolding el gf bit digit
  el-bit true = refl
  el-bit false = refl

  pub el-value : (w : Word) (y : (gf f).carrier) (n : ℕ) → el f (horner (gf f) (elements w) y n) ≡ value_of f w (el f y) n
  unfolding value_of elements
  el-value w y zero = ap (el f) (horner-zero (gf f) _ y) ∙ el-nil f
  el-value w y (suc n) =
      ap (el f) (horner-suc (gf f) _ y n) ∙ el-add f _ _ ∙ ap₂ bit_xor (el-mul f _ _ ∙ ap (product f (el f y)) (el-value w y n)) (el-bit (get_or w n false))

  -- A value at a^j as a number and as an element.
  pub value-el : (w : Word) (j : ℕ) → value f w (a^ f j) ≡ el f (horner (gf f) (elements w) (pow (gf f) (a f) j) (length w))
  unfolding value
  value-el w j = rw (← el-pow f j) (sym (el-value w (pow (gf f) (a f) j) (length w)))

  pub value-element : (w : Word) (j : ℕ) → value f w (a^ f j) ≡ 0 → horner (gf f) (elements w) (pow (gf f) (a f) j) (length w) ≡ (gf f).nil
  value-element w j e = el-same f _ _ (sym (value-el w j) ∙ e ∙ sym (el-nil f))

  pub element-value : (w : Word) (j : ℕ) → horner (gf f) (elements w) (pow (gf f) (a f) j) (length w) ≡ (gf f).nil → value f w (a^ f j) ≡ 0
  element-value w j e = value-el w j ∙ ap (el f) e ∙ el-nil f

  -- The value of a word in two parts.
  pub value-append : (v w : Word) (y : (gf f).carrier) (n : ℕ) → length w ≡ n
      → horner (gf f) (elements (v ++ w)) y (length (v ++ w)) ≡ (gf f).add ((gf f).mul (pow (gf f) y n) (horner (gf f) (elements v) y (length v))) (horner (gf f) (elements w) y n)
  unfolding elements
  value-append v w y n l =
      ap (horner (gf f) (elements (v ++ w)) y) (length-append v w ∙ ap (λ k. length v + k) l)
      ∙ horner-append (gf f) (elements (v ++ w)) y (length v) n
      ∙ ap₂ (λ p q. (gf f).add ((gf f).mul (pow (gf f) y n) p) q)
      (horner-cong (gf f) _ _ y (length v) (λ i k. ap (bit (gf f)) (get_or-append v w false i k)))
      (horner-cong (gf f) _ _ y n (λ i k. ap (bit (gf f)) (get_or-append-add v w i false)))

  -- A bit is its own square, so the odd powers of a are enough.
  pub elements-square : (w : Word) (i : ℕ) → (gf f).mul (elements w i) (elements w i) ≡ elements w i
  unfolding elements
  elements-square w i = go (get_or w i false)
    where
      go : (b : Bool) → (gf f).mul (bit (gf f) b) (bit (gf f) b) ≡ bit (gf f) b
      go true = unfold bit in (gf f).mul-one _
      go false = unfold bit in mul-nil (gf f) _

  pub value-square : (w : Word) (j : ℕ) → value f w (a^ f (j + j)) ≡ product f (value f w (a^ f j)) (value f w (a^ f j))
  value-square w j =
      value-el w (j + j) ∙ ap (el f) (rw (pow-add (gf f) (a f) j j) (horner-square (gf f) (elements w) (elements-square w) (pow (gf f) (a f) j) (length w)))
      ∙ el-mul f _ _ ∙ sym (ap₂ (product f) (value-el w j) (value-el w j))

  pub codeword-odd : (t : ℕ) (w : Word) → ((i : ℕ) → i < t → horner (gf f) (elements w) (pow (gf f) (a f) (suc (i + i))) (length w) ≡ (gf f).nil) → Codeword f t w
  codeword-odd t w h = record { zeros = λ j l m. element-value w j (horner-odd-zeros (gf f) (elements w) (elements-square w) (a f) (length w) t h j l (omega arith)) }

  -- The word of zeros is a codeword of every level.
  zeros-value_of : (n y k : ℕ) → value_of f (replicate n false) y k ≡ 0
  unfolding value_of digit
  zeros-value_of n y zero = refl
  zeros-value_of n y (suc k) = rw (zeros-value_of n y k, mul-zero-right (usable f) y, zeros-at n k)

  pub zeros-codeword : (t n : ℕ) → Codeword f t (replicate n false)
  unfolding value
  zeros-codeword t n = record { zeros = λ j l m. zeros-value_of n _ _ }

  -- The syndromes of a word: its values at a, a^2, .. as sums over the exponents of its ones.
  pub power-sum-value : (w : Word) (j : ℕ) → power-sum (gf f) (a f) (coefficient w) (length w) j ≡ horner (gf f) (elements w) (pow (gf f) (a f) (suc j)) (length w)
  unfolding coefficient elements
  power-sum-value w j =
      power-sum-word (gf f) (a f) (coefficient w) (length w) j
      ∙ horner-cong (gf f) _ (elements w) _ (length w) (λ i k. let e : length w - suc (length w - suc i) ≡ i = omega arith in rw e)

  pub codeword-power-sums : (t : ℕ) (w : Word) → Codeword f t w → word.Codeword (gf f) (a f) (2 * t) (length w) (coefficient w)
  codeword-power-sums t w c j l = power-sum-value w j ∙ value-element w (suc j) (c.zeros (suc j) (omega arith) (omega arith))

  at_level : (t : ℕ) (c d : Word) → length c ≤ longest f → length c ≡ length d → Codeword f t c → Codeword f t d → distance c d ≤ 2 * t → c ≡ d
  at_level t c d h l x y k = coefficient-ext c d l (λ p m. words.codeword-distance (gf f) (a f) (longest f) (unit f) (order f) (length c) h (2 * t) (coefficient c) (coefficient d)
      (codeword-power-sums t c x) (rw l (codeword-power-sums t d y)) (rw (count-distance c d l) k) p (omega arith))

-- Two codewords of one length at most 2t places apart are equal.
pub codeword-distance : (f : Field) (t : ℕ) (c d : Word) → Fits f t (length c) → length c ≡ length d → Codeword f t c → Codeword f t d → distance c d ≤ 2 * t → c ≡ d
codeword-distance f zero c d h l x y k = distance-zero c d l (omega arith)
codeword-distance f (suc t) c d h l x y k = at_level f (suc t) c d (h.short (omega arith)) l x y k

-- At most one codeword is within t flips.
pub near-unique : (f : Field) (t : ℕ) (w c d : Word) → Fits f t (length w) → Near f t w c → Near f t w d → c ≡ d
near-unique f t w c d h x y =
    let r = distance-triangle c w d x.same (sym y.same) in
    let s = distance-comm c w x.same in
    codeword-distance f t c d (record { short = λ l. omega (arith, h.short l, x.same); level = h.level }) (x.same ∙ sym y.same) x.code y.code
    (omega (arith, x.close, y.close))

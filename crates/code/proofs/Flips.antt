-- Flipping a list of exponents.
--
-- marks ps p       p stands in the list an odd number of times
use mathlib.Core.Path.{◌≡◌, refl, sym, ap, ap₂, ◌∙◌}
use mathlib.Core.Bool.{Bool, true, false, cond}
use mathlib.Core.List.{List, [], ◌∷◌}
use Prim.Native.Nat.{ℕ, zero, suc, ◌+◌, ◌*◌, ◌≤◌, ◌<◌}
use native.Mathlib.Omega.{arith}
use native.Mathlib.Decide.{dec_lt}
use borrow.Author.Tests.{eqb-true, eqb-false, eq-eqb, ne_eqb}
use lib.ListN.{length, get_or}
use lib.Dec.{eqb}
use lib.Bits.{bit_xor}
use Rattle.bits.specs.Bits.{digit}
use Rattle.field.specs.declared.Field.{Field}
use Rattle.field.specs.Field.{a^}
use Rattle.field.proofs.Instance.{gf, a, el, el-nil, el-add, el-pow}
use Rattle.algebra.specs.Field.{BinaryField}
use Rattle.algebra.specs.Sum.{sum}
use Rattle.algebra.specs.Polynomial.{pow}
use Rattle.algebra.specs.Word.{flip, differ, power-sum}
use Rattle.algebra.specs.Word as word
use Rattle.algebra.proofs.Field.{ring, nil-mul}
use Rattle.algebra.proofs.Sum.{sum-suc, sum-nil}
use Rattle.algebra.proofs.Polynomial.{pow-pow}
use Rattle.algebra.proofs.Word.{power-sum-both}
use Rattle.code.specs.Word.{Word, ones, turned, flipped, descending}
pub use Rattle.code.specs.Word.{Below, none, one}
use Rattle.code.specs.Code.{value}
use Rattle.code.specs.Locations.{power_sum}
use Rattle.code.proofs.Distance.{coefficient, coefficient-ext, coefficient-tail, coefficient-head}
use Rattle.code.proofs.Codeword.{value-el, power-sum-value}
use Rattle.code.proofs.Repair.{repaired, repaired-length, repaired-coefficient}

unfoldable pub marks : List ℕ → ℕ → Bool
marks [] p = false
marks (q ∷ ps) p = differ (eqb p q) (marks ps p)

differ-right : (x : Bool) → differ x false ≡ x
unfolding differ flip
differ-right true = refl
differ-right false = refl

differ-flip : (x : Bool) → differ x true ≡ flip x
unfolding differ flip
differ-flip true = refl
differ-flip false = refl

differ-assoc : (x y z : Bool) → differ (differ x y) z ≡ differ x (differ y z)
unfolding differ flip
differ-assoc true true true = refl
differ-assoc true true false = refl
differ-assoc true false z = refl
differ-assoc false y z = refl

-- ---- as a repair

pub turned-length : (w : Word) (p : ℕ) → length (turned w p) ≡ length w
unfolding turned
turned-length [] p = refl
turned-length (b ∷ w) p = go (eqb p (length w)) (turned-length w p)
  where
    go : (u : Bool) → length (turned w p) ≡ length w → length (cond u (flip b ∷ w) (b ∷ turned w p)) ≡ suc (length w)
    go true h = refl
    go false h = ap suc h

pub turned-coefficient : (w : Word) (q p : ℕ) → p < length w → coefficient (turned w q) p ≡ differ (coefficient w p) (eqb p q)
unfolding turned
turned-coefficient [] q p l = absurd (omega arith)
turned-coefficient (b ∷ w) q p l = go (eqb q (length w)) refl (dec_lt p (length w)) (turned-coefficient w q p)
  where
    at-end : (v : Word) → length v ≡ length w → (c : Bool) → (p < length w → ⊥) → coefficient (c ∷ v) p ≡ c
    at-end v e c m = let i : p ≡ length v = omega arith in rw i (coefficient-head c v)

    go : (u : Bool) → eqb q (length w) ≡ u → Dec (p < length w) → (p < length w → coefficient (turned w q) p ≡ differ (coefficient w p) (eqb p q))
        → coefficient (cond u (flip b ∷ w) (b ∷ turned w q)) p ≡ differ (coefficient (b ∷ w) p) (eqb p q)
    go true e (yes m) h = let i : q ≡ length w = eqb-true q (length w) e in
        rw (coefficient-tail (flip b) w p m, coefficient-tail b w p m, ne_eqb p q (λ k. omega arith)) (sym (differ-right (coefficient w p)))
    go true e (no m) h = let i : q ≡ length w = eqb-true q (length w) e in
        rw (at-end w refl (flip b) m, at-end w refl b m, eq-eqb p q (omega arith)) (sym (differ-flip b))
    go false e (yes m) h = rw (coefficient-tail b (turned w q) p (rw (turned-length w q) m), coefficient-tail b w p m) (h m)
    go false e (no m) h =
        rw (at-end (turned w q) (turned-length w q) b m, at-end w refl b m, ne_eqb p q (λ k. eqb-false q (length w) e (omega arith))) (sym (differ-right b))

pub flipped-length : (w : Word) (ps : List ℕ) → length (flipped w ps) ≡ length w
unfolding flipped
flipped-length w [] = refl
flipped-length w (p ∷ ps) = flipped-length (turned w p) ps ∙ turned-length w p

pub flipped-coefficient : (w : Word) (ps : List ℕ) (p : ℕ) → p < length w → coefficient (flipped w ps) p ≡ differ (coefficient w p) (marks ps p)
unfolding flipped marks
flipped-coefficient w [] p l = sym (differ-right (coefficient w p))
flipped-coefficient w (q ∷ ps) p l =
    flipped-coefficient (turned w q) ps p (rw (turned-length w q) l) ∙ ap (λ b. differ b (marks ps p)) (turned-coefficient w q p l)
    ∙ differ-assoc (coefficient w p) (eqb p q) (marks ps p)

pub flipped-repaired : (w : Word) (ps : List ℕ) → flipped w ps ≡ repaired w (marks ps)
flipped-repaired w ps = coefficient-ext _ _ (flipped-length w ps ∙ sym (repaired-length w (marks ps)))
    (λ p l. let k : p < length w = omega (arith, repaired-length w (marks ps)) in flipped-coefficient w ps p k ∙ sym (repaired-coefficient w (marks ps) p k))

-- ---- the listing of a set

descending-one : (w : Word) → descending (true ∷ w) ≡ length w ∷ descending w
unfolding descending
descending-one w = refl

descending-none : (w : Word) → descending (false ∷ w) ≡ descending w
unfolding descending
descending-none w = refl

pub marks-here : (p : ℕ) (ps : List ℕ) → marks ps p ≡ false → marks (p ∷ ps) p ≡ true
unfolding marks
marks-here p ps h = rw (eq-eqb p p refl, h) (unfold differ flip in refl)

pub marks-other : (q : ℕ) (ps : List ℕ) (p : ℕ) → (p ≡ q → ⊥) → marks (q ∷ ps) p ≡ marks ps p
unfolding marks
marks-other q ps p e = rw (ne_eqb p q e) (unfold differ in refl)

pub marks-past : (w : Word) (p : ℕ) → length w ≤ p → marks (descending w) p ≡ false
marks-past [] p l = unfold marks descending in refl
marks-past (true ∷ w) p l =
    ap (λ ps. marks ps p) (descending-one w) ∙ marks-other (length w) (descending w) p (λ e. omega arith) ∙ marks-past w p (omega arith)
marks-past (false ∷ w) p l = ap (λ ps. marks ps p) (descending-none w) ∙ marks-past w p (omega arith)

pub marks-descending : (w : Word) (p : ℕ) → p < length w → marks (descending w) p ≡ coefficient w p
marks-descending [] p l = absurd (omega arith)
marks-descending (b ∷ w) p l = go b (dec_lt p (length w)) (marks-descending w p)
  where
    go : (b : Bool) → Dec (p < length w) → (p < length w → marks (descending w) p ≡ coefficient w p) → marks (descending (b ∷ w)) p ≡ coefficient (b ∷ w) p
    go true (yes m) h =
        ap (λ ps. marks ps p) (descending-one w) ∙ marks-other (length w) (descending w) p (λ e. omega arith) ∙ h m ∙ sym (coefficient-tail true w p m)
    go false (yes m) h = ap (λ ps. marks ps p) (descending-none w) ∙ h m ∙ sym (coefficient-tail false w p m)
    go true (no m) h =
        let e : p ≡ length w = omega arith in
        rw e (ap (λ ps. marks ps (length w)) (descending-one w) ∙ marks-here (length w) (descending w) (marks-past w (length w) (omega arith))
        ∙ sym (coefficient-head true w))
    go false (no m) h =
        let e : p ≡ length w = omega arith in
        rw e (ap (λ ps. marks ps (length w)) (descending-none w) ∙ marks-past w (length w) (omega arith) ∙ sym (coefficient-head false w))

pub descending-length : (w : Word) → length (descending w) ≡ ones w
unfolding ones digit
descending-length [] = unfold descending in refl
descending-length (true ∷ w) = let e : suc (ones w) ≡ 1 + ones w = omega arith in ap length (descending-one w) ∙ ap suc (descending-length w) ∙ e
descending-length (false ∷ w) = let e : ones w ≡ 0 + ones w = omega arith in ap length (descending-none w) ∙ descending-length w ∙ e

pub below_each : (n : ℕ) (ps : List ℕ) → ((i : ℕ) → i < length ps → get_or ps i 0 < n) → Below n ps
below_each n [] h = none
below_each n (p ∷ ps) h = one (h 0 (omega arith)) (below_each n ps (λ i l. h (suc i) (omega arith)))

pub each_below : (n : ℕ) (ps : List ℕ) → Below n ps → (i : ℕ) → i < length ps → get_or ps i 0 < n
each_below n [] none i l = absurd (omega arith)
each_below n (p ∷ ps) (one m b) zero l = m
each_below n (p ∷ ps) (one m b) (suc i) l = each_below n ps b i (omega arith)

below_more : (n : ℕ) (ps : List ℕ) → Below n ps → Below (suc n) ps
below_more n [] none = none
below_more n (p ∷ ps) (one l b) = let m : p < suc n = omega arith in one m (below_more n ps b)

pub descending-below : (w : Word) → Below (length w) (descending w)
descending-below [] = unfold descending in none
descending-below (true ∷ w) =
    let m : length w < suc (length w) = omega arith in
    rw (descending-one w) (one m (below_more (length w) (descending w) (descending-below w)))
descending-below (false ∷ w) = rw (descending-none w) (below_more (length w) (descending w) (descending-below w))

-- ---- values

module _ (K : BinaryField) (g : ℕ → K.carrier) where
  -- A sum over one place.
  sum_one : (n q : ℕ) → q < n → sum K n (λ p. K.mul (word.bit K (eqb p q)) (g p)) ≡ g q
  unfolding word.bit
  sum_one zero q l = absurd (omega arith)
  sum_one (suc n) q l = sum-suc K n _ ∙ go (dec_lt q n) (sum_one n q)
    where
      go : Dec (q < n) → (q < n → sum K n (λ p. K.mul (word.bit K (eqb p q)) (g p)) ≡ g q)
          → K.add (sum K n (λ p. K.mul (word.bit K (eqb p q)) (g p))) (K.mul (word.bit K (eqb n q)) (g n)) ≡ g q
      go (yes m) h = rw (h m, ne_eqb n q (λ e. omega arith)) (simp ring)
      go (no m) h = let e : n ≡ q = omega arith in
          rw (sum-nil K n (λ p. K.mul (word.bit K (eqb p q)) (g p)) (λ i k. rw (ne_eqb i q (λ e. omega arith)) (simp ring)), eq-eqb n q e, e) (simp ring)

module _ (f : Field) where
  power-sum-one : (n q j : ℕ) → q < n → power-sum (gf f) (a f) (λ p. eqb p q) n j ≡ pow (gf f) (a f) (suc j * q)
  unfolding power-sum
  power-sum-one n q j l = sum_one (gf f) (pow (gf f) (pow (gf f) (a f) (suc j))) n q l ∙ pow-pow (gf f) (a f) (suc j) q

  power-sum-none : (n j : ℕ) → power-sum (gf f) (a f) (λ p. false) n j ≡ (gf f).nil
  unfolding power-sum word.bit
  power-sum-none n j = sum-nil (gf f) n _ (λ p l. nil-mul (gf f) _)

  -- The power sums of the exponents of a list.
  pub marks-power-sum : (n : ℕ) (ps : List ℕ) (j : ℕ) → Below n ps → el f (power-sum (gf f) (a f) (marks ps) n j) ≡ power_sum f ps (suc j)
  unfolding marks power_sum
  marks-power-sum n [] j none = ap (el f) (power-sum-none n j) ∙ el-nil f
  marks-power-sum n (q ∷ ps) j (one l b) =
      ap (el f) (power-sum-both (gf f) (a f) (λ p. eqb p q) (marks ps) n j) ∙ el-add f _ _
      ∙ ap₂ bit_xor (ap (el f) (power-sum-one n q j l) ∙ el-pow f (suc j * q)) (marks-power-sum n ps j b)

  pub value-power-sum : (w : Word) (j : ℕ) → value f w (a^ f (suc j)) ≡ el f (power-sum (gf f) (a f) (coefficient w) (length w) j)
  value-power-sum w j = value-el f w (suc j) ∙ ap (el f) (sym (power-sum-value f w j))

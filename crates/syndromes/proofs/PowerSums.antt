-- Laws of power sums in arrays: the turns of the loops, and what they come to.
--
-- Adding f s p i e v     v is s with the powers of one exponent p added for the i first odd j, and a^e is the next power
-- Squaring f s i v       v is s with the i first squares in place
use mathlib.Core.Path.{◌≡◌, refl, sym, ap, ap₂, ◌∙◌}
use mathlib.Core.Bool.{Bool}
use mathlib.Core.List.{List, [], ◌∷◌, ◌++◌}
use Prim.Native.Nat.{ℕ, zero, suc, ◌+◌, ◌*◌, ◌/◌, ◌≤◌, ◌<◌}
use native.Mathlib.Nat.{one-mul, add-mul}
use native.Mathlib.Numerals.{add-one}
use native.Mathlib.Omega.{arith}
use native.Mathlib.Decide.{dec_lt, ℕ_discrete}
use lib.Bits.{bit_xor, xor_lt, xor_self, xor_zero_r}
use lib.ListN.{length, get_or, set, take, replicate}
use lib.Seq.{take-suc, get_or-set_same, get_or-set_other}
use Rattle.bits.specs.Bits.{digits}
use Rattle.field.specs.declared.Field.{Field}
use Rattle.field.specs.Field.{degree, modulus, longest, mul, product, a^, Elem}
use Rattle.field.proofs.Xor.{xor_assoc, xor-eq}
use Rattle.field.proofs.Order.{a^-below, a^-add}
use Rattle.field.proofs.Primitive.{primitive}
use Rattle.powers.specs.Powers.{Powers}
use Rattle.code.specs.Word.{Word, descending}
use Rattle.code.specs.Code.{value}
use Rattle.code.specs.Locations.{listed, power_sum}
use Rattle.code.proofs.Codeword.{value-square}
use Rattle.code.proofs.Flips.{value-power-sum}
use Rattle.code.proofs.Locations.{listed-power-sum}
use Rattle.series.specs.Series.{Elements}
use Rattle.bits.specs.Decides.{Decides}
use Rattle.syndromes.specs.PowerSums.{Summed, Agrees, Squared, Syndromes}
use Rattle.bits.proofs.Decides.{decides-as}
use Rattle.series.proofs.Arrays.{zeros-at, elements-set}

module _ (f : Field) where
  -- ---- the powers of one exponent

  pub record Adding (s : List ℕ) (p i e : ℕ) (v : List ℕ) : Type 0 where
    pub elements : Elements f v
    pub added : (k : ℕ) → k < i → get_or v (k + k) 0 ≡ bit_xor (get_or s (k + k) 0) (a^ f (suc (k + k) * p))
    pub others : (k : ℕ) → i ≤ k → get_or v (k + k) 0 ≡ get_or s (k + k) 0
    pub less : e < longest f
    pub power : a^ f e ≡ a^ f (suc (i + i) * p)

  pub adding-start : {s : List ℕ} (p : ℕ) → Elements f s → p < longest f → Adding s p 0 p s
  adding-start {s} p h l = record { elements = h; added = λ k m. absurd (omega arith); others = λ k m. refl; less = l; power = rw (one-mul p) }

  -- One sum more: d is twice p and e' the exponent after e, both wrapped.
  pub adding-next : {powers s v : List ℕ} (p i e d e' : ℕ) → Powers f powers → i + i < 128 → Adding s p i e v → a^ f d ≡ a^ f (p + p)
      → e' < longest f → a^ f e' ≡ a^ f (e + d) → Adding s p (i + 1) e' (set v (i + i) (bit_xor (get_or v (i + i) 0) (get_or powers e 0)))
  adding-next {powers} {s} {v} p i e d e' table inside h double less next = record {
    elements = elements-set f (i + i) x inside h.elements (xor_lt (degree f) _ _ (h.elements.small (i + i)) (rw (table.at e h.less) (a^-below (primitive f) e)));
    added = λ k l. added k l (dec_lt k i);
    others = λ k l. get_or-set_other v (i + i) (k + k) x 0 (omega arith) ∙ h.others k (omega arith);
    less = less;
    power = next ∙ a^-add (primitive f) e d ∙ ap₂ (product f) h.power double ∙ sym (a^-add (primitive f) (suc (i + i) * p) (p + p)) ∙ ap (a^ f) after;
  }
    where
      x : ℕ
      x = bit_xor (get_or v (i + i) 0) (get_or powers e 0)

      after : suc (i + i) * p + (p + p) ≡ suc (i + 1 + (i + 1)) * p
      after = let q : suc (i + 1 + (i + 1)) ≡ suc (i + i) + 2 = omega arith in rw (q, add-mul (suc (i + i)) 2 p) (omega arith)

      added : (k : ℕ) → k < i + 1 → Dec (k < i) → get_or (set v (i + i) x) (k + k) 0 ≡ bit_xor (get_or s (k + k) 0) (a^ f (suc (k + k) * p))
      added k l (yes m) = get_or-set_other v (i + i) (k + k) x 0 (omega arith) ∙ h.added k m
      added k l (no m) = let q : k ≡ i = omega arith in
          rw (q, get_or-set_same v (i + i) x 0 (omega (arith, h.elements.full))) (ap₂ bit_xor (h.others i (omega arith)) (table.at e h.less ∙ h.power))

  pub adding-end : {s v : List ℕ} (t p e : ℕ) → Adding s p t e v → Summed f t s (p ∷ []) v
  unfolding power_sum
  adding-end t p e h = record { elements = h.elements; sums = λ i l. rw (xor_zero_r (a^ f (suc (i + i) * p))) (h.added i l) }

  -- ---- the powers of several exponents, one after the other

  pub power_sum-append : (ps qs : List ℕ) (j : ℕ) → power_sum f (ps ++ qs) j ≡ bit_xor (power_sum f ps j) (power_sum f qs j)
  unfolding power_sum
  power_sum-append [] qs j = refl
  power_sum-append (p ∷ ps) qs j = ap (bit_xor (a^ f (j * p))) (power_sum-append ps qs j) ∙ sym (xor_assoc (a^ f (j * p)) (power_sum f ps j) (power_sum f qs j))

  module _ (t : ℕ) where
    pub summed-none : {s : List ℕ} → Elements f s → Summed f t s [] s
    unfolding power_sum
    summed-none h = record { elements = h; sums = λ i l. sym (xor_zero_r _) }

    pub summed-append : {s v u ps qs : List ℕ} → Summed f t s ps v → Summed f t v qs u → Summed f t s (ps ++ qs) u
    summed-append {s} {v} {u} {ps} {qs} h g = record {
      elements = g.elements;
      sums = λ i l. g.sums i l ∙ rw (h.sums i l, power_sum-append ps qs (suc (i + i))) (xor_assoc (get_or s (i + i) 0) (power_sum f ps (suc (i + i))) (power_sum f qs (suc (i + i))));
    }

    -- One place more of a list.
    pub summed-place : {s v u : List ℕ} (places : List ℕ) (k : ℕ) → k < length places → Summed f t s (take k places) v → Summed f t v (get_or places k 0 ∷ []) u
        → Summed f t s (take (k + 1) places) u
    summed-place places k l h g = rw (add-one k, take-suc places k 0 l) (summed-append h g)

    -- What is left is zero exactly if the sums were those of the list.
    pub summed-agrees : {s ps v : List ℕ} {r : Bool} → Summed f t s ps v → Decides r ((i : ℕ) → i < t → get_or v (i + i) 0 ≡ 0) → Decides r (Agrees f t s ps)
    summed-agrees {s} {ps} h = decides-as
        (λ z. record { sums = λ i l. xor-eq _ _ (sym (h.sums i l) ∙ z i l) })
        (λ g i l. h.sums i l ∙ rw (g.sums i l) (xor_self (power_sum f ps (suc (i + i)))))

  -- ---- the squares

  pub record Squaring (s : List ℕ) (i : ℕ) (v : List ℕ) : Type 0 where
    pub elements : Elements f v
    pub odd : (k : ℕ) → get_or v (k + k) 0 ≡ get_or s (k + k) 0
    pub even : (k : ℕ) → k < i → get_or v (suc (k + k)) 0 ≡ product f (get_or v k 0) (get_or v k 0)

  pub squaring-start : {s : List ℕ} → Elements f s → Squaring s 0 s
  squaring-start h = record { elements = h; odd = λ k. refl; even = λ k l. absurd (omega arith) }

  pub squaring-next : {s v : List ℕ} (i x : ℕ) → i < 62 → Squaring s i v → Elem (degree f) (mul (degree f) (modulus f) (get_or v i 0) (get_or v i 0)) x
      → Squaring s (i + 1) (set v (i + i + 1) x)
  squaring-next {s} {v} i x l h e = record {
    elements = elements-set f (i + i + 1) x (omega arith) h.elements e.low;
    odd = λ k. other (k + k) (omega arith) ∙ h.odd k;
    even = λ k m. even k m (dec_lt k i);
  }
    where
      other : (j : ℕ) → (j ≡ i + i + 1 → ⊥) → get_or (set v (i + i + 1) x) j 0 ≡ get_or v j 0
      other j k = get_or-set_other v (i + i + 1) j x 0 k

      here : get_or (set v (i + i + 1) x) (suc (i + i)) 0 ≡ x
      here = let q : suc (i + i) ≡ i + i + 1 = omega arith in rw q (get_or-set_same v (i + i + 1) x 0 (omega (arith, h.elements.full)))

      even : (k : ℕ) → k < i + 1 → Dec (k < i) → get_or (set v (i + i + 1) x) (suc (k + k)) 0 ≡ product f (get_or (set v (i + i + 1) x) k 0) (get_or (set v (i + i + 1) x) k 0)
      even k m (yes n) = rw (other (suc (k + k)) (omega arith), other k (omega arith)) (h.even k n)
      even k m (no n) = let q : k ≡ i = omega arith in rw (q, here, other i (omega arith)) e.value

  pub squaring-end : {s v : List ℕ} (t : ℕ) → Squaring s t v → Squared f t s v
  squaring-end t h = record { elements = h.elements; odd = λ i l. h.odd i; even = h.even }

  -- ---- the syndromes

  pub listed-value : (w : Word) (j : ℕ) → power_sum f (descending w) (suc j) ≡ value f w (a^ f (suc j))
  unfolding listed
  listed-value w j = sym (listed-power-sum f w j) ∙ sym (value-power-sum f w j)

  pub syndromes-made : {v s : List ℕ} (t x : ℕ) → Summed f t (replicate 128 0) (descending (digits x (degree f * t))) v → Squared f t v s → Syndromes f t x s
  syndromes-made {v} {s} t x h g = record { elements = g.elements; values = λ j l. values (suc j) j (omega arith) l }
    where
      odd : (i : ℕ) → i < t → get_or s (i + i) 0 ≡ value f (digits x (degree f * t)) (a^ f (suc (i + i)))
      odd i l = g.odd i l ∙ h.sums i l ∙ rw (zeros-at 128 (i + i)) (listed-value (digits x (degree f * t)) (i + i))

      values : (k j : ℕ) → j < k → j < 2 * t → get_or s j 0 ≡ value f (digits x (degree f * t)) (a^ f (suc j))
      values zero j m l = absurd (omega arith)
      values (suc k) j m l = go (j / 2) (ℕ_discrete j (j / 2 + j / 2)) refl (values k)
        where
          go : (i : ℕ) → Dec (j ≡ i + i) → j / 2 ≡ i → ((j : ℕ) → j < k → j < 2 * t → get_or s j 0 ≡ value f (digits x (degree f * t)) (a^ f (suc j)))
              → get_or s j 0 ≡ value f (digits x (degree f * t)) (a^ f (suc j))
          go i (yes e) q r = rw e (odd i (omega arith))
          go i (no e) q r =
              let b : j ≡ suc (i + i) = omega arith in
              let d : suc (suc (i + i)) ≡ suc i + suc i = omega arith in
              rw (b, g.even i (omega arith), r i (omega arith) (omega arith), d) (sym (value-square f (digits x (degree f * t)) (suc i)))

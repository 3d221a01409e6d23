-- Laws of arrays as series: the turns of each loop of the key equation, and the steps of the algorithm.
use mathlib.Core.Path.{◌≡◌, refl, sym, ap, ap₂, ◌∙◌, fun_ext}
use mathlib.Core.List.{List}
use Prim.Native.Nat.{ℕ, zero, suc, ◌+◌, ◌-◌, ◌≤◌, ◌<◌}
use native.Mathlib.Omega.{arith}
use native.Mathlib.Numerals.{add-one}
use native.Mathlib.Decide.{dec_lt}
use lib.ListN.{get_or, set, length-set, replicate}
use lib.Seq.{get_or-set_same, get_or-set_other}
use Rattle.algebra.specs.Field.{BinaryField}
use Rattle.algebra.specs.Series.{cons, shift, conv}
use Rattle.algebra.specs.Polynomial.{value}
use Rattle.algebra.specs.Recurrence.{unit-series}
use Rattle.algebra.specs.Binary.{Squares}
use Rattle.algebra.specs.Number.{Numbers}
use Rattle.algebra.specs.Array.{Small, coef, dot, mix-of, Holds}
use Rattle.algebra.proofs.Field.{mul-nil, add-nil}
use Rattle.algebra.proofs.Series.{shift_zero, shift_suc, shift-low, shift-at}
use Rattle.algebra.proofs.Sum.{sum-zero, sum-suc, conv-short}
use Rattle.algebra.proofs.Polynomial.{value-suc}
use Rattle.algebra.proofs.Binary.{binary-initial, binary-keep, binary-patch, binary-grow}
use Rattle.algebra.proofs.Number.{el-zero}

module _ (K : BinaryField) (N : Numbers K) where
  open K use {carrier as F, add as ◌⊕◌, mul as ◌⊗◌, nil as 𝟘}

  infixl 60 ◌⊕◌
  infixl 70 ◌⊗◌
  -- The sum of a discrepancy, one term more: p is the product, r the new sum.
  pub dot-zero : (c s : List ℕ) (k : ℕ) → N.el 0 ≡ dot K N c s k 0
  unfolding dot
  dot-zero c s k = N.el-nil ∙ sym (sum-zero K _)

  pub dot-next : (c s : List ℕ) (k i acc p r : ℕ) → N.el acc ≡ dot K N c s k i → N.el p ≡ N.el (get_or c i 0) ⊗ N.el (get_or s (k - i) 0)
      → N.el r ≡ N.el acc ⊕ N.el p → N.el r ≡ dot K N c s k (i + 1)
  unfolding dot coef
  dot-next c s k i acc p r h q e = rw (add-one i, sum-suc K i (λ j. coef K N c j ⊗ coef K N s (k - j)), e, h, q)

  -- Horner's rule, one coefficient more: p is the product, r the new value.
  pub value-next : (c : List ℕ) (x i acc p r : ℕ) → N.el acc ≡ value K (coef K N c) (N.el x) i → N.el p ≡ N.el x ⊗ N.el acc
      → N.el r ≡ N.el p ⊕ N.el (get_or c (i + 1) 0) → N.el r ≡ value K (coef K N c) (N.el x) (i + 1)
  unfolding coef
  value-next c x i acc p r h q e = e ∙ rw (add-one i, value-suc K (coef K N c) (N.el x) i, q, h)

  -- r is c with the first i terms of q x^gap u added to it
  pub record Mixed (c u : List ℕ) (q gap : ℕ) (r : List ℕ) (i : ℕ) : Type 0 where
    pub small : Small K N r
    pub mixed : (j : ℕ) → j < i → coef K N r (gap + j) ≡ coef K N c (gap + j) ⊕ N.el q ⊗ coef K N u j
    pub below : (j : ℕ) → j < gap → get_or r j 0 ≡ get_or c j 0
    pub above : (j : ℕ) → gap + i ≤ j → get_or r j 0 ≡ get_or c j 0

  pub mixed-start : {c u : List ℕ} {q gap : ℕ} → Small K N c → Mixed c u q gap c 0
  mixed-start m = record { small = m; mixed = λ j l. absurd (omega arith); below = λ j l. refl; above = λ j l. refl }

  -- One term more: p is the product, v the new entry.
  pub mixed-next : {c u : List ℕ} {q gap : ℕ} {r : List ℕ} {i p v : ℕ} → gap + i < 128 → Mixed c u q gap r i → N.el p ≡ N.el q ⊗ N.el (get_or u i 0)
      → v < N.size → N.el v ≡ N.el (get_or r (gap + i) 0) ⊕ N.el p → Mixed c u q gap (set r (gap + i) v) (i + 1)
  unfolding coef
  mixed-next {c} {u} {q} {gap} {r} {i} {p} {v} l m product small-v sum = record {
    small = record { full = simp length-set m.small.full; small = λ j. small₁ j (dec_lt j (gap + i)) (dec_lt (gap + i) j) };
    mixed = λ j k. mixed₁ j k (dec_lt j i);
    below = λ j k. other j (omega arith) ∙ m.below j k;
    above = λ j k. other j (omega arith) ∙ m.above j (omega arith);
  }
    where
      same : get_or (set r (gap + i) v) (gap + i) 0 ≡ v
      same = get_or-set_same r (gap + i) v 0 (omega (arith, m.small.full))

      other : (j : ℕ) → ¬ (j ≡ gap + i) → get_or (set r (gap + i) v) j 0 ≡ get_or r j 0
      other j k = get_or-set_other r (gap + i) j v 0 k

      small₁ : (j : ℕ) → Dec (j < gap + i) → Dec (gap + i < j) → get_or (set r (gap + i) v) j 0 < N.size
      small₁ j (yes h) g = rw (other j (omega arith)) (m.small.small j)
      small₁ j (no h) (yes g) = rw (other j (omega arith)) (m.small.small j)
      small₁ j (no h) (no g) = let e : j ≡ gap + i = omega arith in rw (e, same) small-v

      mixed₁ : (j : ℕ) → j < i + 1 → Dec (j < i) → N.el (get_or (set r (gap + i) v) (gap + j) 0) ≡ N.el (get_or c (gap + j) 0) ⊕ N.el q ⊗ N.el (get_or u j 0)
      mixed₁ j k (yes h) = ap N.el (other (gap + j) (omega arith)) ∙ m.mixed j h
      mixed₁ j k (no h) = let e : j ≡ i = omega arith in
          rw e (ap N.el same ∙ sum ∙ ap₂ ◌⊕◌ (ap N.el (m.above (gap + i) (omega arith))) product)

  -- All terms are added, where u has no more.
  pub mixed-end : {c u : List ℕ} {q gap : ℕ} {r : List ℕ} {i : ℕ} → Mixed c u q gap r i → ((j : ℕ) → i ≤ j → get_or u j 0 ≡ 0)
      → (j : ℕ) → coef K N r j ≡ mix-of K N c u q gap j
  unfolding mix-of
  mixed-end {c} {u} {q} {gap} {r} {i} m end j = go (dec_lt j gap)
    where
      nothing : (x y : F) → y ≡ 𝟘 → x ≡ x ⊕ N.el q ⊗ y
      nothing x y z = sym (rw (z, mul-nil K (N.el q)) (add-nil K x))

      high : (h : ℕ) → Dec (h < i) → coef K N r (gap + h) ≡ coef K N c (gap + h) ⊕ N.el q ⊗ coef K N u h
      high h (yes l) = m.mixed h l
      high h (no l) = unfold coef in ap N.el (m.above (gap + h) (omega arith)) ∙ nothing _ _ (ap N.el (end h (omega arith)) ∙ N.el-nil)

      go : Dec (j < gap) → coef K N r j ≡ coef K N c j ⊕ N.el q ⊗ shift K gap (coef K N u) j
      go (yes l) = unfold coef in ap N.el (m.below j l) ∙ nothing _ _ (shift-low K gap (coef K N u) j l)
      go (no l) = let e : j ≡ gap + (j - gap) = omega arith in rw (e, shift-at K gap (coef K N u) (j - gap)) (high (j - gap) (dec_lt (j - gap) i))

  module _ {s : List ℕ} {h len b : ℕ} {c u : List ℕ} {gap : ℕ} (holds : Holds K N s h len b c u gap) where
    -- The update has 2h + 2 - len - gap terms.
    pub holds-terms : (j : ℕ) → h + h + 2 ≤ len + gap + j → get_or u j 0 ≡ 0
    holds-terms j l =
        el-zero K N _ (holds.small-u.small j)
        (unfold coef in sym (shift-at K gap (coef K N u) j) ∙ holds.state.state.short (gap + j) (omega arith))

    -- The three ways of a step, by the discrepancy d.
    module _ {n : ℕ} (squares : Squares K (coef K N s) n) (fits : suc (h + h) < n) {d : ℕ} (is : N.el d ≡ dot K N c s (h + h) (suc len)) where
      discrepancy : conv K (coef K N c) (coef K N s) (h + h) ≡ N.el d
      unfolding dot
      discrepancy = conv-short K (coef K N c) (coef K N s) len (h + h) holds.state.state.fits holds.state.state.generates.short ∙ sym is

      shifted : shift K (gap + 2) (coef K N u) ≡ cons K 𝟘 (cons K 𝟘 (shift K gap (coef K N u)))
      shifted = let e : gap + 2 ≡ suc (suc gap) = omega arith in rw (e, shift_suc K (suc gap) (coef K N u), shift_suc K gap (coef K N u))

      pub holds_kept : d ≡ 0 → Holds K N s (h + 1) len b c u (gap + 2)
      holds_kept z = record {
        state = rw (add-one h, shifted) (binary-keep K _ _ _ _ _ _ holds.state n squares fits (discrepancy ∙ ap N.el z ∙ N.el-nil));
        small-c = holds.small-c;
        small-u = holds.small-u;
        small_b = holds.small_b;
        room = omega (arith, holds.room);
      }

      module _ {q : ℕ} {v : List ℕ} (quotient : N.el b ⊗ N.el q ≡ N.el d) (small-v : Small K N v)
          (mixed : (i : ℕ) → coef K N v i ≡ mix-of K N c u q gap i) where
        all : coef K N v ≡ (λ i. coef K N c i ⊕ N.el q ⊗ shift K gap (coef K N u) i)
        unfolding mix-of
        all = fun_ext mixed

        pub holds-patched : h + h < len + len → Holds K N s (h + 1) len b v u (gap + 2)
        holds-patched l = record {
          state = rw (add-one h, shifted, all) (binary-patch K _ _ _ _ _ _ holds.state n squares fits (N.el d) (N.el q) discrepancy quotient l);
          small-c = small-v;
          small-u = holds.small-u;
          small_b = holds.small_b;
          room = omega (arith, holds.room);
        }

        pub holds-grown : d < N.size → ¬ (d ≡ 0) → len + len ≤ h + h → Holds K N s (h + 1) (h + h + 1 - len) d v c 2
        holds-grown small-d nonzero l = record {
          state =
              let e : h + h + 1 - len ≡ suc (h + h) - len = omega arith in
              rw (add-one h, e, shift_suc K 1 (coef K N c), shift_suc K 0 (coef K N c), shift_zero K (coef K N c), all)
              (binary-grow K _ _ _ _ _ _ holds.state n squares fits (N.el d) (N.el q) discrepancy quotient (λ z. nonzero (el-zero K N d small-d z)) l);
          small-c = small-v;
          small-u = holds.small-c;
          small_b = small-d;
          room = omega arith;
        }

  zeros : (n i : ℕ) → get_or {A = ℕ} (replicate n 0) i 0 ≡ 0
  zeros zero i = refl
  zeros (suc n) zero = refl
  zeros (suc n) (suc i) = zeros n i

  first : List ℕ
  first = set (replicate 128 0) 0 1

  first-coef : (i : ℕ) → coef K N first i ≡ unit-series K i
  unfolding first coef unit-series cons
  first-coef zero = N.el-one
  first-coef (suc i) = ap N.el (zeros 127 i) ∙ N.el-nil

  first_small : Small K N first
  unfolding first
  first_small = record { full = refl; small = each }
    where
      each : (i : ℕ) → get_or {A = ℕ} (set (replicate 128 0) 0 1) i 0 < N.size
      each zero = N.more
      each (suc i) = rw (zeros 127 i) (omega (arith, N.more))

  pub holds-start : (s : List ℕ) → Holds K N s 0 0 1 (set (replicate 128 0) 0 1) (set (replicate 128 0) 0 1) 1
  unfolding first
  holds-start s = record {
    state = let e : coef K N first ≡ unit-series K = fun_ext first-coef in
        rw (shift_suc K 0 (coef K N first), shift_zero K (coef K N first), e, N.el-one) (binary-initial K (coef K N s));
    small-c = first_small;
    small-u = first_small;
    small_b = N.more;
    room = omega arith;
  }

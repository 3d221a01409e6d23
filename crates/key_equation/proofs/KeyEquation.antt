-- The turns of the loops of the key equation, from the results on numbers to the laws of crate `algebra`.
use mathlib.Core.Path.{◌≡◌, sym, ap, ◌∙◌}
use mathlib.Core.List.{List}
use Prim.Native.Nat.{ℕ, suc, ◌+◌, ◌-◌, ◌^◌, ◌≤◌, ◌<◌}
use native.Mathlib.Nat.{pos_of_ne-zero}
use native.Mathlib.Omega.{arith}
use lib.Bits.{bit_xor}
use lib.ListN.{get_or}
use lib.Pow.{pow_pos}
use Rattle.algebra.specs.Binary.{Squares}
use Rattle.algebra.specs.Array.{coef, dot, Holds}
use Rattle.algebra.proofs.Array.{dot-zero, dot-next, holds-terms, holds_kept, holds-patched, holds-grown}
use Rattle.field.specs.declared.Field.{Field}
use Rattle.field.specs.Field.{degree, modulus, mul, a^, Elem}
use Rattle.field.proofs.Order.{a^-below}
use Rattle.field.proofs.Primitive.{primitive}
use Rattle.field.proofs.Instance.{gf, num, num-below, below-num, num-mul}
use Rattle.series.specs.Series.{Represents, Elements, Updated}
use Rattle.key_equation.specs.KeyEquation.{PowerSums}
use Rattle.series.proofs.Element.{series, elements-small, represents-self, represents-product, represents-sum}

module _ (f : Field) where
  pub discrepancy-start : (c s : List ℕ) (k : ℕ) → Represents f (gf f) (num f) (dot (gf f) (num f) c s k 0) 0
  discrepancy-start c s k = record { low = pow_pos (degree f); is = dot-zero (gf f) (num f) c s k }

  -- The discrepancy's sum, one product p more.
  pub discrepancy-next : {s c : List ℕ} (k i : ℕ) {v p : ℕ} → Elements f s → Elements f c → Represents f (gf f) (num f) (dot (gf f) (num f) c s k i) v
      → Elem (degree f) (mul (degree f) (modulus f) (get_or c i 0) (get_or s (k - i) 0)) p → Represents f (gf f) (num f) (dot (gf f) (num f) c s k (i + 1)) (bit_xor v p)
  discrepancy-next {s} {c} k i {v} {p} m n h e =
      let q = represents-product f (n.small i) (m.small (k - i)) e in
      let r = represents-sum f (represents-self f h.low) (represents-self f q.low) in
      record { low = r.low; is = dot-next (gf f) (num f) c s k i v p (bit_xor v p) h.is q.is r.is }

  -- What a step asks of what the algorithm holds: it can divide by b, and the update has no more terms than are added.
  module _ {s : List ℕ} {h len b : ℕ} {c u : List ℕ} {gap : ℕ} (holds : Holds (gf f) (num f) s h len b c u gap) where
    pub step-divisor : (0 < b) × (b < 2 ^ degree f)
    step-divisor = (pos_of_ne-zero (λ z. holds.state.state.unit (ap (num f).el z ∙ (num f).el-nil)), below-num f holds.small_b)

    pub step-terms : (j : ℕ) → h + h + 2 - len - gap ≤ j → get_or u j 0 ≡ 0
    step-terms j l = holds-terms (gf f) (num f) holds j (omega (arith, holds.room))

  module _ {s : List ℕ} {t h len b : ℕ} {c u : List ℕ} {gap : ℕ} (sums : PowerSums f s t) (less : h < t) (holds : Holds (gf f) (num f) s h len b c u gap) where
    sums-squares : Squares (gf f) (series f s) (t + t)
    unfolding coef
    sums-squares i l = ap (num f).el (sums.squares i l) ∙ num-mul f (get_or s i 0) (get_or s i 0) (sums.elements.small i) (sums.elements.small i)

    -- The three ways of a step, by the discrepancy d and the quotient a^e = d / b.
    module _ {d : ℕ} (is : Represents f (gf f) (num f) (dot (gf f) (num f) c s (h + h) (suc len)) d) where
      pub step_kept : d ≡ 0 → Holds (gf f) (num f) s (h + 1) len b c u (gap + 2)
      step_kept = holds_kept (gf f) (num f) holds sums-squares (omega arith) is.is

      module _ (e : ℕ) {v : List ℕ} (quotient : mul (degree f) (modulus f) b (a^ f e) ≡ d) (updated : Updated f (gf f) (num f) c u e gap v) where
        divides : (gf f).mul ((num f).el b) ((num f).el (a^ f e)) ≡ (num f).el d
        divides = sym (num-mul f b (a^ f e) (step-divisor holds).1 (a^-below (primitive f) e)) ∙ ap (num f).el quotient

        pub step-patched : h + h < len + len → Holds (gf f) (num f) s (h + 1) len b v u (gap + 2)
        step-patched = holds-patched (gf f) (num f) holds sums-squares (omega arith) is.is divides (elements-small f updated.elements) updated.mixed

        pub step-grown : ¬ (d ≡ 0) → len + len ≤ h + h → Holds (gf f) (num f) s (h + 1) (h + h + 1 - len) d v c 2
        step-grown =
            holds-grown (gf f) (num f) holds sums-squares (omega arith) is.is divides (elements-small f updated.elements) updated.mixed (num-below f is.low)

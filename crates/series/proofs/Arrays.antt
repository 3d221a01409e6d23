-- Arrays of 128 elements: one entry more, and the update of one array by another.
use mathlib.Core.Path.{◌≡◌}
use mathlib.Core.List.{List}
use Prim.Native.Nat.{ℕ, ◌+◌, ◌^◌, ◌≤◌, ◌<◌}
use native.Mathlib.Omega.{arith}
use lib.Bits.{bit_xor}
use lib.ListN.{get_or, set, length-set, replicate, length-replicate, get_or-replicate, get_or-eq_default}
use lib.Pow.{pow_pos}
use Rattle.algebra.proofs.Array.{Mixed, mixed-next, mixed-end}
use Rattle.field.specs.declared.Field.{Field}
use Rattle.field.specs.Field.{degree, modulus, mul, a^, Elem}
use Rattle.field.proofs.Instance.{gf, num, num-below, below-num}
use Rattle.series.specs.Series.{Elements, Updated}
use Rattle.series.proofs.Element.{small-elements, represents-self, represents-scaled, represents-sum}
use native.Mathlib.Decide.{dec_lt}
use lib.Seq.{get_or-set_same, get_or-set_other}

pub zeros-at : (n j : ℕ) → get_or {A = ℕ} (replicate {A = ℕ} n 0) j 0 ≡ 0
zeros-at n j = elim (dec_lt j n) [
  | yes h ↦ get_or-replicate {A = ℕ} n j 0 0 h
  | no h ↦ get_or-eq_default {A = ℕ} (replicate {A = ℕ} n 0) 0 (rw (length-replicate {A = ℕ} n 0) (omega arith))
]

module _ (f : Field) where
  pub elements-set : {l : List ℕ} (i v : ℕ) → i < 128 → Elements f l → v < 2 ^ degree f → Elements f (set l i v)
  elements-set {l} i v inside h less = record { full = simp length-set h.full; small = λ j. go j (dec_lt j i) (dec_lt i j) }
    where
      go : (j : ℕ) → Dec (j < i) → Dec (i < j) → get_or (set l i v) j 0 < 2 ^ degree f
      go j (yes p) q = rw (get_or-set_other l i j v 0 (omega arith)) (h.small j)
      go j (no p) (yes q) = rw (get_or-set_other l i j v 0 (omega arith)) (h.small j)
      go j (no p) (no q) = let e : j ≡ i = omega arith in rw (e, get_or-set_same l i v 0 (omega (arith, h.full))) less

  pub elements-zero : Elements f (replicate 128 0)
  elements-zero = record { full = length-replicate {A = ℕ} 128 0; small = λ j. rw (zeros-at 128 j) (pow_pos (degree f)) }

  -- The update of a recurrence, one term more: p is the product.
  pub update-next : {c u : List ℕ} (e : ℕ) {gap : ℕ} {r : List ℕ} {i p : ℕ} → Elements f u → gap + i < 128 → Mixed (gf f) (num f) c u (a^ f e) gap r i
      → Elem (degree f) (mul (degree f) (modulus f) (get_or u i 0) (a^ f e)) p
      → Mixed (gf f) (num f) c u (a^ f e) gap (set r (gap + i) (bit_xor (get_or r (gap + i) 0) p)) (i + 1)
  update-next {c} {u} e {gap} {r} {i} {p} m l h x =
      let q = represents-scaled f e (m.small i) x in
      let s = represents-sum f (represents-self f (below-num f (h.small.small (gap + i)))) (represents-self f q.low) in
      mixed-next (gf f) (num f) l h q.is (num-below f s.low) s.is

  pub update-end : {c u : List ℕ} {e gap : ℕ} {r : List ℕ} {i : ℕ} → Mixed (gf f) (num f) c u (a^ f e) gap r i → ((j : ℕ) → i ≤ j → get_or u j 0 ≡ 0)
      → Updated f (gf f) (num f) c u e gap r
  update-end h end = record { elements = small-elements f h.small; mixed = mixed-end (gf f) (num f) h end }

-- Laws of the lanes at the places of the sums with odd j.
use mathlib.Core.Path.{◌≡◌, sym, ap, ◌∙◌}
use mathlib.Core.List.{List}
use Prim.Native.Nat.{ℕ, suc, ◌+◌, ◌^◌, ◌≤◌, ◌<◌}
use native.Mathlib.Omega.{arith}
use native.Mathlib.Decide.{dec_lt, ℕ_discrete}
use lib.Bits.{bit_xor, xor_zero_l}
use lib.ListN.{length, get_or, set, replicate, length-set, length-replicate}
use lib.Pow.{pow_pos}
use lib.Seq.{get_or-set_same, get_or-set_other}
use Rattle.bits.specs.Bits.{digits}
use Rattle.field.specs.declared.Field.{Field}
use Rattle.field.specs.Field.{degree}
use Rattle.code.specs.Word.{descending}
use Rattle.code.specs.Locations.{power_sum}
use Rattle.series.specs.Series.{Elements}
use Rattle.series.proofs.Arrays.{zeros-at}
use Rattle.syndrome_lanes.specs.Lanes.{terms, Lanes}
use Rattle.syndrome_lanes.proofs.Rows.{lanes-below}
use Rattle.syndromes.specs.PowerSums.{Summed, Spread}

pub record Spreading (t : ℕ) (lanes : List ℕ) (i : ℕ) (v : List ℕ) : Type 0 where
  pub full : length v ≡ 128
  pub done : (k : ℕ) → k < i → get_or v (k + k) 0 ≡ get_or lanes k 0
  pub small : (b : ℕ) → 0 < b → ((i : ℕ) → i < t → get_or lanes i 0 < b) → (k : ℕ) → get_or v k 0 < b

pub spreading-start : {lanes : List ℕ} {t : ℕ} → Spreading t lanes 0 (replicate 128 0)
spreading-start = record { full = length-replicate {A = ℕ} 128 0; done = λ k l. absurd (omega arith); small = λ b p h k. rw (zeros-at 128 k) p }

pub spreading-next : {lanes v : List ℕ} {t : ℕ} (i : ℕ) → t ≤ 62 → i < t → Spreading t lanes i v → Spreading t lanes (i + 1) (set v (i + i) (get_or lanes i 0))
spreading-next {lanes} {v} {t} i m l h = record { full = simp length-set h.full; done = λ k n. go k n (dec_lt k i); small = small }
  where
    x : ℕ
    x = get_or lanes i 0

    other : (k : ℕ) → (k ≡ i + i → ⊥) → get_or (set v (i + i) x) k 0 ≡ get_or v k 0
    other k n = get_or-set_other v (i + i) k x 0 n

    here : get_or (set v (i + i) x) (i + i) 0 ≡ x
    here = get_or-set_same v (i + i) x 0 (omega (arith, h.full))

    go : (k : ℕ) → k < i + 1 → Dec (k < i) → get_or (set v (i + i) x) (k + k) 0 ≡ get_or lanes k 0
    go k n (yes q) = other (k + k) (omega arith) ∙ h.done k q
    go k n (no q) = let c : k ≡ i = omega arith in rw c here

    small : (b : ℕ) → 0 < b → ((i : ℕ) → i < t → get_or lanes i 0 < b) → (k : ℕ) → get_or (set v (i + i) x) k 0 < b
    small b p g k = elim (ℕ_discrete k (i + i)) [
      | yes e ↦ rw (e, here) (g i l)
      | no e ↦ rw (other k e) (h.small b p g k)
    ]

pub spreading-end : {lanes v : List ℕ} (t : ℕ) → Spreading t lanes t v → Spread t lanes v
spreading-end t h = record { full = h.full; at = h.done; small = h.small }

module _ (f : Field) where
  pub spread-elements : {lanes v : List ℕ} (t x n : ℕ) → Lanes f t x n lanes → Spread t lanes v → Elements f v
  spread-elements t x n h g = record { full = g.full; small = g.small (2 ^ degree f) (pow_pos (degree f)) (lanes-below f t h) }

  pub lanes-summed : {lanes v : List ℕ} (t x n : ℕ) → Lanes f t x n lanes → Spread t lanes v → Summed f t (replicate 128 0) (descending (digits x n)) v
  unfolding terms
  lanes-summed t x n h g = record {
    elements = spread-elements t x n h g;
    sums = λ i l. g.at i l ∙ h.lane i l ∙ sym (ap (λ z. bit_xor z (power_sum f (descending (digits x n)) (suc (i + i)))) (zeros-at 128 (i + i)) ∙ xor_zero_l _);
  }

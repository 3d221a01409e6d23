-- The turns of the loops of the complete search, from the results on numbers to the laws of crate `algebra`.
--
-- Searching f c len n l found p    the search for roots before p: `found` of them are listed in l
use mathlib.Core.Path.{◌≡◌, refl, sym, ◌∙◌}
use mathlib.Core.List.{List}
use Prim.Native.Nat.{ℕ, ◌+◌, ◌≤◌, ◌<◌}
use native.Mathlib.Omega.{arith}
use lib.Bits.{bit_xor}
use lib.ListN.{get_or, length, set, length-set, replicate}
use Rattle.algebra.specs.Polynomial.{pow, value}
use Rattle.algebra.specs.Array.{coef}
use Rattle.algebra.proofs.Polynomial.{value-zero}
use Rattle.algebra.proofs.Array.{value-next}
use Rattle.algebra.proofs.Number.{el-zero}
use Rattle.algebra.specs.Search.{Found}
use Rattle.algebra.proofs.Search.{found-start, found-root, found_none, found_all}
use Rattle.field.specs.declared.Field.{Field}
use Rattle.field.specs.Field.{degree, modulus, longest, mul, a^, Elem}
use Rattle.field.proofs.Instance.{gf, num, num-below, num-pow, a, order}
use Rattle.series.specs.Series.{Represents, Elements}
use Rattle.series.proofs.Element.{series, represents-self, represents-entry, represents-scaled, represents-sum}

module _ (f : Field) where
  pub value-at-start : {c : List ℕ} (p : ℕ) → Elements f c → Represents f (gf f) (num f) (value (gf f) (series f c) (pow (gf f) (a f) p) 0) (get_or c 0 0)
  value-at-start {c} p m = let r = represents-entry f m 0 in record { low = r.low; is = r.is ∙ sym (value-zero (gf f) (series f c) (pow (gf f) (a f) p)) }

  -- Horner's rule, one coefficient more: q is the product with a^p.
  pub value-at-next : {c : List ℕ} (p i : ℕ) {v q : ℕ} → Elements f c → Represents f (gf f) (num f) (value (gf f) (series f c) (pow (gf f) (a f) p) i) v
      → Elem (degree f) (mul (degree f) (modulus f) v (a^ f p)) q
      → Represents f (gf f) (num f) (value (gf f) (series f c) (pow (gf f) (a f) p) (i + 1)) (bit_xor q (get_or c (i + 1) 0))
  value-at-next {c} p i {v} {q} m h e =
      let s = represents-scaled f p h.low e in
      let r = represents-sum f (represents-self f s.low) (represents-self f (m.small (i + 1))) in
      record {
        low = r.low;
        is =
            rw (num-pow f p) at
            (value-next (gf f) (num f) c (a^ f p) i v q (bit_xor q (get_or c (i + 1) 0)) (rw (num-pow f p) h.is) s.is r.is);
      }

  pub record Searching (c : List ℕ) (len n : ℕ) (l : List ℕ) (found p : ℕ) : Type 0 where
    pub within : p ≤ n
    pub few : found ≤ len
    pub full : length l ≡ 64
    pub located : Found (gf f) (num f) c len (a f) l p found

  pub searching-start : {c : List ℕ} {len n : ℕ} → Searching c len n (replicate 64 0) 0 0
  searching-start = record { within = omega arith; few = omega arith; full = refl; located = found-start (gf f) (num f) _ _ (a f) _ }

  module _ {c : List ℕ} {len n : ℕ} {l : List ℕ} {found p : ℕ} (s : Searching c len n l found p) where
    module _ (fits : len ≤ 64) (less : p < n) (more : ¬ (found ≡ len)) {v : ℕ}
        (is : Represents f (gf f) (num f) (value (gf f) (series f c) (pow (gf f) (a f) p) len) v) where
      valued : (num f).el v ≡ value (gf f) (coef (gf f) (num f) c) ((num f).el (a^ f p)) len
      valued = rw (num-pow f p) is.is

      pub searching-root : v ≡ 0 → Searching c len n (set l found p) (found + 1) (p + 1)
      searching-root z = record {
        within = omega arith;
        few = omega (arith, s.few);
        full = simp length-set s.full;
        located = found-root (gf f) (num f) c len (a f) s.located (num-pow f p) (num-below f is.low) valued z (omega (arith, s.few, s.full));
      }

      pub searching-none : ¬ (v ≡ 0) → Searching c len n l found (p + 1)
      searching-none z = record {
        within = omega arith;
        few = s.few;
        full = s.full;
        located = found_none (gf f) (num f) c len (a f) s.located (num-pow f p) (num-below f is.low) valued z;
      }

    -- As many roots as the degree are all the roots.
    pub searching-full : Elements f c → 0 < get_or c 0 0 → n ≤ longest f → found ≡ len → Found (gf f) (num f) c len (a f) l n found
    unfolding coef
    searching-full m positive fits e =
        rw e
        (found_all (gf f) (num f) c len (a f) (rw e at s.located) (longest f) (order f)
        (λ z. omega (arith, el-zero (gf f) (num f) (get_or c 0 0) (num-below f (m.small 0)) z)) n s.within fits)

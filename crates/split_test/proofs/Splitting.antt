-- A polynomial that has as many roots among the powers of a as its degree leaves x where x^(2^m) is divided by it: squares and
-- remainders keep the values at the roots, and z^(2^m) is z at each. So where another polynomial is left there are fewer roots.
use mathlib.Core.Path.{◌≡◌, refl, sym, ap, ◌∙◌}
use mathlib.Core.List.{List}
use Prim.Native.Nat.{ℕ, zero, suc, ◌+◌, ◌*◌, ◌^◌, ◌-◌, ◌<◌}
use native.Mathlib.Nat.{zero-add, suc-add, add-zero, add-suc, mul-suc, mul_comm}
use native.Mathlib.Numerals.{add-one}
use native.Mathlib.Omega.{arith}
use native.Mathlib.Decide.{dec_lt}
use lib.ListN.{get_or, set, replicate, length-set, length-replicate}
use lib.Pow.{pow_pos}
use lib.Seq.{get_or-set_same, get_or-set_other}
use Rattle.algebra.specs.Field.{BinaryField}
use Rattle.algebra.specs.Series.{cons, shift}
use Rattle.algebra.specs.Polynomial.{pow, horner, value}
use Rattle.algebra.specs.Array.{coef, mix-of}
use Rattle.algebra.proofs.Field.{ring, add-nil-eq}
use Rattle.algebra.proofs.Series.{shift-at, shift-low}
use Rattle.algebra.proofs.Polynomial.{pow-zero, pow-suc, pow-add, pow-pow, horner-zero, horner-suc, horner-cong, horner-append, horner-tail, value-horner, value-high, roots-all}
use Rattle.field.specs.declared.Field.{Field}
use Rattle.field.specs.Field.{degree, modulus, longest, mul, a^, Elem}
use Rattle.field.proofs.Multiply.{one_below}
use Rattle.field.proofs.Order.{a^-below, a^-round}
use Rattle.field.proofs.Primitive.{primitive, usable}
use Rattle.field.proofs.Instance.{gf, num, a, num-below, el-same, el-pow, el-one, num-mul}
use Rattle.series.specs.Series.{Elements, Updated}
use Rattle.split_test.specs.Splitting.{Divisor, Zero, Splits, Spread, Cleared, Reduced, Lowered, Squared}
use Rattle.series.proofs.Element.{series, represents-product}
use Rattle.series.proofs.Arrays.{zeros-at, elements-set, elements-zero}

-- ---- words of coefficients at an element

module _ (K : BinaryField) where
  open K use {carrier as F, add as ◌⊕◌, mul as ◌⊗◌, nil as 𝟘, one as 𝟙}

  infixl 60 ◌⊕◌
  infixl 70 ◌⊗◌
  pub horner-nil : (t : ℕ → F) (z : F) (n : ℕ) → ((i : ℕ) → i < n → t i ≡ 𝟘) → horner K t z n ≡ 𝟘
  horner-nil t z zero h = horner-zero K t z
  horner-nil t z (suc n) h = rw (horner-suc K t z n, horner-nil t z n (λ i l. h i (omega arith)), h n (omega arith)) (simp ring)

  pub horner-drop : (t : ℕ → F) (z : F) (d n : ℕ) → ((i : ℕ) → i < d → t i ≡ 𝟘) → horner K t z (d + n) ≡ horner K (λ j. t (d + j)) z n
  horner-drop t z d n h = horner-append K t z d n ∙ rw (horner-nil t z d h) (simp ring)

  pub horner-mix : (f g : ℕ → F) (q z : F) (n : ℕ) → horner K (λ i. f i ⊕ q ⊗ g i) z n ≡ horner K f z n ⊕ q ⊗ horner K g z n
  horner-mix f g q z zero = rw (horner-zero K (λ i. f i ⊕ q ⊗ g i) z, horner-zero K f z, horner-zero K g z) (simp ring)
  horner-mix f g q z (suc n) =
      rw (horner-suc K (λ i. f i ⊕ q ⊗ g i) z n, horner-mix f g q z n, horner-suc K f z n, horner-suc K g z n) (simp ring)

  pub horner-shift : (c : ℕ → F) (z : F) (g n : ℕ) → horner K (shift K g c) z (g + n) ≡ horner K c z n
  unfolding shift cons
  horner-shift c z zero n = rw (zero-add n)
  horner-shift c z (suc g) n = rw (suc-add g n) (horner-tail K (cons K 𝟘 (shift K g c)) z (g + n) refl ∙ horner-shift c z g n)

  -- A multiple of c, moved down by any number of places, adds nothing at a root.
  pub root-mix : (t c : ℕ → F) (q z : F) (gap len r : ℕ) → ((i : ℕ) → len < i → c i ≡ 𝟘) → value K c z len ≡ 𝟘
      → horner K (λ i. t i ⊕ q ⊗ shift K gap c i) z (gap + (suc len + r)) ≡ horner K t z (gap + (suc len + r))
  root-mix t c q z gap len r ends root =
      horner-mix t (shift K gap c) q z (gap + (suc len + r)) ∙ rw (horner-shift c z gap (suc len + r), suc-add len r, ← value-horner K c z (len + r), value-high K c z len r ends, root) (simp ring)

  square-even : (s t : ℕ → F) (z : F) (n : ℕ) → ((i : ℕ) → i < n → t (i + i) ≡ s i ⊗ s i) → ((i : ℕ) → t (suc (i + i)) ≡ 𝟘)
      → horner K t z (n + n) ≡ z ⊗ (horner K s z n ⊗ horner K s z n)
  square-even s t z zero even odd = rw (horner-zero K t z, horner-zero K s z) (simp ring)
  square-even s t z (suc n) even odd =
      let d : suc n + suc n ≡ suc (suc (n + n)) = omega arith in
      rw (
        d,
        horner-suc K t z (suc (n + n)),
        horner-suc K t z (n + n),
        square-even s t z n (λ i l. even i (omega arith)) odd,
        even n (omega arith),
        odd n,
        horner-suc K s z n,
      ) (simp ring)

  -- Squares of coefficients with zeros between have the square as value.
  pub square-value : (s t : ℕ → F) (z : F) (n : ℕ) → ((i : ℕ) → i < suc n → t (i + i) ≡ s i ⊗ s i) → ((i : ℕ) → t (suc (i + i)) ≡ 𝟘)
      → horner K t z (suc (n + n)) ≡ horner K s z (suc n) ⊗ horner K s z (suc n)
  square-value s t z n even odd =
      rw (horner-suc K t z (n + n), square-even s t z n (λ i l. even i (omega arith)) odd, even n (omega arith), horner-suc K s z n) (simp ring)

  pub horner-plus : (f g : ℕ → F) (z : F) (n : ℕ) → horner K (λ i. f i ⊕ g i) z n ≡ horner K f z n ⊕ horner K g z n
  horner-plus f g z zero = rw (horner-zero K (λ i. f i ⊕ g i) z, horner-zero K f z, horner-zero K g z) (simp ring)
  horner-plus f g z (suc n) = rw (horner-suc K (λ i. f i ⊕ g i) z n, horner-plus f g z n, horner-suc K f z n, horner-suc K g z n) (simp ring)

  -- x itself: a one with one coefficient after it
  pub horner-x : (t : ℕ → F) (z : F) (d : ℕ) → ((i : ℕ) → i < d → t i ≡ 𝟘) → t d ≡ 𝟙 → t (suc d) ≡ 𝟘 → horner K t z (suc (suc d)) ≡ z
  horner-x t z d h one end = rw (horner-suc K t z (suc d), horner-suc K t z d, horner-nil t z d h, one, end) (simp ring)

-- ---- the steps of the code

pub lowered-start : {t : List ℕ} {from : ℕ} → Lowered t from 0 (replicate 128 0)
lowered-start = record { full = length-replicate {A = ℕ} 128 0; at = λ j l. absurd (omega arith); past = λ j l. zeros-at 128 j }

pub lowered-next : {t v : List ℕ} {from i : ℕ} → i < 128 → Lowered t from i v → Lowered t from (i + 1) (set v i (get_or t (from + i) 0))
lowered-next {t} {v} {from} {i} inside h = record {
  full = simp length-set h.full;
  at = λ j l. at j l (dec_lt j i);
  past = λ j l. get_or-set_other v i j (get_or t (from + i) 0) 0 (omega arith) ∙ h.past j (omega arith);
}
  where
    at : (j : ℕ) → j < i + 1 → Dec (j < i) → get_or (set v i (get_or t (from + i) 0)) j 0 ≡ get_or t (from + j) 0
    at j l (yes m) = get_or-set_other v i j (get_or t (from + i) 0) 0 (omega arith) ∙ h.at j m
    at j l (no m) = let q : j ≡ i = omega arith in rw q (get_or-set_same v i (get_or t (from + i) 0) 0 (omega (arith, h.full)))

module _ (f : Field) where
  at_zero : (l : List ℕ) (i : ℕ) → get_or l i 0 ≡ 0 → series f l i ≡ (gf f).nil
  unfolding coef
  at_zero l i e = ap (num f).el e ∙ (num f).el-nil

  zeros-nil : (i : ℕ) → series f (replicate 128 0) i ≡ (gf f).nil
  zeros-nil i = at_zero (replicate 128 0) i (zeros-at 128 i)

  pub spread-start : {s : List ℕ} → Spread f (gf f) (num f) s 0 (replicate 128 0)
  spread-start = record { elements = elements-zero f; even = λ i l. absurd (omega arith); odd = λ i. zeros-nil (suc (i + i)) }

  pub spread-next : {s v : List ℕ} (i : ℕ) {r : ℕ} → Elements f s → i + i < 128 → Spread f (gf f) (num f) s i v
      → Elem (degree f) (mul (degree f) (modulus f) (get_or s i 0) (get_or s i 0)) r → Spread f (gf f) (num f) s (i + 1) (set v (i + i) r)
  unfolding coef
  spread-next {s} {v} i {r} small inside h e =
      record {
        elements = elements-set f (i + i) r inside h.elements e.low;
        even = λ k l. even k l (dec_lt k i);
        odd = λ k. ap (num f).el (get_or-set_other v (i + i) (suc (k + k)) r 0 (omega arith)) ∙ h.odd k;
      }
    where
      even : (k : ℕ) → k < i + 1 → Dec (k < i) → (num f).el (get_or (set v (i + i) r) (k + k) 0) ≡ (gf f).mul ((num f).el (get_or s k 0)) ((num f).el (get_or s k 0))
      even k l (yes m) = ap (num f).el (get_or-set_other v (i + i) (k + k) r 0 (omega arith)) ∙ h.even k m
      even k l (no m) =
          let q : k ≡ i = omega arith in
          rw (q, get_or-set_same v (i + i) r 0 (omega (arith, h.elements.full))) (represents-product f (small.small i) (small.small i) e).is

  pub cleared-none : {c t : List ℕ} (len i : ℕ) → Elements f t → get_or t i 0 ≡ 0 → Cleared f (gf f) (num f) c len t i t
  cleared-none {c} {t} len i h e = record { elements = h; zero = at_zero t i e; before = λ j l. refl; same = λ z root r. refl }

  pub cleared-mix : {c t v : List ℕ} {len : ℕ} (i e : ℕ) → Divisor f c len → Elements f t → mul (degree f) (modulus f) (get_or c 0 0) (a^ f e) ≡ get_or t i 0
      → Updated f (gf f) (num f) t c e i v → Cleared f (gf f) (num f) c len t i v
  unfolding coef mix-of
  cleared-mix {c} {t} {v} {len} i e d h quotient u = record {
    elements = u.elements;
    zero = u.mixed i ∙ cleared;
    before = λ j l. u.mixed j
        ∙ ap (λ y. (gf f).add (series f t j) ((gf f).mul ((num f).el (a^ f e)) y)) (shift-low (gf f) i (series f c) j l) ∙ nothing (series f t j);
    same = λ z root r. horner-cong (gf f) (series f v) (mix-of (gf f) (num f) t c (a^ f e) i) z (i + (suc len + r)) (λ j l. u.mixed j)
        ∙ root-mix (gf f) (series f t) (series f c) ((num f).el (a^ f e)) z i len r (λ j l. at_zero c j (d.ends j l)) root;
  }
    where
      nothing : (x : (gf f).carrier) → (gf f).add x ((gf f).mul ((num f).el (a^ f e)) (gf f).nil) ≡ x
      nothing x = simp ring

      first : shift (gf f) i (series f c) i ≡ series f c 0
      first = rw (add-zero i) at (shift-at (gf f) i (series f c) 0)

      product : (gf f).mul ((num f).el (get_or c 0 0)) ((num f).el (a^ f e)) ≡ (num f).el (get_or t i 0)
      product = sym (num-mul f (get_or c 0 0) (a^ f e) (d.elements.small 0) (a^-below (primitive f) e)) ∙ ap (num f).el quotient

      cleared : (gf f).add (series f t i) ((gf f).mul ((num f).el (a^ f e)) (shift (gf f) i (series f c) i)) ≡ (gf f).nil
      cleared =
          ap ((gf f).add (series f t i)) (ap ((gf f).mul ((num f).el (a^ f e))) first ∙ (gf f).mul_comm _ _ ∙ product) ∙ (gf f).add-self (series f t i)

  -- The loop of a division before the coefficient i.
  pub record Reducing (c : List ℕ) (len : ℕ) (t : List ℕ) (n i : ℕ) (v : List ℕ) : Type 0 where
    pub elements : Elements f v
    pub zeros : (j : ℕ) → j < i → series f v j ≡ (gf f).nil
    pub same : (z : (gf f).carrier) → Zero (gf f) (num f) c len z → horner (gf f) (series f v) z (suc (n + n)) ≡ horner (gf f) (series f t) z (suc (n + n))

  pub reducing-start : {c t : List ℕ} (len n : ℕ) → Elements f t → Reducing c len t n 0 t
  reducing-start len n h = record { elements = h; zeros = λ j l. absurd (omega arith); same = λ z root. refl }

  pub reducing-next : {c t v u : List ℕ} {n i : ℕ} → i < n → Reducing c (suc n) t n i v → Cleared f (gf f) (num f) c (suc n) v i u → Reducing c (suc n) t n (i + 1) u
  reducing-next {c} {t} {v} {u} {n} {i} l h g = record {
    elements = g.elements;
    zeros = λ j m. zeros j m (dec_lt j i);
    same = λ z root.
        let q : suc (n + n) ≡ i + (suc (suc n) + (n - 1 - i)) = omega arith in
        rw q (g.same z root (n - 1 - i)) ∙ h.same z root;
  }
    where
      zeros : (j : ℕ) → j < i + 1 → Dec (j < i) → series f u j ≡ (gf f).nil
      zeros j m (yes k) = g.before j k ∙ h.zeros j k
      zeros j m (no k) = let q : j ≡ i = omega arith in rw q g.zero

  pub reducing-end : {c t v : List ℕ} {len n : ℕ} → Reducing c len t n n v → Reduced f (gf f) (num f) c len t n v
  reducing-end h = record { elements = h.elements; zeros = h.zeros; same = h.same }

  -- The square of a polynomial, reduced.
  pub squared-made : {c s w v u : List ℕ} {n : ℕ} → Spread f (gf f) (num f) s (suc n) w → Reduced f (gf f) (num f) c (suc n) w n v → Lowered v n (suc n) u → Squared f (gf f) (num f) c (suc n) s u
  unfolding coef
  squared-made {c} {s} {w} {v} {u} {n} spread reduced lowered = record {
    elements = record { full = lowered.full; small = λ j. small j (dec_lt j (suc n)) };
    squares = λ z root.
        horner-cong (gf f) (series f u) (λ j. series f v (n + j)) z (suc n) (λ j l. ap (num f).el (lowered.at j l))
        ∙ sym (horner-drop (gf f) (series f v) z n (suc n) reduced.zeros)
        ∙ rw (add-suc n n) (reduced.same z root)
        ∙ square-value (gf f) (series f s) (series f w) z n spread.even spread.odd;
  }
    where
      small : (j : ℕ) → Dec (j < suc n) → get_or u j 0 < 2 ^ degree f
      small j (yes l) = rw (lowered.at j l) (reduced.elements.small (n + j))
      small j (no l) = rw (lowered.past j (omega arith)) (pow_pos (degree f))

  -- ---- the powers x^(2^k)

  pub record Raised (c : List ℕ) (len k : ℕ) (s : List ℕ) : Type 0 where
    pub elements : Elements f s
    pub values : (z : (gf f).carrier) → Zero (gf f) (num f) c len z → horner (gf f) (series f s) z len ≡ pow (gf f) z (2 ^ k)

  x-value : (z : (gf f).carrier) (d : ℕ) → suc d < 128 → horner (gf f) (series f (set (replicate 128 0) d 1)) z (suc (suc d)) ≡ z
  unfolding coef
  x-value z d inside = horner-x (gf f) (series f (set (replicate 128 0) d 1)) z d
      (λ i l. ap (num f).el (get_or-set_other (replicate 128 0) d i 1 0 (omega arith)) ∙ zeros-nil i)
      (ap (num f).el (get_or-set_same (replicate 128 0) d 1 0 (rw (length-replicate {A = ℕ} 128 0) (omega arith))) ∙ (num f).el-one)
      (ap (num f).el (get_or-set_other (replicate 128 0) d (suc d) 1 0 (omega arith)) ∙ zeros-nil (suc d))

  x-elements : (d : ℕ) → d < 128 → Elements f (set (replicate 128 0) d 1)
  x-elements d inside = elements-set f d 1 inside (elements-zero f) (one_below (usable f))

  pub raised-start : {c : List ℕ} (d : ℕ) → suc d < 128 → Raised c (suc (suc d)) 0 (set (replicate 128 0) d 1)
  raised-start d inside = record {
    elements = x-elements d (omega arith);
    values = λ z root. x-value z d inside ∙ sym (pow-suc (gf f) z 0 ∙ rw (pow-zero (gf f) z) (simp ring));
  }

  pub raised-next : {c s v : List ℕ} {len k : ℕ} → Raised c len k s → Squared f (gf f) (num f) c len s v → Raised c len (k + 1) v
  raised-next {c} {s} {v} {len} {k} h g = record {
    elements = g.elements;
    values = λ z root.
        let d : 2 ^ (k + 1) ≡ 2 ^ k + 2 ^ k = rw (add-one k) (omega arith) in
        g.squares z root ∙ rw (h.values z root, d, pow-add (gf f) z (2 ^ k) (2 ^ k));
  }

  -- Each power of a is its own power 2^m.
  returned : (p : ℕ) → pow (gf f) (pow (gf f) (a f) p) (2 ^ degree f) ≡ pow (gf f) (a f) p
  returned p =
      let q : p * suc (longest f) ≡ longest f * p + p = mul-suc p (longest f) ∙ rw (mul_comm p (longest f)) in
      pow-pow (gf f) (a f) p (2 ^ degree f)
      ∙ rw (← (primitive f).size, q, pow-add (gf f) (a f) (longest f * p) p, round) (simp ring)
    where
      round : pow (gf f) (a f) (longest f * p) ≡ (gf f).one
      round = el-same f _ _ (el-pow f (longest f * p) ∙ a^-round (primitive f) p ∙ sym (el-one f))

  -- Where all the roots are there, x is what is left.
  pub splits-x : {c s : List ℕ} (d : ℕ) → suc d < 128 → Raised c (suc (suc d)) (degree f) s → Splits (gf f) (num f) (a f) c (suc (suc d))
      → (j : ℕ) → j < suc (suc d) → get_or s j 0 ≡ get_or (set (replicate 128 0) d 1) j 0
  unfolding coef
  splits-x {c} {s} d inside h g j l =
      (num f).el-same _ _ (num-below f (h.elements.small j)) (num-below f ((x-elements d (omega arith)).small j))
      (add-nil-eq (gf f) _ _ (roots-all (gf f) (suc (suc d)) (λ i. (gf f).add (series f s i) (series f x i)) (λ i. pow (gf f) (a f) (g.place i)) g.apart zero j l))
    where
      x : List ℕ
      x = set (replicate 128 0) d 1

      zero : (i : ℕ) → i < suc (suc d) → horner (gf f) (λ i. (gf f).add (series f s i) (series f x i)) (pow (gf f) (a f) (g.place i)) (suc (suc d)) ≡ (gf f).nil
      zero i m =
          let z : (gf f).carrier = pow (gf f) (a f) (g.place i) in
          horner-plus (gf f) (series f s) (series f x) z (suc (suc d))
          ∙ rw (h.values z (g.zeros i m), x-value z d inside, returned (g.place i)) ((gf f).add-self z)

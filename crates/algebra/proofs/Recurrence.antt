-- Massey's lemma, the steps of the algorithm of Berlekamp and Massey, and what the shortest recurrence of a sequence of power sums shows.
use mathlib.Core.Path.{◌≡◌, refl, sym, ◌∙◌}
use Prim.Native.Nat.{ℕ, zero, suc, ◌+◌, ◌-◌, ◌≤◌, ◌<◌}
use native.Mathlib.Omega.{arith}
use native.Mathlib.Decide.{dec_lt}
use Rattle.algebra.specs.Field.{BinaryField}
use Rattle.algebra.specs.Series.{cons, conv}
use Rattle.algebra.specs.Sum.{sum}
use Rattle.algebra.specs.Polynomial.{pow, value, Distinct}
use Rattle.algebra.specs.Recurrence.{Generates, State, unit-series, locator}
use Rattle.algebra.proofs.Field.{ring, mul-nil, nil-mul, mul_comm}
use Rattle.algebra.proofs.Series.{conv-add, conv-scale, conv-nil, conv-head, conv-cons, conv-cong, conv-left-comm}
use Rattle.algebra.proofs.Sum.{sum-cong, sum-nil, conv-sum}
use Rattle.algebra.proofs.Polynomial.{conv-pow, value-suc, value-high, roots, powers-independent}

module _ (K : BinaryField) where
  open K use {carrier as F, add as ◌⊕◌, mul as ◌⊗◌, nil as 𝟘, one as 𝟙}

  infixl 60 ◌⊕◌
  infixl 70 ◌⊗◌
  -- Massey's lemma. Where C, of length L, holds for the first k terms and fails at term k, a recurrence D that holds there too is longer than
  -- k - L. It compares the coefficients at k of D (C S) and C (D S): one is D 0 times the discrepancy of C, the other zero.
  pub massey : (S C D : ℕ → F) (L v k : ℕ) → Generates K S C L k → ¬ (conv K C S k ≡ 𝟘) → Generates K S D v (suc k) → k < L + v
  massey S C D L v k c d g = go (dec_lt k (L + v))
    where
      left : (i j : ℕ) → suc i + j ≡ k → L + v ≤ k → Dec (v < suc i) → D (suc i) ⊗ conv K C S j ≡ 𝟘
      left i j e m (yes p) = rw (g.short (suc i) p) (nil-mul K _)
      left i j e m (no p) = rw (c.zeros j (omega arith) (omega arith)) (mul-nil K _)

      right : (i j : ℕ) → i + j ≡ k → L + v ≤ k → Dec (L < i) → C i ⊗ conv K D S j ≡ 𝟘
      right i j e m (yes p) = rw (c.short i p) (nil-mul K _)
      right i j e m (no p) = rw (g.zeros j (omega arith) (omega arith)) (mul-nil K _)

      both : L + v ≤ k → D 0 ⊗ conv K C S k ≡ 𝟘
      both m =
          sym (conv-head K D (conv K C S) k (λ i j e. left i j e m (dec_lt v (suc i))))
          ∙ conv-left-comm K D C S k
          ∙ conv-nil K C (conv K D S) k (λ i j e. right i j e m (dec_lt L i))

      go : Dec (k < L + v) → k < L + v
      go (yes p) = p
      go (no p) = absurd (d (K.no-divisors _ _ (both (omega arith)) g.start))

  pub generates-fewer : (S D : ℕ → F) (v k n : ℕ) → k ≤ n → Generates K S D v n → Generates K S D v k
  generates-fewer S D v k n l g = record { short = g.short; zeros = λ j m p. g.zeros j m (omega arith); start = g.start }

  pub state-initial : (S : ℕ → F) → State K S 0 0 𝟙 (unit-series K) (cons K 𝟘 (unit-series K))
  unfolding unit-series cons
  state-initial S = record {
    generates = record { short = short₀; zeros = λ j l m. absurd (omega arith); start = K.one-not-nil };
    fits = omega arith;
    short = short₁;
    start = refl;
    zeros = λ j l m. absurd (omega arith);
    hit = λ l. absurd (omega arith);
    unit = K.one-not-nil;
    least = λ D v g. omega arith;
  }
    where
      short₀ : (i : ℕ) → 0 < i → unit-series K i ≡ 𝟘
      short₀ zero l = absurd (omega arith)
      short₀ (suc i) l = refl

      short₁ : (i : ℕ) → 1 < 0 + i → cons K 𝟘 (unit-series K) i ≡ 𝟘
      short₁ zero l = refl
      short₁ (suc i) l = short₀ i (omega arith)

  module _ (S : ℕ → F) (k L : ℕ) (b : F) (C T : ℕ → F) (s : State K S k L b C T) where
    -- A recurrence of the same length for one more term.
    same_length : (D : ℕ → F) → Generates K S D L (suc k) → State K S (suc k) L b D (cons K 𝟘 T)
    unfolding cons
    same_length D g = record {
      generates = g;
      fits = omega (arith, s.fits);
      short = short₁;
      start = refl;
      zeros = zeros₁;
      hit = λ l. conv-cons K T S k ∙ s.hit l;
      unit = s.unit;
      least = λ E v h. s.least E v (generates-fewer S E v k (suc k) (omega arith) h);
    }
      where
        short₁ : (i : ℕ) → suc (suc k) < L + i → cons K 𝟘 T i ≡ 𝟘
        short₁ zero l = refl
        short₁ (suc i) l = s.short i (omega arith)

        zeros₁ : (j : ℕ) → suc (suc k) ≤ L + j → j < suc k → conv K (cons K 𝟘 T) S j ≡ 𝟘
        zeros₁ zero l m = absurd (omega (arith, s.fits))
        zeros₁ (suc j) l m = conv-cons K T S j ∙ s.zeros j (omega arith) (omega arith)

    -- no discrepancy: the recurrence stays
    pub state-keep : conv K C S k ≡ 𝟘 → State K S (suc k) L b C (cons K 𝟘 T)
    state-keep z = same_length C (record { short = s.generates.short; zeros = λ j l m. zeros₁ j l m (dec_lt j k); start = s.generates.start })
      where
        zeros₁ : (j : ℕ) → L ≤ j → j < suc k → Dec (j < k) → conv K C S j ≡ 𝟘
        zeros₁ j l m (yes p) = s.generates.zeros j l p
        zeros₁ j l m (no p) = let e : j ≡ k = omega arith in rw e z

    -- a discrepancy d, and q = d / b
    module _ (d q : F) (is : conv K C S k ≡ d) (quotient : b ⊗ q ≡ d) where
      mixed : (M : ℕ) → L ≤ M → suc k ≤ L + M → (M ≤ k → 0 < L) → Generates K S (λ i. C i ⊕ q ⊗ T i) M (suc k)
      mixed M l m h = record {
        short = λ i p. rw (s.generates.short i (omega arith), s.short i (omega arith)) (simp ring);
        zeros = λ j p r. product j ∙ zeros₁ j p r (dec_lt j k);
        start = λ e. s.generates.start (sym (rw s.start (simp ring)) ∙ e);
      }
        where
          product : (j : ℕ) → conv K (λ i. C i ⊕ q ⊗ T i) S j ≡ conv K C S j ⊕ q ⊗ conv K T S j
          product j = rw (conv-add K C (λ i. q ⊗ T i) S j, conv-scale K q T S j)

          zeros₁ : (j : ℕ) → M ≤ j → j < suc k → Dec (j < k) → conv K C S j ⊕ q ⊗ conv K T S j ≡ 𝟘
          zeros₁ j p r (yes u) = rw (s.generates.zeros j (omega arith) u, s.zeros j (omega arith) u) (simp ring)
          zeros₁ j p r (no u) = let e : j ≡ k = omega arith in rw (e, is, s.hit (h (omega arith)), mul_comm K q b, quotient) (K.add-self d)

      -- The recurrence is corrected, and its length stays.
      pub state-patch : k < L + L → State K S (suc k) L b (λ i. C i ⊕ q ⊗ T i) (cons K 𝟘 T)
      state-patch l = same_length (λ i. C i ⊕ q ⊗ T i) (mixed L (omega arith) (omega arith) (λ p. omega arith))

      -- It grows to k + 1 - L, which is least by Massey's lemma; the old one becomes the update.
      pub state-grow : ¬ (d ≡ 𝟘) → L + L ≤ k → State K S (suc k) (suc k - L) d (λ i. C i ⊕ q ⊗ T i) (cons K 𝟘 C)
      unfolding cons
      state-grow z l = record {
        generates = mixed (suc k - L) (omega arith) (omega arith) (λ p. omega arith);
        fits = omega arith;
        short = short₁;
        start = refl;
        zeros = zeros₂;
        hit = λ l. conv-cons K C S k ∙ is;
        unit = z;
        least = λ D v g. omega (arith, massey S C D L v k s.generates (λ y. z (sym is ∙ y)) g);
      }
        where
          short₁ : (i : ℕ) → suc (suc k) < (suc k - L) + i → cons K 𝟘 C i ≡ 𝟘
          short₁ zero l = refl
          short₁ (suc i) p = s.generates.short i (omega arith)

          zeros₂ : (j : ℕ) → suc (suc k) ≤ (suc k - L) + j → j < suc k → conv K (cons K 𝟘 C) S j ≡ 𝟘
          zeros₂ zero p q = absurd (omega arith)
          zeros₂ (suc j) p q = conv-cons K C S j ∙ s.generates.zeros j (omega arith) (omega arith)

  locator-suc : (X : ℕ → F) (v i : ℕ) → locator K X (suc v) i ≡ locator K X v i ⊕ X v ⊗ cons K 𝟘 (locator K X v) i
  unfolding locator
  locator-suc X v i = refl

  locator-short : (X : ℕ → F) (v i : ℕ) → v < i → locator K X v i ≡ 𝟘
  unfolding cons
  locator-short X v zero l = absurd (omega arith)
  locator-short X zero (suc i) l = unfold locator unit-series in refl
  locator-short X (suc v) (suc i) l =
      rw (locator-suc X v (suc i), locator-short X v (suc i) (omega arith), locator-short X v i (omega arith)) (simp ring)

  locator-start : (X : ℕ → F) (v : ℕ) → locator K X v 0 ≡ 𝟙
  unfolding cons
  locator-start X zero = unfold locator unit-series in refl
  locator-start X (suc v) = rw (locator-suc X v 0, locator-start X v) (simp ring)

  -- one factor more
  locator-conv : (X g : ℕ → F) (v n : ℕ)
      → conv K (locator K X (suc v)) g (suc n) ≡ conv K (locator K X v) g (suc n) ⊕ X v ⊗ conv K (locator K X v) g n
  unfolding locator
  locator-conv X g v n =
      conv-add K (locator K X v) (λ i. X v ⊗ cons K 𝟘 (locator K X v) i) g (suc n)
      ∙ rw (conv-scale K (X v) (cons K 𝟘 (locator K X v)) g (suc n), conv-cons K (locator K X v) g n)

  -- the product with 1, X e, (X e)^2, .. ends
  locator-zeros : (X : ℕ → F) (v e n : ℕ) → e < v → v ≤ n → conv K (locator K X v) (pow K (X e)) n ≡ 𝟘
  locator-zeros X zero e n l m = absurd (omega arith)
  locator-zeros X (suc v) e zero l m = absurd (omega arith)
  locator-zeros X (suc v) e (suc n) l m = locator-conv X (pow K (X e)) v n ∙ go (locator-zeros X v) (dec_lt e v)
    where
      go : ((e n : ℕ) → e < v → v ≤ n → conv K (locator K X v) (pow K (X e)) n ≡ 𝟘) → Dec (e < v)
          → conv K (locator K X v) (pow K (X e)) (suc n) ⊕ X v ⊗ conv K (locator K X v) (pow K (X e)) n ≡ 𝟘
      go h (yes p) = rw (h e (suc n) p (omega arith), h e n p (omega arith)) (simp ring)
      go h (no p) = let q : e ≡ v = omega arith in
          rw (
            q,
            conv-pow K (locator K X v) (X v) (suc n),
            conv-pow K (locator K X v) (X v) n,
            value-suc K (locator K X v) (X v) n,
            locator-short X v (suc n) (omega arith),
          ) (simp ring)

  -- S are the first n power sums of v distinct elements X e, none of them zero.
  module _ (S X : ℕ → F) (v n : ℕ) (distinct : Distinct K v X) (units : (e : ℕ) → e < v → ¬ (X e ≡ 𝟘))
      (sums : (j : ℕ) → j < n → S j ≡ sum K v (λ e. X e ⊗ pow K (X e) j)) where
    product : (C : ℕ → F) (j : ℕ) → j < n → conv K C S j ≡ sum K v (λ e. X e ⊗ conv K C (pow K (X e)) j)
    product C j l = conv-cong K C S _ j (λ i m. sums i (omega arith)) ∙ conv-sum K v X C (λ e. pow K (X e)) j

    pub locator-generates : Generates K S (locator K X v) v n
    locator-generates = record {
      short = locator-short X v;
      zeros = λ j l m. product (locator K X v) j m ∙ sum-nil K v _ (λ e p. rw (locator-zeros X v e j p l) (mul-nil K _));
      start = λ e. K.one-not-nil (sym (locator-start X v) ∙ e);
    }

    -- A recurrence C of length L, at most v, for 2v terms or more: its length is v, and its roots are the X e and no others.
    module _ (C : ℕ → F) (L : ℕ) (g : Generates K S C L n) (least : L ≤ v) (room : v + v ≤ n) where
      pub locator-roots : (e : ℕ) → e < v → value K C (X e) L ≡ 𝟘
      locator-roots e l = K.no-divisors (X e) _ (powers-independent K v (λ e. X e ⊗ value K C (X e) L) X distinct each e l) (units e l)
        where
          each : (k : ℕ) → k < v → sum K v (λ e. X e ⊗ value K C (X e) L ⊗ pow K (X e) k) ≡ 𝟘
          each k m =
              sum-cong K v _ _ (λ e p. rw (conv-pow K C (X e) (L + k), value-high K C (X e) L k g.short) (simp ring))
              ∙ sym (product C (L + k) (omega arith)) ∙ g.zeros (L + k) (omega arith) (omega arith)

      pub locator-length : L ≡ v
      locator-length = go (dec_lt L v)
        where
          go : Dec (L < v) → L ≡ v
          go (yes l) = absurd (g.start (roots K L C X (λ i j p q. distinct i j p (omega arith)) (λ i p. locator-roots i (omega arith))))
          go (no l) = omega arith

      pub locator-only : (x : F) → ((e : ℕ) → e < v → ¬ (x ≡ X e)) → ¬ (value K C x L ≡ 𝟘)
      unfolding cons
      locator-only x h z = g.start (roots K L C (cons K x X) apart zeros)
        where
          apart : Distinct K (suc L) (cons K x X)
          apart i zero l m = absurd (omega arith)
          apart zero (suc j) l m = h j (omega (arith, locator-length))
          apart (suc i) (suc j) l m = distinct i j (omega arith) (omega (arith, locator-length))

          zeros : (i : ℕ) → i ≤ L → value K C (cons K x X i) L ≡ 𝟘
          zeros zero l = z
          zeros (suc i) l = locator-roots i (omega (arith, locator-length))

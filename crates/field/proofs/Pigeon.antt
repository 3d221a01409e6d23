-- A one-to-one map of the numbers below n into themselves meets each of them.
use mathlib.Core.Path.{◌≡◌, refl, sym, ◌∙◌}
use mathlib.Core.Logic.{◌⊎◌, inl, inr, ◌≢◌}
use Prim.Native.Nat.{ℕ, zero, suc, ◌<◌}
use native.Mathlib.Nat.{le_refl, le_step}
use native.Mathlib.Decide.{ℕ_discrete}
use native.Mathlib.Omega.{arith}

-- v, but t in the place of n
choose : (t n v : ℕ) → Dec (v ≡ n) → ℕ
choose t n v (yes e) = t
choose t n v (no e) = v

Case : (t n v r : ℕ) → Type 0
Case t n v r = ((v ≡ n) × (r ≡ t)) ⊎ ((v ≡ n → ⊥) × (r ≡ v))

choose-case : (t n v : ℕ) (d : Dec (v ≡ n)) → Case t n v (choose t n v d)
unfolding choose Case
choose-case t n v (yes e) = inl (e, refl)
choose-case t n v (no e) = inr (e, refl)

-- one step: of the numbers up to n, f n is set aside, and n takes its place
module _ (n : ℕ) (f : ℕ → ℕ) (into : (k : ℕ) → k < suc n → f k < suc n)
    (inj : (i j : ℕ) → i < suc n → j < suc n → f i ≡ f j → i ≡ j) where
  t : ℕ
  t = f n

  g : ℕ → ℕ
  g k = choose t n (f k) (ℕ_discrete (f k) n)

  g-case : (k : ℕ) → Case t n (f k) (g k)
  unfolding g
  g-case k = choose-case t n (f k) (ℕ_discrete (f k) n)

  not_t : (k : ℕ) → k < n → f k ≡ t → ⊥
  unfolding t
  not_t k hk e = let z : k ≡ n = inj k n (le_step hk) (le_refl (suc n)) e in omega arith

  g-into : (k : ℕ) → k < n → g k < n
  unfolding t Case
  g-into k hk = go (g-case k)
    where
      go : Case t n (f k) (g k) → g k < n
      go (inl w) = let u : t ≢ n = λ e. not_t k hk (w.0 ∙ sym e) in omega (arith, w.1, into n (le_refl (suc n)))
      go (inr w) = let u : f k ≢ n = w.0 in omega (arith, into k (le_step hk), w.1)

  g-inj : (i j : ℕ) → i < n → j < n → g i ≡ g j → i ≡ j
  unfolding Case
  g-inj i j hi hj e = go (g-case i) (g-case j)
    where
      back : f i ≡ f j → i ≡ j
      back = inj i j (le_step hi) (le_step hj)

      go : Case t n (f i) (g i) → Case t n (f j) (g j) → i ≡ j
      go (inl w) (inl v) = back (w.0 ∙ sym v.0)
      go (inl w) (inr v) = absurd (not_t j hj (sym v.1 ∙ sym e ∙ w.1))
      go (inr w) (inl v) = absurd (not_t i hi (sym w.1 ∙ e ∙ v.1))
      go (inr w) (inr v) = back (sym w.1 ∙ e ∙ v.1)

  found : ((z : ℕ) → z < n → (k : ℕ) × (k < n) × (g k ≡ z)) → (y : ℕ) → y < suc n → (k : ℕ) × (k < suc n) × (f k ≡ y)
  unfolding t Case
  found rec y h = at (ℕ_discrete y t) (ℕ_discrete y n)
    where
      low : (y ≡ t → ⊥) → (r : (k : ℕ) × (k < n) × (g k ≡ y)) → Case t n (f r.0) (g r.0) → (k : ℕ) × (k < suc n) × (f k ≡ y)
      low e r (inl w) = absurd (e (sym r.2 ∙ w.1))
      low e r (inr w) = (r.0, le_step r.1, sym w.1 ∙ r.2)

      high : y ≡ n → (r : (k : ℕ) × (k < n) × (g k ≡ t)) → Case t n (f r.0) (g r.0) → (k : ℕ) × (k < suc n) × (f k ≡ y)
      high d r (inl w) = (r.0, le_step r.1, w.0 ∙ sym d)
      high d r (inr w) = absurd (not_t r.0 r.1 (sym w.1 ∙ r.2))

      at : Dec (y ≡ t) → Dec (y ≡ n) → (k : ℕ) × (k < suc n) × (f k ≡ y)
      at (yes e) d = (n, le_refl (suc n), sym e)
      at (no e) (yes d) =
          let u : t ≢ n = λ z. e (d ∙ sym z) in
          let r : (k : ℕ) × (k < n) × (g k ≡ t) = rec t (omega (arith, into n (le_refl (suc n)))) in
          high d r (g-case r.0)
      at (no e) (no d) =
          let u : y ≢ n = d in
          let r : (k : ℕ) × (k < n) × (g k ≡ y) = rec y (omega arith) in
          low e r (g-case r.0)

pub pigeonhole : (n : ℕ) (f : ℕ → ℕ) → ((k : ℕ) → k < n → f k < n)
    → ((i j : ℕ) → i < n → j < n → f i ≡ f j → i ≡ j)
    → (y : ℕ) → y < n → (k : ℕ) × (k < n) × (f k ≡ y)
pigeonhole zero f into inj y h = absurd (omega arith)
pigeonhole (suc n) f into inj y h =
    found n f into inj
    (pigeonhole n (g n f into inj) (g-into n f into inj) (g-inj n f into inj)) y h

-- Laws of words: counting, listing the ones, power sums, the least distance of the code, and decoding near a codeword.
use mathlib.Core.Path.{◌≡◌, refl, sym, ap, ap₂, ◌∙◌}
use mathlib.Core.Bool.{Bool, true, false, cond}
use Prim.Native.Nat.{ℕ, zero, suc, ◌-◌, ◌≤◌, ◌<◌}
use native.Mathlib.Omega.{arith}
use native.Mathlib.Decide.{dec_lt, ℕ_discrete}
use borrow.Author.Tests.{eq-eqb, ne_eqb}
use Rattle.algebra.specs.Field.{BinaryField}
use Rattle.algebra.specs.Sum.{sum}
use Rattle.algebra.specs.Polynomial.{pow, horner, value, Distinct}
use Rattle.algebra.specs.Recurrence.{State, locator}
use Rattle.algebra.specs.Word.{flip, differ, both, bump, count, Few, Lists, among, bit, Listing, power-sum, Codeword}
use Rattle.algebra.proofs.Field.{ring, nil-mul, one-mul}
use Rattle.algebra.proofs.Sum.{sum-zero, sum-suc, sum-cong, sum-add}
use Rattle.algebra.proofs.Polynomial.{pow-suc, pow-unit, pow-swap, horner-sum, distinct-eq, powers-independent}
use Rattle.algebra.proofs.Recurrence.{locator-generates, locator-roots, locator-length, locator-only}

pub differ-false : (x y : Bool) → differ x y ≡ false → x ≡ y
unfolding differ flip
differ-false true true h = refl
differ-false true false h = h
differ-false false true h = sym h
differ-false false false h = refl

pub differ-true : (x y : Bool) → differ x y ≡ true → y ≡ flip x
unfolding differ flip
differ-true true true h = sym h
differ-true true false h = refl
differ-true false true h = refl
differ-true false false h = h

pub differ-differ : (x y : Bool) → differ x (differ x y) ≡ y
unfolding differ flip
differ-differ true true = refl
differ-differ true false = refl
differ-differ false y = refl

pub count-zero : (b : ℕ → Bool) → count b 0 ≡ 0
unfolding count
count-zero b = refl

pub count-true : (b : ℕ → Bool) (n : ℕ) → b n ≡ true → count b (suc n) ≡ suc (count b n)
unfolding count bump
count-true b n h = ap (λ v. bump v (count b n)) h

pub count-false : (b : ℕ → Bool) (n : ℕ) → b n ≡ false → count b (suc n) ≡ count b n
unfolding count bump
count-false b n h = ap (λ v. bump v (count b n)) h

pub count-cong : (b c : ℕ → Bool) (n : ℕ) → ((p : ℕ) → p < n → b p ≡ c p) → count b n ≡ count c n
unfolding count
count-cong b c zero h = refl
count-cong b c (suc n) h = ap₂ bump (h n (omega arith)) (count-cong b c n (λ p l. h p (omega arith)))

at-or : {P : Type 0} → Dec P → ℕ → ℕ → ℕ
at-or (yes _) x y = x
at-or (no _) x y = y

-- E, and n at w
extend : ℕ → (ℕ → ℕ) → ℕ → ℕ → ℕ
extend w E n e = at-or (dec_lt e w) (E e) n

extend-low : (w : ℕ) (E : ℕ → ℕ) (n e : ℕ) → e < w → extend w E n e ≡ E e
unfolding extend at-or
extend-low w E n e l = go (dec_lt e w)
  where
    go : (d : Dec (e < w)) → at-or d (E e) n ≡ E e
    go (yes _) = refl
    go (no m) = absurd (m l)

extend-last : (w : ℕ) (E : ℕ → ℕ) (n : ℕ) → extend w E n w ≡ n
unfolding extend at-or
extend-last w E n = go (dec_lt w w)
  where
    go : (d : Dec (w < w)) → at-or d (E w) n ≡ n
    go (yes l) = absurd (omega arith)
    go (no _) = refl

pub lists-none : (P : ℕ → Type 0) (E : ℕ → ℕ) → Lists P 0 0 E
lists-none P E = record {
  below = λ e l. absurd (omega arith);
  rising = λ i j l m. absurd (omega arith);
  set = λ e l. absurd (omega arith);
  all = λ p l. absurd (omega arith);
}

-- One place more: E' lists what E does, and then n.
pub lists-longer : {P : ℕ → Type 0} {n w : ℕ} {E E' : ℕ → ℕ} → Lists P n w E → P n → ((e : ℕ) → e < w → E' e ≡ E e) → E' w ≡ n → Lists P (suc n) (suc w) E'
lists-longer {P} {n} {w} {E} {E'} s h low last = record {
  below = λ e l. below₁ e l (dec_lt e w);
  rising = λ i j l m. rising₁ i j l m (dec_lt j w);
  set = λ e l. set₁ e l (dec_lt e w);
  all = λ p l q. all₁ p l q (dec_lt p n);
}
  where
    below₁ : (e : ℕ) → e < suc w → Dec (e < w) → E' e < suc n
    below₁ e l (yes m) = rw (low e m) (omega (arith, s.below e m))
    below₁ e l (no m) = let q : e ≡ w = omega arith in rw (q, last) (omega arith)

    rising₁ : (i j : ℕ) → i < j → j < suc w → Dec (j < w) → E' i < E' j
    rising₁ i j l m (yes p) = rw (low i (omega arith), low j p) (s.rising i j l p)
    rising₁ i j l m (no p) = let q : j ≡ w = omega arith in rw (q, low i (omega arith), last) (s.below i (omega arith))

    set₁ : (e : ℕ) → e < suc w → Dec (e < w) → P (E' e)
    set₁ e l (yes m) = rw (low e m) (s.set e m)
    set₁ e l (no m) = let q : e ≡ w = omega arith in rw (q, last) h

    all₁ : (p : ℕ) → p < suc n → P p → Dec (p < n) → (e : ℕ) × (e < suc w) × (E' e ≡ p)
    all₁ p l q (yes m) = let (e, k, r) = s.all p m q in (e, omega arith, low e k ∙ r)
    all₁ p l q (no m) = (w, omega arith, last ∙ omega arith)

-- Places up to n that do not have the property.
pub lists-same : {P : ℕ → Type 0} {m n w : ℕ} {E : ℕ → ℕ} → Lists P m w E → m ≤ n → ((p : ℕ) → m ≤ p → p < n → ¬ (P p)) → Lists P n w E
lists-same {P} {m} {n} {w} {E} s le h = record {
  below = λ e l. omega (arith, s.below e l);
  rising = s.rising;
  set = s.set;
  all = λ p l q. all₁ p l q (dec_lt p m);
}
  where
    all₁ : (p : ℕ) → p < n → P p → Dec (p < m) → (e : ℕ) × (e < w) × (E e ≡ p)
    all₁ p l q (yes k) = s.all p k q
    all₁ p l q (no k) = absurd (h p (omega arith) l q)

among-here : (E : ℕ → ℕ) (w : ℕ) → among E (suc w) (E w) ≡ true
unfolding among
among-here E w = ap (λ x. cond x true (among E w (E w))) (eq-eqb (E w) (E w) refl)

among-other : (E : ℕ → ℕ) (w p : ℕ) → ¬ (E w ≡ p) → among E (suc w) p ≡ among E w p
unfolding among
among-other E w p h = ap (λ x. cond x true (among E w p)) (ne_eqb (E w) p h)

pub among-true : (E : ℕ → ℕ) (w p : ℕ) → among E w p ≡ true → (e : ℕ) × (e < w) × (E e ≡ p)
among-true E zero p h = unfold among in let z : ◌≡◌ {A = ℕ} 0 1 = cc in absurd (omega arith)
among-true E (suc w) p h = go (among-true E w p) (ℕ_discrete (E w) p)
  where
    go : (among E w p ≡ true → (e : ℕ) × (e < w) × (E e ≡ p)) → Dec (E w ≡ p) → (e : ℕ) × (e < suc w) × (E e ≡ p)
    go r (yes q) = (w, omega arith, q)
    go r (no q) = let (e, l, i) = r (sym (among-other E w p q) ∙ h) in (e, omega arith, i)

pub among-at : (E : ℕ → ℕ) (w e : ℕ) → e < w → among E w (E e) ≡ true
among-at E zero e l = absurd (omega arith)
among-at E (suc w) e l = go (among-at E w e) (ℕ_discrete (E w) (E e)) (dec_lt e w)
  where
    go : (e < w → among E w (E e) ≡ true) → Dec (E w ≡ E e) → Dec (e < w) → among E (suc w) (E e) ≡ true
    go r (yes q) d = rw (← q) (among-here E w)
    go r (no q) (yes m) = among-other E w (E e) q ∙ r m
    go r (no q) (no m) = let i : w ≡ e = omega arith in absurd (q (ap E i))

count-more : (b c : ℕ → Bool) (x n : ℕ) → b x ≡ true → c x ≡ false → ((p : ℕ) → ¬ (x ≡ p) → b p ≡ c p) → x < n → count b n ≡ suc (count c n)
count-more b c x zero h k s l = absurd (omega arith)
count-more b c x (suc n) h k s l = go (count-more b c x n h k s) (ℕ_discrete x n)
  where
    other : (v : Bool) → c n ≡ v → b n ≡ c n → count b n ≡ suc (count c n) → count b (suc n) ≡ suc (count c (suc n))
    other true e i r = count-true b n (i ∙ e) ∙ ap suc (r ∙ sym (count-true c n e))
    other false e i r = count-false b n (i ∙ e) ∙ r ∙ ap suc (sym (count-false c n e))

    go : (x < n → count b n ≡ suc (count c n)) → Dec (x ≡ n) → count b (suc n) ≡ suc (count c (suc n))
    go r (yes e) =
        count-true b n (ap b (sym e) ∙ h) ∙ ap suc (count-cong b c n (λ p q. s p (omega arith)) ∙ sym (count-false c n (ap c (sym e) ∙ k)))
    go r (no e) = other (c n) refl (s n e) (r (omega arith))

-- As many places are listed as there are places among them.
pub lists-count : {P : ℕ → Type 0} {n w : ℕ} {E : ℕ → ℕ} → Lists P n w E → count (among E w) n ≡ w
lists-count {P} {n} {w} {E} s = go w s.below s.rising
  where
    none : (n : ℕ) → count (among E 0) n ≡ 0
    none zero = count-zero (among E 0)
    none (suc n) = count-false (among E 0) n (unfold among in refl) ∙ none n

    fresh : (w : ℕ) → ((i j : ℕ) → i < j → j < suc w → E i < E j) → (v : Bool) → among E w (E w) ≡ v → v ≡ false
    fresh w rising false h = refl
    fresh w rising true h = let (e, l, q) = among-true E w (E w) h in absurd (omega (arith, rising e w l (omega arith)))

    go : (w : ℕ) → ((e : ℕ) → e < w → E e < n) → ((i j : ℕ) → i < j → j < w → E i < E j) → count (among E w) n ≡ w
    go zero below rising = none n
    go (suc w) below rising =
        count-more (among E (suc w)) (among E w) (E w) n (among-here E w) (fresh w rising (among E w (E w)) refl) (λ p q. among-other E w p q)
        (below w (omega arith))
        ∙ ap suc (go w (λ e l. below e (omega arith)) (λ i j l m. rising i j l (omega arith)))

pub lists-among : {P : ℕ → Type 0} {n w : ℕ} {E : ℕ → ℕ} → Lists P n w E → (p : ℕ) → among E w p ≡ true → P p
lists-among {P} {n} {w} {E} s p h = let (e, l, q) = among-true E w p h in rw (← q) (s.set e l)

pub lists-not-among : {P : ℕ → Type 0} {n w : ℕ} {E : ℕ → ℕ} → Lists P n w E → (p : ℕ) → p < n → among E w p ≡ false → ¬ (P p)
lists-not-among {P} {n} {w} {E} s p l h r =
    let (e, m, q) = s.all p l r in
    let y : among E w p ≡ true = rw (← q) (among-at E w e m) in
    let z : ◌≡◌ {A = ℕ} 0 1 = cc in absurd (omega arith)

module _ (K : BinaryField) where
  open K use {carrier as F, add as ◌⊕◌, mul as ◌⊗◌, nil as 𝟘, one as 𝟙}

  infixl 60 ◌⊕◌
  infixl 70 ◌⊗◌
  listing-longer : (b : ℕ → Bool) (n w : ℕ) → Listing K b n w → b n ≡ true → Listing K b (suc n) (suc w)
  unfolding bit
  listing-longer b n w s h = record {
    place = extend w s.place n;
    lists = lists-longer s.lists h (extend-low w s.place n) (extend-last w s.place n);
    sums = λ g. rw (
      sum-suc K n (λ p. bit K (b p) ⊗ g p),
      sum-suc K w (λ e. g (extend w s.place n e)),
      h,
      s.sums g,
      extend-last w s.place n,
      one-mul K (g n),
    ) (ap (λ x. x ⊕ g n) (sum-cong K w _ _ (λ e l. ap g (sym (extend-low w s.place n e l)))));
  }

  listing-same : (b : ℕ → Bool) (n w : ℕ) → Listing K b n w → b n ≡ false → Listing K b (suc n) w
  unfolding bit
  listing-same b n w s h = record {
    place = s.place;
    lists = lists-same s.lists (omega arith) none;
    sums = λ g. rw (sum-suc K n (λ p. bit K (b p) ⊗ g p), h, nil-mul K (g n), K.add-nil _) (s.sums g);
  }
    where
      none : (p : ℕ) → n ≤ p → p < suc n → ¬ (b p ≡ true)
      none p l m q = let e : p ≡ n = omega arith in let z : ◌≡◌ {A = ℕ} 0 1 = cc in absurd (omega arith)

  pub listing : (b : ℕ → Bool) (n : ℕ) → Listing K b n (count b n)
  listing b zero = rw (count-zero b) (record {
    place = λ e. 0;
    lists = lists-none _ _;
    sums = λ g. sum-zero K _ ∙ sym (sum-zero K _);
  })
  listing b (suc n) = go (listing b n) (b n) refl
    where
      go : Listing K b n (count b n) → (v : Bool) → b n ≡ v → Listing K b (suc n) (count b (suc n))
      go s true h = rw (count-true b n h) (listing-longer b n (count b n) s h)
      go s false h = rw (count-false b n h) (listing-same b n (count b n) s h)

  pub bit-differ : (x y : Bool) → bit K (differ x y) ≡ bit K x ⊕ bit K y
  unfolding bit differ flip
  bit-differ true true = sym (K.add-self 𝟙)
  bit-differ true false = simp ring
  bit-differ false true = simp ring
  bit-differ false false = simp ring

module _ (K : BinaryField) (a : K.carrier) where
  open K use {carrier as F, add as ◌⊕◌, mul as ◌⊗◌, nil as 𝟘}

  infixl 60 ◌⊕◌
  infixl 70 ◌⊗◌
  pub power-sum-cong : (b c : ℕ → Bool) (n j : ℕ) → ((p : ℕ) → p < n → b p ≡ c p) → power-sum K a b n j ≡ power-sum K a c n j
  unfolding power-sum
  power-sum-cong b c n j h = sum-cong K n _ _ (λ p l. rw (h p l))

  -- as a sum of powers of the elements a^p
  pub power-sum-places : (b : ℕ → Bool) (n j : ℕ) → power-sum K a b n j ≡ sum K n (λ p. bit K (b p) ⊗ pow K (pow K a p) (suc j))
  unfolding power-sum
  power-sum-places b n j = sum-cong K n _ _ (λ p l. rw (pow-swap K a (suc j) p))

  -- as the value of the word, the highest power first
  pub power-sum-word : (b : ℕ → Bool) (n j : ℕ) → power-sum K a b n j ≡ horner K (λ i. bit K (b (n - suc i))) (pow K a (suc j)) n
  unfolding power-sum
  power-sum-word b n j = sum-cong K n _ _ (λ p l. ap (λ i. bit K (b i) ⊗ pow K (pow K a (suc j)) p) (index p l)) ∙ sym (horner-sum K _ _ n)
    where
      index : (p : ℕ) → p < n → p ≡ n - suc (n - suc p)
      index p l = omega arith

  pub power-sum-both : (r c : ℕ → Bool) (n j : ℕ) → power-sum K a (both r c) n j ≡ power-sum K a r n j ⊕ power-sum K a c n j
  unfolding power-sum
  power-sum-both r c n j =
      sum-cong K n _ _ (λ p l. rw (bit-differ K (r p) (c p)) (simp ring))
      ∙ sum-add K n (λ p. bit K (r p) ⊗ pow K (pow K a (suc j)) p) (λ p. bit K (c p) ⊗ pow K (pow K a (suc j)) p)

  -- The first N powers of a are distinct, and words have at most N bits.
  module _ (N : ℕ) (unit : ¬ (a ≡ 𝟘)) (order : Distinct K N (pow K a)) (n : ℕ) (fits : n ≤ N) where
    apart : {b : ℕ → Bool} {w : ℕ} → (s : Listing K b n w) → Distinct K w (λ e. pow K a (s.place e))
    apart s i j l m = order _ _ (s.lists.rising i j l m) (omega (arith, s.lists.below j m))

    -- The least weight: a codeword with at most as many ones as it has power sums of zero has none.
    pub codeword-weight : (m : ℕ) (b : ℕ → Bool) → Codeword K a m n b → count b n ≤ m → count b n ≡ 0
    codeword-weight m b c l = go (listing K b n) (dec_lt 0 (count b n))
      where
        go : Listing K b n (count b n) → Dec (0 < count b n) → count b n ≡ 0
        go s (yes p) = absurd (pow-unit K a (s.place 0) unit (powers-independent K (count b n) X X (apart s) zeros 0 p))
          where
            X : ℕ → F
            X e = pow K a (s.place e)

            zeros : (k : ℕ) → k < count b n → sum K (count b n) (λ e. X e ⊗ pow K (X e) k) ≡ 𝟘
            zeros j q =
                sum-cong K (count b n) _ _ (λ e r. sym (pow-suc K _ j)) ∙ sym (s.sums (λ p. pow K (pow K a p) (suc j)))
                ∙ sym (power-sum-places b n j) ∙ c j (omega arith)
        go s (no p) = omega arith

    -- The least distance is more than the number of power sums: codewords no further apart are the same word.
    pub codeword-distance : (m : ℕ) (c d : ℕ → Bool) → Codeword K a m n c → Codeword K a m n d → count (both c d) n ≤ m → (p : ℕ) → p < n → c p ≡ d p
    codeword-distance m c d x y l p q = go (differ (c p) (d p)) refl (listing K (both c d) n)
      where
        none : count (both c d) n ≡ 0
        none = codeword-weight m (both c d) (λ j k. power-sum-both c d n j ∙ rw (x j k, y j k) (K.add-self 𝟘)) l

        go : (v : Bool) → differ (c p) (d p) ≡ v → Listing K (both c d) n (count (both c d) n) → c p ≡ d p
        go false e s = differ-false (c p) (d p) e
        go true e s = let (i, k, z) = s.lists.all p q e in absurd (omega (arith, none))

    -- Errors b, half as many as there are power sums at most, and the state of the algorithm after these power sums.
    module _ (m : ℕ) (b : ℕ → Bool) (S : ℕ → F) (sums : (j : ℕ) → j < m → S j ≡ power-sum K a b n j) (few : Few m n b)
        (L : ℕ) (u : F) (C T : ℕ → F) (s : State K S m L u C T) where
      module _ (t : Listing K b n (count b n)) where
        X : ℕ → F
        X e = pow K a (t.place e)

        units : (e : ℕ) → e < count b n → ¬ (X e ≡ 𝟘)
        unfolding X
        units e l = pow-unit K a _ unit

        placed : (j : ℕ) → j < m → S j ≡ sum K (count b n) (λ e. X e ⊗ pow K (X e) j)
        unfolding X
        placed j l =
            sums j l ∙ power-sum-places b n j ∙ t.sums (λ p. pow K (pow K a p) (suc j)) ∙ sum-cong K (count b n) _ _ (λ e q. pow-suc K _ j)

        shortest : L ≤ count b n
        unfolding X
        shortest = s.least (locator K X (count b n)) (count b n) (locator-generates K S X (count b n) m (apart t) units placed)

        length-by : L ≡ count b n
        unfolding X
        length-by = locator-length K S X (count b n) m (apart t) units placed C L s.generates shortest few

        root_by : (p : ℕ) → p < n → b p ≡ true → value K C (pow K a p) L ≡ 𝟘
        unfolding X
        root_by p l h = let (e, q, r) = t.lists.all p l h in
            rw (← r) (locator-roots K S X (count b n) m (apart t) units placed C L s.generates shortest few e q)

        no-root-by : (p : ℕ) → p < n → b p ≡ false → ¬ (value K C (pow K a p) L ≡ 𝟘)
        unfolding X
        no-root-by p l h = locator-only K S X (count b n) m (apart t) units placed C L s.generates shortest few (pow K a p) other
          where
            other : (e : ℕ) → e < count b n → ¬ (pow K a p ≡ X e)
            other e q r =
                let i : p ≡ t.place e = distinct-eq K N (pow K a) order p (t.place e) (omega arith) (omega (arith, t.lists.below e q)) r in
                let y : b (t.place e) ≡ true = t.lists.set e q in
                let z : ◌≡◌ {A = ℕ} 0 1 = cc in absurd (omega arith)

      pub errors-length : L ≡ count b n
      errors-length = length-by (listing K b n)

      pub errors-root : (p : ℕ) → p < n → b p ≡ true → value K C (pow K a p) L ≡ 𝟘
      errors-root = root_by (listing K b n)

      pub errors-no-root : (p : ℕ) → p < n → b p ≡ false → ¬ (value K C (pow K a p) L ≡ 𝟘)
      errors-no-root = no-root-by (listing K b n)

    -- A received word r, whose power sums S are, a codeword c near it, and the state of the algorithm after these power sums.
    module _ (m : ℕ) (r c : ℕ → Bool) (S : ℕ → F) (sums : (j : ℕ) → j < m → S j ≡ power-sum K a r n j) (code : Codeword K a m n c)
        (near : Few m n (both r c)) (L : ℕ) (u : F) (C T : ℕ → F) (s : State K S m L u C T) where
      error-sums : (j : ℕ) → j < m → S j ≡ power-sum K a (both r c) n j
      error-sums j l = sums j l ∙ sym (power-sum-both r c n j ∙ rw (code j l) (K.add-nil _))

      pub near-length : L ≡ count (both r c) n
      near-length = errors-length m (both r c) S error-sums near L u C T s

      -- Flags e that are set exactly at the roots are set exactly where r and c differ.
      module _ (e : ℕ → Bool) (at-roots : (p : ℕ) → p < n → e p ≡ true → value K C (pow K a p) L ≡ 𝟘)
          (elsewhere : (p : ℕ) → p < n → e p ≡ false → ¬ (value K C (pow K a p) L ≡ 𝟘)) where
        pub near-places : (p : ℕ) → p < n → e p ≡ differ (r p) (c p)
        near-places p l = go (e p) refl (differ (r p) (c p)) refl
          where
            go : (x : Bool) → e p ≡ x → (y : Bool) → differ (r p) (c p) ≡ y → e p ≡ differ (r p) (c p)
            go true h true k = h ∙ sym k
            go false h false k = h ∙ sym k
            go true h false k = absurd (errors-no-root m (both r c) S error-sums near L u C T s p l k (at-roots p l h))
            go false h true k = absurd (elsewhere p l h (errors-root m (both r c) S error-sums near L u C T s p l k))

        pub near-count : count e n ≡ L
        near-count = count-cong e (both r c) n near-places ∙ sym near-length

        pub near-corrected : (p : ℕ) → p < n → differ (r p) (e p) ≡ c p
        near-corrected p l = rw (near-places p l) (differ-differ (r p) (c p))

        -- So where the corrected word is no codeword there was none near.
        pub near-codeword : Codeword K a m n (both r e)
        near-codeword j l = power-sum-cong (both r e) c n j near-corrected ∙ code j l

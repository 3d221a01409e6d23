-- What the decoder finds is the answer of the definition. Soundness: a list of few places that passes the recheck is the answer,
-- whatever proposed it. Completeness: a set that leaves the remainder has as many exponents as the recurrence is long, they are the
-- roots, and it passes the recheck; so where one of these fails there is no set, and where x^(2^m) shows that the roots are too few.
use mathlib.Core.Path.{◌≡◌, refl, sym, ap, ◌∙◌}
use mathlib.Core.Bool.{Bool, true, false, cond}
use mathlib.Core.List.{List, [], ◌∷◌, ◌++◌}
use Prim.Native.Nat.{ℕ, zero, suc, ◌+◌, ◌-◌, ◌*◌, ◌^◌, ◌≤◌, ◌<◌}
use native.Mathlib.Nat.{mul-zero, pos_of_ne-zero}
use native.Mathlib.Omega.{arith}
use native.Mathlib.Decide.{dec_lt, ℕ_discrete}
use borrow.Author.Tests.{eqb-false, eq-eqb, ne_eqb}
use lib.Dec.{eqb}
use lib.ListN.{length, get_or, set, take, length-set, replicate, length-replicate, length-take}
use lib.Seq.{take-suc, get_or-take, get_or-set_same, get_or-set_other}
use Rattle.algebra.specs.Series.{shift}
use Rattle.algebra.specs.Recurrence.{State}
use Rattle.algebra.specs.Word.{Listing, flip, differ, count, among, power-sum}
use Rattle.algebra.specs.Array.{coef, Holds}
use Rattle.algebra.specs.Search.{Root, Found as Roots}
use Rattle.algebra.proofs.Number.{el-zero}
use Rattle.algebra.proofs.Word.{listing, among-true, among-at, lists-count, lists-among, lists-not-among, count-cong, errors-length, errors-root, errors-no-root}
use Rattle.bits.specs.Bits.{digits}
use Rattle.field.specs.declared.Field.{Field}
use Rattle.field.specs.Field.{degree, longest}
use Rattle.field.proofs.Instance.{gf, num, a, el, el-same, el-num, unit, order}
use Rattle.code.specs.Word.{Word, ones, flipped, descending}
use Rattle.code.specs.Code.{Fits}
use Rattle.code.specs.Locations.{Locates, listed, exponents, nowhere, locate}
use Rattle.code.proofs.Distance.{coefficient}
use Rattle.code.proofs.Codeword.{zeros-codeword, value-square}
use Rattle.code.proofs.Flips.{marks, marks-descending, marks-past}
use Rattle.code.proofs.Descending.{Falling, end, each-falling, falling-ext, descending-falling}
use Rattle.code.proofs.Locations.{ones-count, listed-length, listed-flips, listed-power-sum, set-recheck, locate-list, locate-exponents, locate-nowhere}
use Rattle.code.proofs.Remainder.{codeword-remainder}
use Rattle.key_equation.specs.KeyEquation.{PowerSums}
use Rattle.split_test.specs.Splitting.{Divisor, Splits}
use Rattle.decoder.specs.declared.Found.{Found}
use Rattle.bits.specs.Decides.{Decides}
use Rattle.syndromes.specs.PowerSums.{Agrees, Syndromes}
use Rattle.decoder.specs.Locating.{Locatable, Descending, Reversed, answer, Finds}
use Rattle.series.proofs.Element.{series, small-elements}

-- ---- a list that descends, as a set

among-suc : (E : ℕ → ℕ) (w p : ℕ) → among E (suc w) p ≡ cond (eqb (E w) p) true (among E w p)
unfolding among
among-suc E w p = refl

among-zero : (E : ℕ → ℕ) (p : ℕ) → among E 0 p ≡ false
unfolding among
among-zero E p = refl

-- The last place of a list that descends is not among the others.
among-fresh : (E : ℕ → ℕ) (w : ℕ) → ((i j : ℕ) → i < j → j < suc w → E j < E i) → (b : Bool) → among E w (E w) ≡ b → b ≡ false
among-fresh E w falling false h = refl
among-fresh E w falling true h = let (e, l, q) = among-true E w (E w) h in absurd (omega (arith, falling e w l (omega arith)))

differ-false : (x : Bool) → differ x false ≡ x
unfolding differ flip
differ-false true = refl
differ-false false = refl

marks-last : (ps : List ℕ) (q p : ℕ) → marks (ps ++ (q ∷ [])) p ≡ differ (marks ps p) (eqb p q)
unfolding marks differ flip
marks-last [] q p = differ-false (eqb p q)
marks-last (x ∷ ps) q p = ap (differ (eqb p x)) (marks-last ps q p) ∙ go (eqb p x) (marks ps p) (eqb p q)
  where
    go : (x y z : Bool) → differ x (differ y z) ≡ differ (differ x y) z
    go true true true = refl
    go true true false = refl
    go true false z = refl
    go false y z = refl

pub marks-among : (l : List ℕ) (w p : ℕ) → w ≤ length l → ((i j : ℕ) → i < j → j < w → get_or l j 0 < get_or l i 0) → marks (take w l) p ≡ among (λ i. get_or l i 0) w p
marks-among l zero p room falling = unfold marks in sym (among-zero (λ i. get_or l i 0) p)
marks-among l (suc w) p room falling =
    rw (take-suc l w 0 (omega arith), marks-last (take w l) (get_or l w 0) p, marks-among l w p (omega arith) (λ i j h k. falling i j h (omega arith)), among-suc (λ i. get_or l i 0) w p)
    (go (ℕ_discrete p (get_or l w 0)))
  where
    go : Dec (p ≡ get_or l w 0) → differ (among (λ i. get_or l i 0) w p) (eqb p (get_or l w 0)) ≡ cond (eqb (get_or l w 0) p) true (among (λ i. get_or l i 0) w p)
    go (yes e) = rw (eq-eqb p (get_or l w 0) e, eq-eqb (get_or l w 0) p (sym e), e, among-fresh (λ i. get_or l i 0) w falling _ refl) (unfold differ in refl)
    go (no e) = rw (ne_eqb p (get_or l w 0) e, ne_eqb (get_or l w 0) p (λ q. e (sym q))) (differ-false _)

-- ---- a list of places

module _ (n : ℕ) {w : ℕ} {l : List ℕ} (room : w ≤ length l) (h : Descending n w l) where
  list-size : length (take w l) ≡ w
  list-size = simp length-take (omega arith)

  at : (i : ℕ) → i < w → get_or (take w l) i 0 ≡ get_or l i 0
  at i k = get_or-take w l i 0 k

  list-falling : Falling n (take w l)
  list-falling = each-falling n (take w l) (λ k. rw (at 0 (omega (arith, list-size))) (h.below 0 (omega (arith, list-size))))
      (λ i k. rw (at i (omega (arith, list-size)), at (suc i) (omega (arith, list-size))) (h.falling i (suc i) (omega arith) (omega (arith, list-size))))

-- The search for a place that breaks the order: the k first places are in order, and the next must be below `bound`.
pub record Ordered (n k bound : ℕ) (l : List ℕ) : Type 0 where
  pub order : Descending n k l
  pub over : (i : ℕ) → i < k → bound ≤ get_or l i 0
  pub last : (i : ℕ) → suc i ≡ k → bound ≡ get_or l i 0
  pub first : k ≡ 0 → bound ≡ n
  pub within : bound ≤ n

pub ordered-start : (n : ℕ) (l : List ℕ) → Ordered n 0 n l
ordered-start n l = record {
  order = record { falling = λ i j h k. absurd (omega arith); below = λ i k. absurd (omega arith) };
  over = λ i k. absurd (omega arith);
  last = λ i e. absurd (omega arith);
  first = λ e. refl;
  within = omega arith;
}

module _ (n : ℕ) {k bound : ℕ} {l : List ℕ} (h : Ordered n k bound l) where
  pub ordered-next : get_or l k 0 < bound → Ordered n (k + 1) (get_or l k 0) l
  ordered-next low = record {
    order = record {
      falling = λ i j a b. falling i j a b (dec_lt j k);
      below = λ i a. below i a (dec_lt i k);
    };
    over = λ i a. over i a (dec_lt i k);
    last = λ i e. let d : i ≡ k = omega arith in rw d refl;
    first = λ e. absurd (omega arith);
    within = omega (arith, h.within);
  }
    where
      falling : (i j : ℕ) → i < j → j < k + 1 → Dec (j < k) → get_or l j 0 < get_or l i 0
      falling i j a b (yes c) = h.order.falling i j a c
      falling i j a b (no c) = let d : j ≡ k = omega arith in rw d (omega (arith, h.over i (omega arith)))

      below : (i : ℕ) → i < k + 1 → Dec (i < k) → get_or l i 0 < n
      below i a (yes c) = h.order.below i c
      below i a (no c) = let d : i ≡ k = omega arith in rw d (omega (arith, h.within))

      over : (i : ℕ) → i < k + 1 → Dec (i < k) → get_or l k 0 ≤ get_or l i 0
      over i a (yes c) = omega (arith, h.over i c)
      over i a (no c) = let d : i ≡ k = omega arith in rw d (omega arith)

  -- A place that is too high is not below the one before it, or not below n.
  pub ordered-high : {w : ℕ} → k < w → bound ≤ get_or l k 0 → Descending n w l → ⊥
  ordered-high {w} inside high g = go k refl
    where
      go : (j : ℕ) → k ≡ j → ⊥
      go zero e = omega (arith, h.first e, g.below k inside)
      go (suc j) e = let d : get_or l k 0 < get_or l j 0 = g.falling j k (omega arith) inside in omega (arith, h.last j (sym e))

-- The loop that reverses a list, before its place i.
pub record Reversing (w : ℕ) (l : List ℕ) (i : ℕ) (r : List ℕ) : Type 0 where
  pub full : length r ≡ 64
  pub done : (k : ℕ) → k < i → get_or r k 0 ≡ get_or l (w - 1 - k) 0

pub reversing-start : {w : ℕ} {l : List ℕ} → Reversing w l 0 (replicate 64 0)
reversing-start = record { full = length-replicate {A = ℕ} 64 0; done = λ k h. absurd (omega arith) }

pub reversing-next : {w : ℕ} {l r : List ℕ} (i : ℕ) → i < 64 → Reversing w l i r → Reversing w l (i + 1) (set r i (get_or l (w - 1 - i) 0))
reversing-next {w} {l} {r} i inside h = record { full = simp length-set h.full; done = λ k a. done k a (dec_lt k i) }
  where
    done : (k : ℕ) → k < i + 1 → Dec (k < i) → get_or (set r i (get_or l (w - 1 - i) 0)) k 0 ≡ get_or l (w - 1 - k) 0
    done k a (yes c) = get_or-set_other r i k (get_or l (w - 1 - i) 0) 0 (omega arith) ∙ h.done k c
    done k a (no c) = let d : k ≡ i = omega arith in rw d (get_or-set_same r i (get_or l (w - 1 - i) 0) 0 (omega (arith, h.full)))

pub reversing-end : {w : ℕ} {l r : List ℕ} → Reversing w l w r → Reversed w l r
reversing-end h = record { full = h.full; at = h.done }

-- ---- the decoder

pub syndromes-power-sums : (f : Field) {s : List ℕ} (t x : ℕ) → Syndromes f t x s → PowerSums f s t
syndromes-power-sums f {s} t x h = record {
  elements = h.elements;
  squares = λ i l.
      let d : suc (suc (i + i)) ≡ suc i + suc i = omega arith in
      h.values (suc (i + i)) (omega arith) ∙ rw (d, value-square f (digits x (degree f * t)) (suc i), h.values i (omega arith));
}

module _ (f : Field) (t n x : ℕ) (h : Locatable f t n x) (short : n ≤ longest f) {s : List ℕ} (syndromes : Syndromes f t x s) where
  -- The syndromes are the power sums of a set that leaves the remainder.
  set-sums : (v : Word) → Locates f t n x v → (j : ℕ) → j < 2 * t → series f s j ≡ power-sum (gf f) (a f) (coefficient v) n j
  unfolding coef
  set-sums v y j l = el-same f _ _
      (el-num f (get_or s j 0) (syndromes.elements.small j) ∙ syndromes.values j l
      ∙ set-recheck f t n x h.fits h.low h.room v y j l ∙ sym (listed-power-sum f v j) ∙ ap (λ n. el f (power-sum (gf f) (a f) (coefficient v) n j)) y.below)

  set-count : (v : Word) → Locates f t n x v → count (coefficient v) n ≡ ones v
  set-count v y = sym (ones-count v ∙ ap (count (coefficient v)) y.below)

  -- A list of at most t places that passes the recheck is the answer, whatever proposed it.
  pub list-located : {l : List ℕ} {w : ℕ} → w ≤ length l → Descending n w l → Agrees f t s (take w l) → w ≤ t → locate f t n x ≡ exponents (take w l)
  list-located {l} {w} room a g k = locate-list f t n x h.fits h.low h.room (take w l) (list-falling n room a)
      (omega (arith, list-size n room a)) (λ i m. sym (syndromes.values (i + i) (omega arith)) ∙ g.sums i m)

  module _ {len b : ℕ} {c u : List ℕ} {gap : ℕ} (recurs : Holds (gf f) (num f) s t len b c u gap) where
    state : State (gf f) (series f s) (2 * t) len ((num f).el b) (series f c) (shift (gf f) gap (series f u))
    state = let e : 2 * t ≡ t + t = omega arith in rw e recurs.state.state

    set-length : (v : Word) → Locates f t n x v → len ≡ ones v
    set-length v y = errors-length (gf f) (a f) (longest f) (unit f) (order f) n short (2 * t) (coefficient v) (series f s) (set-sums v y)
        (omega (arith, y.few, set-count v y)) len _ _ _ state ∙ set-count v y

    pub recurs-leading : 0 < get_or c 0 0
    unfolding coef
    recurs-leading = pos_of_ne-zero (λ z. recurs.state.state.generates.start (ap (num f).el z ∙ (num f).el-nil))

    pub recurs-divisor : Divisor f c len
    unfolding coef
    recurs-divisor = record {
      elements = small-elements f recurs.small-c;
      start = recurs-leading;
      ends = λ i l. el-zero (gf f) (num f) (get_or c i 0) (recurs.small-c.small i) (recurs.state.state.generates.short i l);
    }

    -- The exponents of a set that leaves the remainder are as many roots as the degree.
    set-splits : (v : Word) → Locates f t n x v → Splits (gf f) (num f) (a f) c len
    set-splits v y = record {
      place = places.place;
      apart = λ i j k m. order f (places.place i) (places.place j) (places.lists.rising i j k (omega (arith, same))) (omega (arith, places.lists.below j (omega (arith, same))));
      zeros = λ i k. errors-root (gf f) (a f) (longest f) (unit f) (order f) n short (2 * t) (coefficient v) (series f s) (set-sums v y)
          (omega (arith, y.few, set-count v y)) len _ _ _ state (places.place i) (places.lists.below i (omega (arith, same))) (places.lists.set i (omega (arith, same)));
    }
      where
        places : Listing (gf f) (coefficient v) n (count (coefficient v) n)
        places = listing (gf f) (coefficient v) n

        same : count (coefficient v) n ≡ len
        same = set-count v y ∙ sym (set-length v y)

    pub unsplit-nowhere : (Splits (gf f) (num f) (a f) c len → ⊥) → locate f t n x ≡ nowhere
    unsplit-nowhere e = locate-nowhere f t n x (λ v y. e (set-splits v y))

    pub long-nowhere : t < len → locate f t n x ≡ nowhere
    long-nowhere l = locate-nowhere f t n x (λ v y. omega (arith, y.few, set-length v y))

    module _ {l : List ℕ} {w : ℕ} (roots : Roots (gf f) (num f) c len (a f) l n w) where
      abbrev place : ℕ → ℕ
      place i = get_or l i 0

      set-among : (v : Word) → Locates f t n x v → (p : ℕ) → p < n → among place w p ≡ coefficient v p
      set-among v y p k = go (among place w p) refl (coefficient v p) refl
        where
          root : coefficient v p ≡ true → Root (gf f) (num f) c len (a f) p
          root = errors-root (gf f) (a f) (longest f) (unit f) (order f) n short (2 * t) (coefficient v) (series f s) (set-sums v y)
              (omega (arith, y.few, set-count v y)) len _ _ _ state p k

          no-root : coefficient v p ≡ false → ¬ (Root (gf f) (num f) c len (a f) p)
          no-root = errors-no-root (gf f) (a f) (longest f) (unit f) (order f) n short (2 * t) (coefficient v) (series f s) (set-sums v y)
              (omega (arith, y.few, set-count v y)) len _ _ _ state p k

          go : (d : Bool) → among place w p ≡ d → (e : Bool) → coefficient v p ≡ e → d ≡ e
          go true i true j = refl
          go true i false j = absurd (no-root j (lists-among roots.lists p i))
          go false i true j = absurd (lists-not-among roots.lists p k i (root j))
          go false i false j = refl

      set-size : (v : Word) → Locates f t n x v → w ≡ len
      set-size v y = sym (lists-count roots.lists) ∙ count-cong (among place w) (coefficient v) n (set-among v y) ∙ set-count v y ∙ sym (set-length v y)

      pub few-nowhere : ¬ (w ≡ len) → locate f t n x ≡ nowhere
      few-nowhere e = locate-nowhere f t n x (λ v y. e (set-size v y))

      -- The roots from the highest place down.
      module _ {r : List ℕ} (room : w ≤ length r) (reversed : Reversed w l r) where
        in_order : Descending n w r
        in_order = record { falling = falling; below = λ i k. rw (reversed.at i k) (roots.lists.below (w - 1 - i) (omega arith)) }
          where
            falling : (i j : ℕ) → i < j → j < w → get_or r j 0 < get_or r i 0
            falling i j a b =
                rw (reversed.at i (omega arith), reversed.at j b) (roots.lists.rising (w - 1 - j) (w - 1 - i) (omega arith) (omega arith))

        reversed-among : (p : ℕ) → among (λ i. get_or r i 0) w p ≡ among place w p
        reversed-among p = go (among (λ i. get_or r i 0) w p) refl (among place w p) refl
          where
            go : (d : Bool) → among (λ i. get_or r i 0) w p ≡ d → (e : Bool) → among place w p ≡ e → d ≡ e
            go true i true j = refl
            go false i false j = refl
            go true i false j =
                let (e, k, q) = among-true (λ i. get_or r i 0) w p i in
                let at : place (w - 1 - e) ≡ p = sym (reversed.at e k) ∙ q in
                sym (rw at at (among-at place w (w - 1 - e) (omega arith))) ∙ j
            go false i true j =
                let (e, k, q) = among-true place w p j in
                let back : w - 1 - (w - 1 - e) ≡ e = omega arith in
                let at : get_or r (w - 1 - e) 0 ≡ p = reversed.at (w - 1 - e) (omega arith) ∙ ap place back ∙ q in
                sym i ∙ rw at at (among-at (λ i. get_or r i 0) w (w - 1 - e) (omega arith))

        set-list : (v : Word) → Locates f t n x v → listed v ≡ take w r
        unfolding listed
        set-list v y = falling-ext n (descending v) (take w r) (rw y.below at (descending-falling v)) (list-falling n room in_order) (λ p. each p (dec_lt p n))
          where
            past : (p : ℕ) → n ≤ p → (d : Bool) → among place w p ≡ d → d ≡ false
            past p k false i = refl
            past p k true i = let (e, q, r) = among-true place w p i in absurd (omega (arith, roots.lists.below e q))

            same : (p : ℕ) → among place w p ≡ marks (take w r) p
            same p = sym (reversed-among p) ∙ sym (marks-among r w p room in_order.falling)

            each : (p : ℕ) → Dec (p < n) → marks (descending v) p ≡ marks (take w r) p
            each p (yes k) = marks-descending v p (rw y.below k) ∙ sym (set-among v y p k) ∙ same p
            each p (no k) = marks-past v p (omega (arith, y.below)) ∙ sym (past p (omega arith) _ refl) ∙ same p

        set_agrees : (v : Word) → Locates f t n x v → Agrees f t s (take w r)
        set_agrees v y = record { sums = λ i k. syndromes.values (i + i) (omega arith) ∙ set-recheck f t n x h.fits h.low h.room v y (i + i) (omega arith) ∙ rw (set-list v y) }

        pub wrong-nowhere : (Agrees f t s (take w r) → ⊥) → locate f t n x ≡ nowhere
        wrong-nowhere e = locate-nowhere f t n x (λ v y. e (set_agrees v y))

        pub agreed-located : Agrees f t s (take w r) → w ≤ t → locate f t n x ≡ exponents (take w r)
        agreed-located = list-located room in_order

-- ---- a zero remainder

zeros-ones : (n : ℕ) → listed (replicate n false) ≡ []
unfolding flipped
zeros-ones n = listed-flips n [] end

pub zero-located : (f : Field) (t n : ℕ) → Fits f t n → locate f t n 0 ≡ exponents []
zero-located f t n h = locate-exponents f t n 0 (replicate n false) h locates ∙ ap exponents (zeros-ones n)
  where
    locates : Locates f t n 0 (replicate n false)
    locates = record {
      below = length-replicate n false;
      few = let e : ones (replicate n false) ≡ 0 = sym (listed-length (replicate n false)) ∙ ap length (zeros-ones n) in omega arith;
      leaves = codeword-remainder f t (replicate n false) h.level (zeros-codeword f t n);
    }

-- A remainder that is not zero has a level above 0, so a length of at most 2^m - 1.
pub nonzero-short : {f : Field} {t n x : ℕ} {b : Bool} → Locatable f t n x → b ≡ eqb x 0 → b ≡ false → n ≤ longest f
nonzero-short {f} {t} {n} {x} h is b = go t refl
  where
    z : ¬ (x ≡ 0)
    z = eqb-false x 0 (sym is ∙ b)

    go : (k : ℕ) → t ≡ k → n ≤ longest f
    go zero e = let l : x < 2 ^ (degree f * 0) = rw e at h.low in let m : x < 2 ^ 0 = rw (mul-zero (degree f)) at l in absurd (z (omega arith))
    go (suc k) e = h.fits.short (omega arith)

-- ---- what a finding says

module _ (f : Field) (t n x : ℕ) where
  pub finds-none : (r : Found) → locate f t n x ≡ nowhere → r.located ≡ false → r.count ≡ 0 → length r.exponents ≡ 64 → Finds f t n x r
  unfolding answer
  finds-none r e located count size = record { is = rw located (sym e); few = omega arith; size = size }

  pub finds-zero : (r : Found) → locate f t n x ≡ exponents [] → r.located ≡ true → r.count ≡ 0 → length r.exponents ≡ 64 → Finds f t n x r
  unfolding answer
  finds-zero r e located count size = record { is = rw (located, count) (sym e); few = omega arith; size = size }

  pub finds-listed : (r : Found) → r.located ≡ true → r.count ≤ t → length r.exponents ≡ 64 → locate f t n x ≡ exponents (take r.count r.exponents)
      → Finds f t n x r
  unfolding answer
  finds-listed r located few size e = record { is = rw located (sym e); few = few; size = size }

  pub finds-list : (r : Found) → r.count ≤ t → length r.exponents ≡ 64 → {P : Type 0} → Decides r.located P
      → (P → locate f t n x ≡ exponents (take r.count r.exponents)) → ((P → ⊥) → locate f t n x ≡ nowhere) → Finds f t n x r
  unfolding answer
  finds-list r few size d right wrong = record { is = go r.located refl; few = few; size = size }
    where
      go : (b : Bool) → r.located ≡ b → cond r.located (exponents (take r.count r.exponents)) nowhere ≡ locate f t n x
      go true e = rw e (sym (right (d.holds e)))
      go false e = rw e (sym (wrong (d.fails e)))

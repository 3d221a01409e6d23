-- Locating from a remainder. A set of exponents leaves the remainder of a word exactly if flipping it gives a codeword, so at most one set does,
-- and what a block gives follows from what its remainder alone locates. The roots that the decoder finds are that set, or there is none.
--
-- marked e n    the set of the exponents p below n with e p
use mathlib.Core.Path.{◌≡◌, refl, sym, ap, ap₂, ◌∙◌}
use mathlib.Core.Bool.{Bool, true, false}
use mathlib.Core.List.{List, [], ◌∷◌}
use Prim.Native.Nat.{ℕ, zero, suc, ◌+◌, ◌-◌, ◌*◌, ◌^◌, ◌≤◌, ◌<◌}
use native.Mathlib.Omega.{arith}
use native.Mathlib.Decide.{dec_lt}
use native.Mathlib.Nat.{lt_of_lt_of_le}
use lib.Pow.{pow_mono}
use lib.ListN.{length, get_or, take, replicate, length-replicate}
use lib.Bits.{bit_xor, xor_self, xor_zero_r}
use Rattle.bits.specs.Bits.{digit, digits}
use Rattle.bits.proofs.Numbers.{digits-length}
use Rattle.field.specs.declared.Field.{Field}
use Rattle.field.specs.Field.{degree, a^}
use Rattle.field.proofs.Xor.{xor-eq}
use Rattle.field.proofs.Instance.{gf, a, el, el-same, el-pow}
use Rattle.algebra.specs.Polynomial.{pow, horner, value as value_of_series}
use Rattle.algebra.specs.Recurrence.{State}
use Rattle.algebra.specs.Word.{differ, both, bump, count, power-sum}
use Rattle.algebra.proofs.Word.{differ-differ, count-cong, power-sum-cong}
use Rattle.code.specs.Word.{Word, ones, flipped, descending}
use Rattle.code.specs.Code.{Codeword, Near, Ruined, Fits, value}
use Rattle.code.specs.Generator.{remainder}
use Rattle.code.specs.Outcome.{good, judge}
use Rattle.code.specs.Locations.{Locates, located, listed, exponents, nowhere, locate_by, locate, power_sum}
use Rattle.code.proofs.Distance.{coefficient, coefficient-ext, coefficient-tail, coefficient-head, count-distance}
use Rattle.code.proofs.Codeword.{elements, el-value, power-sum-value, near-unique}
use Rattle.code.proofs.Outcome.{judge-repaired, near-repairs}
use Rattle.code.proofs.Polynomial.{digits_value}
use Rattle.code.proofs.Remainder.{codeword-remainder, remainder-codeword, remainder-value}
use Rattle.code.proofs.Dividend.{remainder-xor, remainder-digits}
use Rattle.code.proofs.Repair.{repaired, repaired-length, repaired-at, repaired-coefficient, repaired-distance, repaired-near, recheck-codeword, codeword-recheck, near-repaired}
use Rattle.code.proofs.Flips.{Below, marks, each_below, marks-descending, marks-power-sum, flipped-length, flipped-repaired, descending-length, descending-below}
use Rattle.code.proofs.Descending.{Falling, falling-each, descending-falling, descending-flipped}

-- ---- the listing of a set: what holds of it in any order

pub listed-length : (s : Word) → length (listed s) ≡ ones s
unfolding listed
listed-length s = descending-length s

pub listed_below : (s : Word) → Below (length s) (listed s)
unfolding listed
listed_below s = descending-below s

repaired-cong : (w : Word) (e e' : ℕ → Bool) → ((p : ℕ) → p < length w → e p ≡ e' p) → repaired w e ≡ repaired w e'
repaired-cong w e e' h = coefficient-ext _ _ (repaired-length w e ∙ sym (repaired-length w e')) (λ p l.
    let k : p < length w = omega (arith, repaired-length w e') in repaired-coefficient w e p k ∙ ap (differ (coefficient w p)) (h p k)
    ∙ sym (repaired-coefficient w e' p k))

pub listed-flipped : (w s : Word) → length s ≡ length w → flipped w (listed s) ≡ repaired w (coefficient s)
unfolding listed
listed-flipped w s l = flipped-repaired w (descending s) ∙ repaired-cong w _ _ (λ p k. marks-descending s p (omega arith))

pub listed-power-sum : (f : Field) (s : Word) (j : ℕ) → el f (power-sum (gf f) (a f) (coefficient s) (length s) j) ≡ power_sum f (listed s) (suc j)
unfolding listed
listed-power-sum f s j =
    ap (el f) (sym (power-sum-cong (gf f) (a f) (marks (descending s)) (coefficient s) (length s) j (marks-descending s)))
    ∙ marks-power-sum f (length s) (descending s) j (descending-below s)

-- ---- and in the order of the listing

-- Each listed exponent is smaller than the one before.
pub listed-falls : (s : Word) (i j : ℕ) → i < j → j < length (listed s) → get_or (listed s) j 0 < get_or (listed s) i 0
unfolding listed
listed-falls s = falling-each (length s) (descending s) (descending-falling s)

-- So a page is walked forward: in a block of n bits the exponent p is at the place n - 1 - p.
pub listed-forward : (s : Word) (i j : ℕ) → i < j → j < length (listed s)
    → length s - 1 - get_or (listed s) i 0 < length s - 1 - get_or (listed s) j 0
listed-forward s i j l k =
    let m : get_or (listed s) j 0 < get_or (listed s) i 0 = listed-falls s i j l k in
    let b : get_or (listed s) i 0 < length s = each_below (length s) (listed s) (listed_below s) i (omega arith) in
    omega arith

pub listed-flips : (n : ℕ) (ps : List ℕ) → Falling n ps → listed (flipped (replicate n false) ps) ≡ ps
unfolding listed
listed-flips n ps r = descending-flipped n ps r

-- ---- a set and the word that it is flipped in

pub ones-count : (s : Word) → ones s ≡ count (coefficient s) (length s)
unfolding ones count
ones-count [] = refl
ones-count (b ∷ s) = rw (coefficient-head b s, count-cong _ (coefficient s) (length s) (coefficient-tail b s), ← ones-count s) (go b)
  where
    go : (b : Bool) → digit b + ones s ≡ bump b (ones s)
    go true = unfold digit bump in omega arith
    go false = unfold digit bump in omega arith

pub repaired-remainder : (f : Field) (t : ℕ) (w s : Word) → length s ≡ length w
    → remainder f t (repaired w (coefficient s)) ≡ bit_xor (remainder f t w) (remainder f t s)
repaired-remainder f t w s l = remainder-xor f t w s (repaired w (coefficient s)) (sym (repaired-length w (coefficient s))) (l ∙ sym (repaired-length w (coefficient s))) each
  where
    back : (i : ℕ) → i < length w → coefficient s (length w - suc i) ≡ get_or s i false
    back i k = unfold coefficient in (let e : length s - suc (length w - suc i) ≡ i = omega arith in rw e)

    each : (i : ℕ) → i < length (repaired w (coefficient s)) → get_or (repaired w (coefficient s)) i false ≡ differ (get_or w i false) (get_or s i false)
    each i k = let k' : i < length w = omega (arith, repaired-length w (coefficient s)) in repaired-at w (coefficient s) i k'
        ∙ ap (differ (get_or w i false)) (back i k')

pub locates-near : (f : Field) (t : ℕ) (w s : Word) → t ≤ 62 → Locates f t (length w) (remainder f t w) s → Near f t w (repaired w (coefficient s))
locates-near f t w s h x = repaired-near f t w (coefficient s)
    (remainder-codeword f t _ h (repaired-remainder f t w s x.below ∙ rw x.leaves (xor_self (remainder f t w))))
    (rw (← x.below, ← ones-count s) x.few)

pub near-locates : (f : Field) (t : ℕ) (w c : Word) → t ≤ 62 → Near f t w c → Locates f t (length w) (remainder f t w) (repaired w (coefficient c))
near-locates f t w c h x = record {
  below = repaired-length w (coefficient c);
  few = rw (
    ones-count (repaired w (coefficient c)),
    repaired-length w (coefficient c),
    count-cong _ (both (coefficient w) (coefficient c)) (length w) (repaired-coefficient w (coefficient c)),
    count-distance w c (sym x.same),
  ) x.close;
  leaves = repaired-remainder f t w c x.same ∙ rw (codeword-remainder f t c h x.code) (xor_zero_r (remainder f t w));
}

differ-cancel : (x y z : Bool) → differ x y ≡ differ x z → y ≡ z
differ-cancel x y z e = sym (differ-differ x y) ∙ ap (differ x) e ∙ differ-differ x z

repaired-cancel : (w : Word) (e e' : ℕ → Bool) → repaired w e ≡ repaired w e' → (p : ℕ) → p < length w → e p ≡ e' p
repaired-cancel w e e' h p l = differ-cancel (coefficient w p) (e p) (e' p) (sym (repaired-coefficient w e p l) ∙ ap (λ v. coefficient v p) h ∙ repaired-coefficient w e' p l)

-- At most one set leaves a remainder.
pub locates-unique : (f : Field) (t n r : ℕ) (s s' : Word) → Fits f t n → Locates f t n r s → Locates f t n r s' → s ≡ s'
locates-unique f t n r s s' h x y =
    coefficient-ext s s' (x.below ∙ sym y.below) (λ p l. repaired-cancel s (coefficient s) (coefficient s') same p (rw (x.below, ← y.below) l))
  where
    of-s : (s' : Word) → Locates f t n r s' → Locates f t (length s) (remainder f t s) s'
    of-s s' z = rw (x.below, x.leaves) z

    same : repaired s (coefficient s) ≡ repaired s (coefficient s')
    same = near-unique f t s _ _ (rw x.below h) (locates-near f t s s h.level (of-s s x)) (locates-near f t s s' h.level (of-s s' y))

-- ---- the answer

pub locate-exponents : (f : Field) (t n r : ℕ) (s : Word) → Fits f t n → Locates f t n r s → locate f t n r ≡ exponents (listed s)
unfolding locate locate_by
locate-exponents f t n r s h x = go (located f t n r)
  where
    go : (d : Dec ((s : Word) × Locates f t n r s)) → locate_by d ≡ exponents (listed s)
    go (yes (s', y)) = rw (locates-unique f t n r s' s h y x)
    go (no q) = absurd (q (s, x))

pub locate-nowhere : (f : Field) (t n r : ℕ) → ((s : Word) → Locates f t n r s → ⊥) → locate f t n r ≡ nowhere
unfolding locate locate_by
locate-nowhere f t n r h = go (located f t n r)
  where
    go : (d : Dec ((s : Word) × Locates f t n r s)) → locate_by d ≡ nowhere
    go (yes (s, x)) = absurd (h s x)
    go (no q) = refl

pub record Located (f : Field) (t n r : ℕ) (ps : List ℕ) : Type 0 where
  pub set : Word
  pub locates : Locates f t n r set
  pub list : ps ≡ listed set

pub exponents-locate : (f : Field) (t n r : ℕ) (ps : List ℕ) → locate f t n r ≡ exponents ps → Located f t n r ps
unfolding locate locate_by
exponents-locate f t n r ps h = go (located f t n r) h
  where
    go : (d : Dec ((s : Word) × Locates f t n r s)) → locate_by d ≡ exponents ps → Located f t n r ps
    go (yes (s, x)) e = record { set = s; locates = x; list = cc }
    go (no q) e = let z : ◌≡◌ {A = ℕ} 0 1 = cc in absurd (omega arith)

pub nowhere-locate : (f : Field) (t n r : ℕ) → locate f t n r ≡ nowhere → (s : Word) → Locates f t n r s → ⊥
unfolding locate locate_by
nowhere-locate f t n r h s x = go (located f t n r) h
  where
    go : (d : Dec ((s : Word) × Locates f t n r s)) → locate_by d ≡ nowhere → ⊥
    go (yes (s', y)) e = let z : ◌≡◌ {A = ℕ} 0 1 = cc in omega arith
    go (no q) e = q (s, x)

-- ---- what a block gives, by its remainder alone

pub judge-located : (f : Field) (t k : ℕ) (w s : Word) → Fits f t (length w) → Locates f t (length w) (remainder f t w) s
    → judge f t k w ≡ good (take k (flipped w (listed s))) (length (listed s))
judge-located f t k w s h x =
    judge-repaired f t k w _ _ h (near-repairs f t k w _ (locates-near f t w s h.level x))
    ∙ ap₂ (λ v n. good (take k v) n)
    (sym (listed-flipped w s x.below))
    (repaired-distance w (coefficient s) ∙ ap (count (coefficient s)) (sym x.below) ∙ sym (listed-length s ∙ ones-count s))

pub judge-exponents : (f : Field) (t k : ℕ) (w : Word) (ps : List ℕ) → Fits f t (length w) → locate f t (length w) (remainder f t w) ≡ exponents ps
    → judge f t k w ≡ good (take k (flipped w ps)) (length ps)
judge-exponents f t k w ps h e =
    let x = exponents-locate f t (length w) (remainder f t w) ps e in rw x.list (judge-located f t k w x.set h x.locates)

pub nowhere-ruined : (f : Field) (t : ℕ) (w : Word) → t ≤ 62 → locate f t (length w) (remainder f t w) ≡ nowhere → Ruined f t w
nowhere-ruined f t w h e = record { none = λ c x. nowhere-locate f t (length w) (remainder f t w) e _ (near-locates f t w c h x) }

-- ---- the exponents p below n with e p

unfoldable pub marked : (ℕ → Bool) → ℕ → Word
marked e zero = []
marked e (suc n) = e n ∷ marked e n

pub marked-length : (e : ℕ → Bool) (n : ℕ) → length (marked e n) ≡ n
unfolding marked
marked-length e zero = refl
marked-length e (suc n) = ap suc (marked-length e n)

pub marked-coefficient : (e : ℕ → Bool) (n p : ℕ) → p < n → coefficient (marked e n) p ≡ e p
unfolding marked
marked-coefficient e zero p l = absurd (omega arith)
marked-coefficient e (suc n) p l = go (dec_lt p n) (marked-coefficient e n p)
  where
    go : Dec (p < n) → (p < n → coefficient (marked e n) p ≡ e p) → coefficient (e n ∷ marked e n) p ≡ e p
    go (yes k) h = coefficient-tail (e n) (marked e n) p (rw (marked-length e n) k) ∙ h k
    go (no k) h = let i : p ≡ length (marked e n) = omega (arith, marked-length e n) in let j : p ≡ n = omega arith in rw i (coefficient-head (e n) (marked e n)) ∙ ap e (sym j)

pub marked-ones : (e : ℕ → Bool) (n : ℕ) → ones (marked e n) ≡ count e n
marked-ones e n = ones-count (marked e n) ∙ rw (marked-length e n) (count-cong _ e n (marked-coefficient e n))

pub marked-self : (s : Word) → marked (coefficient s) (length s) ≡ s
marked-self s = coefficient-ext _ s (marked-length _ _) (λ p l. marked-coefficient (coefficient s) (length s) p l)

-- ---- the decoder, from a remainder r: S are its values at a, a^2, .., a^(2t), and e are the roots of the polynomial that the decoder ends with

module _ (f : Field) (t n r : ℕ) (fits : Fits f t n) (low : r < 2 ^ (degree f * t)) (room : degree f * t ≤ n) where
  word-length : length (digits r n) ≡ n
  word-length = digits-length r n

  word-remainder : remainder f t (digits r n) ≡ r
  word-remainder = remainder-digits f t n r low (lt_of_lt_of_le low (pow_mono room))

  syndrome : ℕ → (gf f).carrier
  syndrome j = horner (gf f) (elements f (digits r (degree f * t))) (pow (gf f) (a f) (suc j)) (degree f * t)

  syndrome-sum : (j : ℕ) → j < 2 * t → syndrome j ≡ power-sum (gf f) (a f) (coefficient (digits r n)) (length (digits r n)) j
  unfolding syndrome elements
  syndrome-sum j l =
      digits_value (gf f) (degree f * t) r _
      ∙ (rw word-remainder at (remainder-value f t (digits r n) (suc j) fits.level (omega arith) (omega arith)))
      ∙ sym (power-sum-value f (digits r n) j)

  el-syndrome : (j : ℕ) → el f (syndrome j) ≡ value f (digits r (degree f * t)) (a^ f (suc j))
  unfolding syndrome value
  el-syndrome j = el-value f (digits r (degree f * t)) _ (degree f * t) ∙ rw (el-pow f (suc j), digits-length r (degree f * t))

  of_word : (s : Word) → Locates f t n r s → Locates f t (length (digits r n)) (remainder f t (digits r n)) s
  of_word s x = rw (word-length, word-remainder) x

  module _ (S : ℕ → (gf f).carrier) (sums : (j : ℕ) → j < 2 * t → el f (S j) ≡ value f (digits r (degree f * t)) (a^ f (suc j))) (e : ℕ → Bool) where
    as-sum : (j : ℕ) → j < 2 * t → S j ≡ power-sum (gf f) (a f) (coefficient (digits r n)) (length (digits r n)) j
    as-sum j l = el-same f _ _ (sums j l ∙ sym (el-syndrome j)) ∙ syndrome-sum j l

    -- The recheck: few exponents, whose power sums are the odd syndromes.
    pub recheck-locates : count e n ≤ t → ((i : ℕ) → i < t → S (i + i) ≡ power-sum (gf f) (a f) e n (i + i)) → Locates f t n r (marked e n)
    recheck-locates few h = record { below = marked-length e n; few = rw (marked-ones e n) few; leaves = sym (xor-eq r _ zero-sum) }
      where
        code : Codeword f t (repaired (digits r n) e)
        code = recheck-codeword f t (digits r n) e (λ i l. sym (as-sum (i + i) (omega arith)) ∙ h i l ∙ rw word-length)

        same : repaired (digits r n) (coefficient (marked e n)) ≡ repaired (digits r n) e
        same = repaired-cong (digits r n) _ e (λ p l. marked-coefficient e n p (omega (arith, word-length)))

        zero-sum : bit_xor r (remainder f t (marked e n)) ≡ 0
        zero-sum = ap (λ x. bit_xor x (remainder f t (marked e n))) (sym word-remainder)
            ∙ sym (repaired-remainder f t (digits r n) (marked e n) (marked-length e n ∙ sym word-length))
            ∙ ap (remainder f t) same ∙ codeword-remainder f t _ fits.level code

    pub locates-recheck : Locates f t n r (marked e n) → (j : ℕ) → j < 2 * t → S j ≡ power-sum (gf f) (a f) e n j
    locates-recheck x j l = as-sum j l
        ∙ codeword-recheck f t (digits r n) (coefficient (marked e n)) (locates-near f t (digits r n) (marked e n) fits.level (of_word (marked e n) x)).code j l
        ∙ rw word-length (power-sum-cong (gf f) (a f) _ e n j (marked-coefficient e n))

    module _ (positive : 0 < t) (L : ℕ) (b : (gf f).carrier) (C T : ℕ → (gf f).carrier) (s : State (gf f) S (2 * t) L b C T)
        (at-roots : (p : ℕ) → p < n → e p ≡ true → value_of_series (gf f) C (pow (gf f) (a f) p) L ≡ (gf f).nil)
        (elsewhere : (p : ℕ) → p < n → e p ≡ false → value_of_series (gf f) C (pow (gf f) (a f) p) L ≡ (gf f).nil → ⊥) where
      -- A set that leaves r is that of the roots.
      pub locates-roots : (s : Word) → Locates f t n r s → s ≡ marked e n
      locates-roots v x = coefficient-ext v (marked e n) (x.below ∙ sym (marked-length e n)) (λ p l.
          let k : p < n = omega (arith, marked-length e n) in
          repaired-cancel (digits r n) (coefficient v) e (near-repaired f t (digits r n) (rw word-length (fits.short positive)) S as-sum L b C T s e
          (λ p l. at-roots p (rw word-length at l)) (λ p l. elsewhere p (rw word-length at l)) _ (locates-near f t (digits r n) v fits.level (of_word v x))) p (rw word-length k)
          ∙ sym (marked-coefficient e n p k))

      pub roots-nowhere : (Locates f t n r (marked e n) → ⊥) → locate f t n r ≡ nowhere
      roots-nowhere h = locate-nowhere f t n r (λ s x. h (rw (locates-roots s x) at x))

  -- The recheck in numbers: few exponents, whose power sums are the odd syndromes.
  pub recheck-set : (s : Word) → length s ≡ n → ones s ≤ t
      → ((i : ℕ) → i < t → value f (digits r (degree f * t)) (a^ f (suc (i + i))) ≡ power_sum f (listed s) (suc (i + i))) → Locates f t n r s
  recheck-set s l few h = rw (← marked-self s, l) (recheck-locates syndrome (λ j k. el-syndrome j) (coefficient s) (rw (← l, ← ones-count s) few)
      (λ i k. el-same f _ _ (el-syndrome (i + i) ∙ h i k ∙ sym (listed-power-sum f s (i + i)) ∙ rw l)))

  pub set-recheck : (s : Word) → Locates f t n r s → (j : ℕ) → j < 2 * t → value f (digits r (degree f * t)) (a^ f (suc j)) ≡ power_sum f (listed s) (suc j)
  set-recheck s x j l =
      sym (el-syndrome j) ∙ ap (el f) (locates-recheck syndrome (λ j k. el-syndrome j) (coefficient s) (rw (← x.below, marked-self s) (rw x.below x)) j l)
      ∙ ap (λ n. el f (power-sum (gf f) (a f) (coefficient s) n j)) (sym x.below) ∙ listed-power-sum f s j

  -- A list that descends from below n and passes the recheck, whatever proposed it, is the answer.
  pub locate-list : (ps : List ℕ) → Falling n ps → length ps ≤ t
      → ((i : ℕ) → i < t → value f (digits r (degree f * t)) (a^ f (suc (i + i))) ≡ power_sum f ps (suc (i + i))) → locate f t n r ≡ exponents ps
  locate-list ps falling few h =
      let s : Word = flipped (replicate n false) ps in
      let e : listed s ≡ ps = listed-flips n ps falling in
      locate-exponents f t n r s fits (recheck-set s (flipped-length (replicate n false) ps ∙ length-replicate n false) (rw (← listed-length s, e) few) (λ i l. h i l ∙ rw e)) ∙ ap exponents e

-- A claim in another order gets the same answer (document 01, "Claim": "a list of exponents in any order").
use Rattle.std.specs.Prelude.{Result, Ok, Err}
use Rattle.layout.specs.declared.Refusal.{Refusal}
use Rattle.layout_plan.specs.declared.Layout.{Layout}
use mathlib.Core.Path.{◌≡◌, refl, sym, ap, ◌∙◌}
use mathlib.Core.Bool.{Bool, true, false, cond}
use mathlib.Core.List.{List, [], ◌∷◌}
use Prim.Native.Nat.{ℕ, zero, suc, ◌<◌}
use native.Mathlib.Omega.{arith}
use lib.ListN.{length, get_or}
use lib.Dec.{eqb}
use Rattle.algebra.specs.Word.{flip}
use Rattle.field.specs.declared.Field.{Field}
use Rattle.layout_plan.specs.declared.Plan.{Plan}
use Rattle.layout_plan.specs.Plan.{plan_of, field, level}
use Rattle.code.specs.Word.{Word, turned, flipped}
use Rattle.code.proofs.Flips.{turned-length}
use Rattle.page_theory.specs.Page.{block_word}
use Rattle.page_theory.specs.Claim.{Right, right?}
use Rattle.page_theory.specs.Calls.{claim_by, claim_in, claim_for}
use Rattle.page_theory.specs.Alike.{Reordered, same, swap, keep, then}

reordered-back : {xs ys : List ℕ} → Reordered xs ys → Reordered ys xs
reordered-back (same xs) = same xs
reordered-back (swap x y xs) = swap y x xs
reordered-back (keep x r) = keep x (reordered-back r)
reordered-back (then r s) = then (reordered-back s) (reordered-back r)

reordered-length : {xs ys : List ℕ} → Reordered xs ys → length xs ≡ length ys
reordered-length (same xs) = refl
reordered-length (swap x y xs) = refl
reordered-length (keep x r) = ap suc (reordered-length r)
reordered-length (then r s) = reordered-length r ∙ reordered-length s

-- ---- what holds of every place

module _ (P : ℕ → Type 0) where
  record All (xs : List ℕ) : Type 0 where
    each : (i : ℕ) → i < length xs → P (get_or xs i 0)

  all_head : (x : ℕ) (xs : List ℕ) → All (x ∷ xs) → P x
  all_head x xs h = h.each 0 (omega arith)

  all_tail : (x : ℕ) (xs : List ℕ) → All (x ∷ xs) → All xs
  all_tail x xs h = record { each = λ i l. h.each (suc i) (omega arith) }

  all_one : (x : ℕ) (xs : List ℕ) → P x → All xs → All (x ∷ xs)
  all_one x xs p h = record { each = at }
    where
      at : (i : ℕ) → i < length (x ∷ xs) → P (get_or (x ∷ xs) i 0)
      at zero l = p
      at (suc i) l = h.each i (omega arith)

  all-reordered : {xs ys : List ℕ} → Reordered xs ys → All xs → All ys
  all-reordered (same xs) h = h
  all-reordered (swap x y xs) h =
      all_one y (x ∷ xs) (all_head y xs (all_tail x (y ∷ xs) h))
      (all_one x xs (all_head x (y ∷ xs) h) (all_tail y xs (all_tail x (y ∷ xs) h)))
  all-reordered (keep x {xs} {ys} r) h = all_one x ys (all_head x xs h) (all-reordered r (all_tail x xs h))
  all-reordered (then r s) h = all-reordered s (all-reordered r h)

-- ---- distinct numbers

abbrev Other : ℕ → ℕ → Type 0
Other x y = y ≡ x → ⊥

data Distinct : List ℕ → Type 0 where
  none : Distinct []
  one : {x : ℕ} {xs : List ℕ} → All (Other x) xs → Distinct xs → Distinct (x ∷ xs)

distinct-reordered : {xs ys : List ℕ} → Reordered xs ys → Distinct xs → Distinct ys
distinct-reordered (same xs) h = h
distinct-reordered (swap x y xs) (one a (one b h)) =
    one (all_one (Other y) x xs (λ e. all_head (Other x) y xs a (sym e)) b) (one (all_tail (Other x) y xs a) h)
distinct-reordered (keep x r) (one a h) = one (all-reordered (Other x) r a) (distinct-reordered r h)
distinct-reordered (then r s) h = distinct-reordered s (distinct-reordered r h)

abbrev Apart : List ℕ → Type 0
Apart xs = (i j : ℕ) → i < j → j < length xs → get_or xs i 0 ≡ get_or xs j 0 → ⊥

apart_distinct : (xs : List ℕ) → Apart xs → Distinct xs
apart_distinct [] h = none
apart_distinct (x ∷ xs) h = one (record { each = first }) (apart_distinct xs (λ i j k l. h (suc i) (suc j) (omega arith) (omega arith)))
  where
    first : (i : ℕ) → i < length xs → Other x (get_or xs i 0)
    first i l e = h 0 (suc i) (omega arith) (omega arith) (sym e)

distinct_apart : {xs : List ℕ} → Distinct xs → Apart xs
distinct_apart none i j k l e = omega arith
distinct_apart (one a h) zero zero k l e = omega arith
distinct_apart (one a h) zero (suc j) k l e = a.each j (omega arith) (sym e)
distinct_apart (one a h) (suc i) zero k l e = omega arith
distinct_apart (one a h) (suc i) (suc j) k l e = distinct_apart h i j (omega arith) (omega arith) e

-- ---- the word turned over

turned-swap : (w : Word) (p q : ℕ) → turned (turned w p) q ≡ turned (turned w q) p
unfolding turned
turned-swap [] p q = refl
turned-swap (b ∷ w) p q = go (eqb p (length w)) (eqb q (length w)) refl refl (turned-swap w p q)
  where
    go : (u v : Bool) → eqb p (length w) ≡ u → eqb q (length w) ≡ v → turned (turned w p) q ≡ turned (turned w q) p
        → turned (cond u (flip b ∷ w) (b ∷ turned w p)) q ≡ turned (cond v (flip b ∷ w) (b ∷ turned w q)) p
    go true true e f h = rw (e, f)
    go true false e f h = rw (f, turned-length w q, e)
    go false true e f h = rw (turned-length w p, f, e)
    go false false e f h = rw (turned-length w p, turned-length w q, f, e) (ap (λ (v : Word). b ∷ v) h)

flipped-reordered : {xs ys : List ℕ} (w : Word) → Reordered xs ys → flipped w xs ≡ flipped w ys
unfolding flipped
flipped-reordered w (same xs) = refl
flipped-reordered w (swap x y xs) = ap (λ (v : Word). flipped v xs) (turned-swap w x y)
flipped-reordered w (keep x r) = flipped-reordered (turned w x) r
flipped-reordered w (then r s) = flipped-reordered w r ∙ flipped-reordered w s

-- ---- claims

module _ {f : Field} {t : ℕ} {w : Word} where
  right-reordered : {xs ys : List ℕ} → Reordered xs ys → Right f t w xs → Right f t w ys
  right-reordered {xs} {ys} r h = record {
    distinct = distinct_apart (distinct-reordered r (apart_distinct xs h.distinct));
    below = (all-reordered (λ x. x < length w) r (record { each = h.below })).each;
    few = omega (arith, reordered-length r, h.few);
    code = rw (← flipped-reordered w r) h.code;
  }

  by-reordered : {xs ys : List ℕ} → Reordered xs ys → (c : Dec (Right f t w xs)) (d : Dec (Right f t w ys)) → claim_by c ≡ claim_by d
  unfolding claim_by
  by-reordered r (yes h) (yes k) = refl
  by-reordered r (yes h) (no k) = absurd (k (right-reordered r h))
  by-reordered r (no h) (yes k) = absurd (h (right-reordered (reordered-back r) k))
  by-reordered r (no h) (no k) = refl

claim_in-reordered : (q : Plan) (page : List ℕ) (b : ℕ) {claims other : List ℕ} → Reordered claims other → claim_in q page b claims ≡ claim_in q page b other
unfolding claim_in
claim_in-reordered q page b r = rw (by-reordered r (right? (field q b) (level q b) (block_word q page b) _) (right? (field q b) (level q b) (block_word q page b) _))

pub claim-reordered : (a : Result Layout Refusal) (page : List ℕ) (b : ℕ) {claims other : List ℕ} → Reordered claims other → claim_for a page b claims ≡ claim_for a page b other
unfolding claim_for
claim-reordered (Ok l) page b r = claim_in-reordered (plan_of l) page b r
claim-reordered (Err x) page b r = refl

-- Laws of lists of numbered layouts, by the place of a number.
--
-- index-nil, index-here, index-next    the place of a number, an element at a time
-- find-index, find_none, holds-index, holds-none, without-index    what the list's functions are by that place
-- find-number, find-holds, find-unknown    a layout that is found has the number
-- closed-copied, closed-end     how layouts are moved one place forward
-- held_small, held_same    the first places of a store
use mathlib.Core.Path.{◌≡◌, refl, sym, ap, ap₂, ◌∙◌}
use mathlib.Core.Bool.{Bool, true, false, cond}
use mathlib.Core.List.{List, [], ◌∷◌, ◌++◌, append_assoc}
use Prim.Native.Nat.{ℕ, suc, ◌+◌, ◌-◌, ◌≤◌, ◌<◌}
use native.Mathlib.Numerals.{add-one}
use native.Mathlib.Omega.{arith}
use lib.ListN.{length, get_or, take, drop, length-drop, length-append}
use lib.Seq.{take_at, drop_at, take-add, take-take, length-take-le}
use borrow.Rule.Slice.PartMut.{mid_of, put_mid, Post-is}
use lib.Dec.{eqb, ltb}
use borrow.Author.Tests.{eqb-true, eq-eqb, ne_eqb, ltb-true, ltb-false}
use Rattle.std.specs.Prelude.{Some, None}
use Rattle.version_list.specs.declared.Numbered.{Numbered}
use Rattle.version_list.specs.Plain.{find, holds, without}
use Rattle.version_list.specs.Places.{held, index_of, closed}

-- ---- the place of a number

pub index-nil : (n : ℕ) → index_of [] n ≡ 0
unfolding index_of
index-nil n = refl

pub index-here : (n : ℕ) (e : Numbered) (l : List Numbered) → e.number ≡ n → index_of (e ∷ l) n ≡ 0
unfolding index_of
index-here n e l same = rw (eq-eqb _ n same)

pub index-next : (n : ℕ) (e : Numbered) (l : List Numbered) → (e.number ≡ n → ⊥) → index_of (e ∷ l) n ≡ index_of l n + 1
unfolding index_of
index-next n e l other = rw (ne_eqb _ n other, add-one (index_of l n))

-- ---- the list's functions by that place

module _ (d : Numbered) where
  pub find-index : (l : List Numbered) (n : ℕ) → index_of l n < length l → find l n ≡ Some (get_or l (index_of l n) d)
  unfolding index_of find
  find-index [] n h = absurd (omega arith)
  find-index (e ∷ l) n h = go (eqb e.number n) (find-index l n) h
    where
      go : (t : Bool) → (index_of l n < length l → find l n ≡ Some (get_or l (index_of l n) d))
          → cond t 0 (suc (index_of l n)) < suc (length l)
          → cond t (Some e) (find l n) ≡ Some (get_or (e ∷ l) (cond t 0 (suc (index_of l n))) d)
      go true ih k = refl
      go false ih k = ih (omega arith)

pub find_none : (l : List Numbered) (n : ℕ) → length l ≤ index_of l n → find l n ≡ None
unfolding index_of find
find_none [] n h = refl
find_none (e ∷ l) n h = go (eqb e.number n) (find_none l n) h
  where
    go : (t : Bool) → (length l ≤ index_of l n → find l n ≡ None)
        → suc (length l) ≤ cond t 0 (suc (index_of l n)) → cond t (Some e) (find l n) ≡ None
    go true ih k = absurd (omega arith)
    go false ih k = ih (omega arith)

pub holds-index : (l : List Numbered) (n : ℕ) → index_of l n < length l → holds l n ≡ true
unfolding index_of holds
holds-index [] n h = absurd (omega arith)
holds-index (e ∷ l) n h = go (eqb e.number n) (holds-index l n) h
  where
    go : (t : Bool) → (index_of l n < length l → holds l n ≡ true) → cond t 0 (suc (index_of l n)) < suc (length l) → cond t true (holds l n) ≡ true
    go true ih k = refl
    go false ih k = ih (omega arith)

pub holds-none : (l : List Numbered) (n : ℕ) → length l ≤ index_of l n → holds l n ≡ false
unfolding index_of holds
holds-none [] n h = refl
holds-none (e ∷ l) n h = go (eqb e.number n) (holds-none l n) h
  where
    go : (t : Bool) → (length l ≤ index_of l n → holds l n ≡ false) → suc (length l) ≤ cond t 0 (suc (index_of l n)) → cond t true (holds l n) ≡ false
    go true ih k = absurd (omega arith)
    go false ih k = ih (omega arith)

pub without-index : (l : List Numbered) (n : ℕ) → index_of l n < length l → without l n ≡ take (index_of l n) l ++ drop (suc (index_of l n)) l
unfolding index_of without
without-index [] n h = absurd (omega arith)
without-index (e ∷ l) n h = go (eqb e.number n) (without-index l n) h
  where
    go : (t : Bool) → (index_of l n < length l → without l n ≡ take (index_of l n) l ++ drop (suc (index_of l n)) l)
        → cond t 0 (suc (index_of l n)) < suc (length l)
        → cond t l (e ∷ without l n) ≡ take (cond t 0 (suc (index_of l n))) (e ∷ l) ++ drop (suc (cond t 0 (suc (index_of l n)))) (e ∷ l)
    go true ih k = refl
    go false ih k = ap (λ (x : List Numbered). e ∷ x) (ih (omega arith))

-- ---- what is found has the number

pub find-number : (l : List Numbered) (n : ℕ) (e : Numbered) → find l n ≡ Some e → e.number ≡ n
unfolding find
find-number [] n e h = let z : ◌≡◌ {A = ℕ} 0 1 = cc in absurd (omega arith)
find-number (x ∷ l) n e h = go (eqb x.number n) refl (find-number l n e) h
  where
    go : (t : Bool) → eqb x.number n ≡ t → (find l n ≡ Some e → e.number ≡ n) → cond t (Some x) (find l n) ≡ Some e → e.number ≡ n
    go true s ih k = let y : x ≡ e = cc in rw y at (eqb-true _ n s)
    go false s ih k = ih k

pub find-holds : (l : List Numbered) (n : ℕ) (e : Numbered) → find l n ≡ Some e → holds l n ≡ true
unfolding find holds
find-holds [] n e h = let z : ◌≡◌ {A = ℕ} 0 1 = cc in absurd (omega arith)
find-holds (x ∷ l) n e h = go (eqb x.number n) (find-holds l n e) h
  where
    go : (t : Bool) → (find l n ≡ Some e → holds l n ≡ true) → cond t (Some x) (find l n) ≡ Some e → cond t true (holds l n) ≡ true
    go true ih k = refl
    go false ih k = ih k

pub find-unknown : (l : List Numbered) (n : ℕ) → find l n ≡ None → holds l n ≡ false
unfolding find holds
find-unknown [] n h = refl
find-unknown (x ∷ l) n h = go (eqb x.number n) (find-unknown l n) h
  where
    go : (t : Bool) → (find l n ≡ None → holds l n ≡ false) → cond t (Some x) (find l n) ≡ None → cond t true (holds l n) ≡ false
    go true ih k = let z : ◌≡◌ {A = ℕ} 0 1 = cc in absurd (omega arith)
    go false ih k = ih k

-- ---- moving layouts forward

-- the places up to i, after the move
front : List Numbered → ℕ → ℕ → List Numbered
front l at i = take at l ++ take (i - at) (drop (suc at) l)

closed-front : (l : List Numbered) (at i : ℕ) → closed l at i ≡ front l at i ++ drop i l
unfolding closed front
closed-front l at i = sym (append_assoc (take at l) _ _)

front_length : (l : List Numbered) (at i : ℕ) → at ≤ i → i < length l → length (front l at i) ≡ i
unfolding front
front_length l at i h k = simp length-append (omega (arith, length-take-le at l (omega arith), length-take-le (i - at) (drop (suc at) l) (omega (arith, length-drop (suc at) l))))

-- The places behind `at` are copied one place forward, over those from `at` on.
pub closed-copied : (l ys : List Numbered) (at count : ℕ) → at < count → ys ≡ mid_of (at + 1) (count - (at + 1)) l
    → put_mid at (count - 1 - at) l ys ≡ closed l at (count - 1)
unfolding closed
closed-copied l ys at count h e =
    let k : count - (at + 1) ≡ count - 1 - at = omega arith in
    ap (λ (x : List Numbered). take at l ++ (x ++ drop (count - 1 - at) (drop at l))) (e ∙ ap₂ (λ (m j : ℕ). take m (drop j l)) k (add-one at))
    ∙ ap (λ (x : List Numbered). take at l ++ (take (count - 1 - at) (drop (suc at) l) ++ x)) (Post-is at (count - 1) l (omega arith))

drop-taken : (l : List Numbered) (n count : ℕ) → n ≤ count → n ≤ length l → drop n (take count l) ≡ take (count - n) (drop n l)
drop-taken l n count h k =
    let e : n + (count - n) ≡ count = omega arith in
    ap (λ (m : ℕ). drop n (take m l)) (sym e) ∙ ap (drop n) (take-add n (count - n) l) ∙ drop_at (take n l) _ n (length-take-le n l k)

pub closed-end : (l : List Numbered) (at count : ℕ) → at < count → count ≤ length l
    → take (count - 1) (closed l at (count - 1)) ≡ take at (take count l) ++ drop (suc at) (take count l)
unfolding front
closed-end l at count h k =
    let e : count - 1 - at ≡ count - suc at = omega arith in
    ap (take (count - 1)) (closed-front l at (count - 1))
    ∙ take_at (front l at (count - 1)) _ (count - 1) (front_length l at (count - 1) (omega arith) (omega arith))
    ∙ ap₂ ◌++◌ (sym (take-take at count l (omega arith)))
    (ap (λ (m : ℕ). take m (drop (suc at) l)) e ∙ sym (drop-taken l (suc at) count (omega arith) (omega arith)))

-- ---- the first places

pub held_small : (count : ℕ) → held count ≤ 32
unfolding held
held_small count = go (ltb count 32) refl
  where
    go : (t : Bool) → ltb count 32 ≡ t → cond t count 32 ≤ 32
    go true e = omega (arith, ltb-true count 32 e)
    go false e = omega arith

pub held_same : (count : ℕ) → count ≤ 32 → held count ≡ count
unfolding held
held_same count h = go (ltb count 32) refl
  where
    go : (t : Bool) → ltb count 32 ≡ t → cond t count 32 ≡ count
    go true e = refl
    go false e = omega (arith, ltb-false count 32 e)

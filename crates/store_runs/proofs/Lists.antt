-- Laws of lists of numbered layouts, with one more at the end or one taken out.
--
-- fresh-wider, fresh_holds, fresh-append, fresh-without      numbers below a bound
-- once-append, once-without                                               numbers that stand once
-- every_append, every-without, every-found                                what holds of every layout
-- known-append, all_append, all_without, all_set, all_small               versions that are known
-- find-append, find-other, find-without, find-removed, find-small         what is found
use mathlib.Core.Path.{◌≡◌, refl, sym, ap, ◌∙◌}
use mathlib.Core.Bool.{Bool, true, false, cond}
use mathlib.Core.List.{List, [], ◌∷◌, ◌++◌}
use Prim.Native.Nat.{ℕ, zero, suc, ◌≤◌, ◌<◌}
use native.Mathlib.Omega.{arith}
use lib.ListN.{get_or, set}
use lib.Dec.{eqb}
use borrow.Author.Tests.{eqb-true, eqb-false, ne_eqb}
use Rattle.replies.specs.Replies.{among}
use Rattle.version_list.specs.declared.Numbered.{Numbered}
use Rattle.std.specs.Prelude.{Some, None}
use Rattle.version_list.specs.Plain.{find, holds, known, without}
use Rattle.version_bytes.specs.Saved.{all_known}
use Rattle.store_runs.specs.Reached as reached
use Rattle.store_runs.specs.Reached.{Fresh, Once, Every}

apart : {A : Type 0} → true ≡ false → A
apart e = let z : ◌≡◌ {A = ℕ} 0 1 = cc in absurd (omega arith)

-- ---- clauses

holds-cons : (e : Numbered) (l : List Numbered) (n : ℕ) (t : Bool) → eqb e.number n ≡ t → holds (e ∷ l) n ≡ cond t true (holds l n)
unfolding holds
holds-cons e l n t h = rw h

find-cons : (e : Numbered) (l : List Numbered) (n : ℕ) (t : Bool) → eqb e.number n ≡ t → find (e ∷ l) n ≡ cond t (Some e) (find l n)
unfolding find
find-cons e l n t h = rw h

-- ---- numbers below a bound

pub fresh-wider : {l : List Numbered} {n : ℕ} (m : ℕ) → n ≤ m → Fresh l n → Fresh l m
fresh-wider m h reached.none = reached.none
fresh-wider m h (reached.next a b f) = reached.next {n = m} a (omega arith) (fresh-wider m h f)

pub fresh_holds : {l : List Numbered} {n : ℕ} (m : ℕ) → n ≤ m → Fresh l n → holds l m ≡ false
unfolding holds
fresh_holds m h reached.none = refl
fresh_holds m h (reached.next {e} {l} {n} a b f) = holds-cons e l m false (ne_eqb e.number m (λ z. omega arith)) ∙ fresh_holds m h f

pub fresh-append : {l : List Numbered} {n : ℕ} (e : Numbered) → 0 < e.number → e.number < n → Fresh l n → Fresh (l ++ (e ∷ [])) n
fresh-append e a b reached.none = reached.next a b reached.none
fresh-append e a b (reached.next c d f) = reached.next c d (fresh-append e a b f)

pub fresh-without : {l : List Numbered} {n : ℕ} (v : ℕ) → Fresh l n → Fresh (without l v) n
unfolding without
fresh-without v reached.none = reached.none
fresh-without v (reached.next {e} {l} {n} a b f) = go (eqb e.number v) (fresh-without v f)
  where
    go : (t : Bool) → Fresh (without l v) n → Fresh (cond t l (e ∷ without l v)) n
    go true i = f
    go false i = reached.next a b i

-- ---- numbers that stand once

holds-append : (l : List Numbered) (e : Numbered) (n : ℕ) → (e.number ≡ n → ⊥) → holds (l ++ (e ∷ [])) n ≡ holds l n
unfolding holds
holds-append [] e n other = rw (ne_eqb e.number n other)
holds-append (x ∷ l) e n other = ap (cond (eqb x.number n) true) (holds-append l e n other)

pub once-append : {l : List Numbered} (x : Numbered) → Fresh l x.number → Once l → Once (l ++ (x ∷ []))
unfolding holds
once-append x f reached.none = reached.next refl reached.none
once-append x (reached.next {e} {l} {n} a b f) (reached.next h o) =
    reached.next (holds-append l x e.number (λ z. omega arith) ∙ h) (once-append x f o)

pub holds-without : (l : List Numbered) (v n : ℕ) → (n ≡ v → ⊥) → holds (without l v) n ≡ holds l n
unfolding holds without
holds-without [] v n other = refl
holds-without (x ∷ l) v n other = go (eqb x.number v) refl (holds-without l v n other)
  where
    go : (t : Bool) → eqb x.number v ≡ t → holds (without l v) n ≡ holds l n
        → holds (cond t l (x ∷ without l v)) n ≡ cond (eqb x.number n) true (holds l n)
    go true h i = rw (ne_eqb x.number n (λ z. other (sym z ∙ eqb-true x.number v h)))
    go false h i = ap (cond (eqb x.number n) true) i

-- taking out adds no number
holds-less : (l : List Numbered) (v n : ℕ) → holds l n ≡ false → holds (without l v) n ≡ false
unfolding holds without
holds-less [] v n h = refl
holds-less (x ∷ l) v n h = go (eqb x.number v) (eqb x.number n) refl h (holds-less l v n)
  where
    go : (t u : Bool) → eqb x.number n ≡ u → cond u true (holds l n) ≡ false → (holds l n ≡ false → holds (without l v) n ≡ false)
        → holds (cond t l (x ∷ without l v)) n ≡ false
    go t true e k i = apart k
    go true false e k i = k
    go false false e k i = holds-cons x (without l v) n false e ∙ i k

pub once-without : {l : List Numbered} (v : ℕ) → Once l → Once (without l v)
unfolding without
once-without v reached.none = reached.none
once-without v (reached.next {e} {l} h o) = go (eqb e.number v) (once-without v o)
  where
    go : (t : Bool) → Once (without l v) → Once (cond t l (e ∷ without l v))
    go true i = o
    go false i = reached.next (holds-less l v e.number h) i

-- ---- what holds of every layout

module _ {P : Numbered → Type 0} where
  pub every_append : {l : List Numbered} (e : Numbered) → P e → Every P l → Every P (l ++ (e ∷ []))
  every_append e a reached.none = reached.next a reached.none
  every_append e a (reached.next b i) = reached.next b (every_append e a i)

  pub every-without : {l : List Numbered} (v : ℕ) → Every P l → Every P (without l v)
  unfolding without
  every-without v reached.none = reached.none
  every-without v (reached.next {e} {l} a i) = go (eqb e.number v) (every-without v i)
    where
      go : (t : Bool) → Every P (without l v) → Every P (cond t l (e ∷ without l v))
      go true k = i
      go false k = reached.next a k

  pub every-found : {l : List Numbered} (v : ℕ) (x : Numbered) → Every P l → find l v ≡ Some x → P x
  unfolding find
  every-found v x reached.none h = let z : ◌≡◌ {A = ℕ} 0 1 = cc in absurd (omega arith)
  every-found v x (reached.next {e} {l} a i) h = go (eqb e.number v) h (every-found v x i)
    where
      go : (t : Bool) → cond t (Some e) (find l v) ≡ Some x → (find l v ≡ Some x → P x) → P x
      go true k j = let y : e ≡ x = cc in rw y at a
      go false k j = j k

-- ---- versions that are known

holds_more : (l : List Numbered) (e : Numbered) (n : ℕ) → holds l n ≡ true → holds (l ++ (e ∷ [])) n ≡ true
unfolding holds
holds_more [] e n h = apart (sym h)
holds_more (x ∷ l) e n h = go (eqb x.number n) h (holds_more l e n)
  where
    go : (t : Bool) → cond t true (holds l n) ≡ true → (holds l n ≡ true → holds (l ++ (e ∷ [])) n ≡ true) → cond t true (holds (l ++ (e ∷ [])) n) ≡ true
    go true k i = refl
    go false k i = i k

pub known-append : (l : List Numbered) (e : Numbered) (n : ℕ) → known l n ≡ true → known (l ++ (e ∷ [])) n ≡ true
unfolding known
known-append l e n h = go (eqb n 0) h
  where
    go : (t : Bool) → cond t true (holds l n) ≡ true → cond t true (holds (l ++ (e ∷ [])) n) ≡ true
    go true k = refl
    go false k = holds_more l e n k

known-without : (l : List Numbered) (v n : ℕ) → (n ≡ v → ⊥) → known l n ≡ true → known (without l v) n ≡ true
unfolding known
known-without l v n other h = ap (cond (eqb n 0) true) (holds-without l v n other) ∙ h

-- what the first of several known numbers and the others are
all_first : (l : List Numbered) (n : ℕ) (ns : List ℕ) → all_known l (n ∷ ns) ≡ true → (known l n ≡ true) × (all_known l ns ≡ true)
unfolding all_known
all_first l n ns h = go (known l n) h
  where
    go : (t : Bool) → cond t (all_known l ns) false ≡ true → (t ≡ true) × (all_known l ns ≡ true)
    go true k = (refl, k)
    go false k = apart (sym k)

all_both : (l : List Numbered) (n : ℕ) (ns : List ℕ) → known l n ≡ true → all_known l ns ≡ true → all_known l (n ∷ ns) ≡ true
unfolding all_known
all_both l n ns h k = rw h k

pub all_append : (l : List Numbered) (e : Numbered) (ns : List ℕ) → all_known l ns ≡ true → all_known (l ++ (e ∷ [])) ns ≡ true
unfolding all_known
all_append l e [] h = refl
all_append l e (n ∷ ns) h =
    let f = all_first l n ns h in all_both (l ++ (e ∷ [])) n ns (known-append l e n f.0) (all_append l e ns f.1)

pub all_without : (l : List Numbered) (v : ℕ) (ns : List ℕ) → among v ns ≡ false → all_known l ns ≡ true → all_known (without l v) ns ≡ true
unfolding all_known among
all_without l v [] u h = refl
all_without l v (n ∷ ns) u h = go (eqb v n) refl u (all_without l v ns)
  where
    f : (known l n ≡ true) × (all_known l ns ≡ true)
    f = all_first l n ns h

    go : (t : Bool) → eqb v n ≡ t → cond t true (among v ns) ≡ false → (among v ns ≡ false → all_known l ns ≡ true → all_known (without l v) ns ≡ true)
        → all_known (without l v) (n ∷ ns) ≡ true
    go true e k i = apart k
    go false e k i = all_both (without l v) n ns (known-without l v n (λ z. eqb-false v n e (sym z)) f.0) (i k f.1)

pub all_set : (l : List Numbered) (ns : List ℕ) (c v : ℕ) → known l v ≡ true → all_known l ns ≡ true → all_known l (set ns c v) ≡ true
unfolding all_known
all_set l [] c v k h = h
all_set l (n ∷ ns) zero v k h = all_both l v ns k (all_first l n ns h).1
all_set l (n ∷ ns) (suc c) v k h = let f = all_first l n ns h in all_both l n (set ns c v) f.0 (all_set l ns c v k f.1)

-- a known number is 0 or the number of a layout, and so below the bound
holds-small : {l : List Numbered} {n : ℕ} (v : ℕ) → Fresh l n → holds l v ≡ true → v < n
unfolding holds
holds-small v reached.none h = apart (sym h)
holds-small v (reached.next {e} {l} {n} a b f) h = go (eqb e.number v) refl h (holds-small v f)
  where
    go : (t : Bool) → eqb e.number v ≡ t → cond t true (holds l v) ≡ true → (holds l v ≡ true → v < n) → v < n
    go true k g i = omega (arith, eqb-true e.number v k)
    go false k g i = i g

known_small : {l : List Numbered} {m : ℕ} (n : ℕ) → 0 < m → Fresh l m → known l n ≡ true → n < m
unfolding known
known_small {l} {m} n some f h = go (eqb n 0) refl h
  where
    go : (t : Bool) → eqb n 0 ≡ t → cond t true (holds l n) ≡ true → n < m
    go true e k = omega (arith, eqb-true n 0 e)
    go false e k = holds-small n f k

pub all_small : {l : List Numbered} {m : ℕ} (ns : List ℕ) → 0 < m → Fresh l m → all_known l ns ≡ true → (i : ℕ) → get_or ns i 0 < m
all_small [] some f h zero = some
all_small [] some f h (suc i) = some
all_small {l} {m} (n ∷ ns) some f h zero = known_small n some f (all_first l n ns h).0
all_small {l} {m} (n ∷ ns) some f h (suc i) = all_small ns some f (all_first l n ns h).1 i

-- ---- what is found

pub find-append : (l : List Numbered) (e : Numbered) (v : ℕ) (x : Numbered) → find l v ≡ Some x → find (l ++ (e ∷ [])) v ≡ Some x
unfolding find
find-append [] e v x h = let z : ◌≡◌ {A = ℕ} 0 1 = cc in absurd (omega arith)
find-append (y ∷ l) e v x h = go (eqb y.number v) h (find-append l e v x)
  where
    go : (t : Bool) → cond t (Some y) (find l v) ≡ Some x → (find l v ≡ Some x → find (l ++ (e ∷ [])) v ≡ Some x)
        → cond t (Some y) (find (l ++ (e ∷ [])) v) ≡ Some x
    go true k i = k
    go false k i = i k

pub find-other : (l : List Numbered) (e : Numbered) (v : ℕ) → (e.number ≡ v → ⊥) → find l v ≡ None → find (l ++ (e ∷ [])) v ≡ None
unfolding find
find-other [] e v other h = rw (ne_eqb e.number v other)
find-other (y ∷ l) e v other h = go (eqb y.number v) h (find-other l e v other)
  where
    go : (t : Bool) → cond t (Some y) (find l v) ≡ None → (find l v ≡ None → find (l ++ (e ∷ [])) v ≡ None)
        → cond t (Some y) (find (l ++ (e ∷ [])) v) ≡ None
    go true k i = let z : ◌≡◌ {A = ℕ} 0 1 = cc in absurd (omega arith)
    go false k i = i k

pub find-without : (l : List Numbered) (u v : ℕ) → (v ≡ u → ⊥) → find (without l u) v ≡ find l v
unfolding find without
find-without [] u v other = refl
find-without (x ∷ l) u v other = go (eqb x.number u) refl (find-without l u v other)
  where
    go : (t : Bool) → eqb x.number u ≡ t → find (without l u) v ≡ find l v
        → find (cond t l (x ∷ without l u)) v ≡ cond (eqb x.number v) (Some x) (find l v)
    go true h i = rw (ne_eqb x.number v (λ z. other (sym z ∙ eqb-true x.number u h)))
    go false h i = ap (cond (eqb x.number v) (Some x)) i

find-unheld : (l : List Numbered) (v : ℕ) → holds l v ≡ false → find l v ≡ None
unfolding find holds
find-unheld [] v h = refl
find-unheld (x ∷ l) v h = go (eqb x.number v) h (find-unheld l v)
  where
    go : (t : Bool) → cond t true (holds l v) ≡ false → (holds l v ≡ false → find l v ≡ None) → cond t (Some x) (find l v) ≡ None
    go true k i = apart k
    go false k i = i k

-- a number that stands once is gone when it is taken out
pub find-removed : {l : List Numbered} (v : ℕ) → Once l → find (without l v) v ≡ None
unfolding without find
find-removed v reached.none = refl
find-removed v (reached.next {e} {l} h o) = go (eqb e.number v) refl (find-removed v o)
  where
    go : (t : Bool) → eqb e.number v ≡ t → find (without l v) v ≡ None → find (cond t l (e ∷ without l v)) v ≡ None
    go true k i = find-unheld l v (ap (holds l) (sym (eqb-true e.number v k)) ∙ h)
    go false k i = find-cons e (without l v) v false k ∙ i

pub find-small : {l : List Numbered} {n : ℕ} (v : ℕ) (x : Numbered) → Fresh l n → find l v ≡ Some x → v < n
unfolding find
find-small v x reached.none h = let z : ◌≡◌ {A = ℕ} 0 1 = cc in absurd (omega arith)
find-small v x (reached.next {e} {l} {n} a b f) h = go (eqb e.number v) refl h (find-small v x f)
  where
    go : (t : Bool) → eqb e.number v ≡ t → cond t (Some e) (find l v) ≡ Some x → (find l v ≡ Some x → v < n) → v < n
    go true k g i = omega (arith, eqb-true e.number v k)
    go false k g i = i g

-- "Storing gives the next number, from 1, never used twice" (document 02, E11).
--
-- next-rises, next-rises-all     no call takes the next number back
-- never-twice                    a number that was given is smaller than every number given later in the sequence
-- one-layout                     a version that the store holds at two states of one sequence is the same layout at both
-- same_version                   so a page call gets the same answer to it
use mathlib.Core.Path.{◌≡◌, refl, sym, ap, ◌∙◌}
use mathlib.Core.Bool.{Bool, true, false}
use mathlib.Core.Logic.{◌⊎◌, inl, inr, ⊎_elim}
use mathlib.Core.List.{List, [], ◌∷◌}
use Prim.Native.Nat.{ℕ, ◌+◌, ◌≤◌, ◌<◌}
use native.Mathlib.Omega.{arith}
use lib.Dec.{eqb}
use borrow.Author.Tests.{eqb-true, eqb-false}
use Rattle.layout_plan.specs.Record.{Words}
use Rattle.version_list.specs.declared.Numbered.{Numbered}
use Rattle.std.specs.Prelude.{Some, None}
use Rattle.version_list.specs.Plain.{Listed, Ended, find, without, added, store_of, removed, with_uses}
use Rattle.store_runs.specs.Runs.{lookup_answer, version_of, Call, store, remove, set, in_use, save, load, write, look, take, judge, claim, after, after_all}
use Rattle.store_runs.specs.Reached.{Reached}
use Rattle.store_runs.proofs.Changes.{Added, Removed, store-cases, remove-cases, set_cases, load-cases}
use Rattle.store_runs.proofs.Lists.{find-append, find-other, find-without, find-removed, find-small}
use Rattle.store_runs.proofs.Reached.{reached-after}

-- ---- the next number

pub next-rises : (s : Listed) (c : Call) → s.next ≤ (after s c).next
unfolding after added removed with_uses
next-rises s (store w) =
    ⊎_elim
    (λ h. let e : (after s (store w)).next ≡ s.next = ap (λ (x : Listed). x.next) h.same in omega arith)
    (λ h. let e : (after s (store w)).next ≡ s.next + 1 = ap (λ (x : Ended). x.store.next) h.is in omega arith)
    (store-cases s w)
next-rises s (remove v) =
    ⊎_elim
    (λ h. let e : (after s (remove v)).next ≡ s.next = ap (λ (x : Listed). x.next) h.same in omega arith)
    (λ h. let e : (after s (remove v)).next ≡ s.next = ap (λ (x : Ended). x.store.next) h.is in omega arith)
    (remove-cases s v)
next-rises s (set c v) =
    ⊎_elim
    (λ h. let e : (after s (set c v)).next ≡ s.next = ap (λ (x : Listed). x.next) h.same in omega arith)
    (λ h. let e : (after s (set c v)).next ≡ s.next = ap (λ (x : Ended). x.store.next) h.is in omega arith)
    (set_cases s c v)
next-rises s (in_use c) = omega arith
next-rises s (save lent) = omega arith
next-rises s (load bytes) =
    ⊎_elim
    (λ h. let e : (after s (load bytes)).next ≡ s.next = ap (λ (x : Listed). x.next) h.same in omega arith)
    (λ h. let e : (after s (load bytes)).next ≡ s.next = ap (λ (x : Ended). x.store.next) h.is in omega arith)
    (load-cases s bytes)
next-rises s (write v m d page) = omega arith
next-rises s (look v page lent) = omega arith
next-rises s (take v page m d) = omega arith
next-rises s (judge v page b) = omega arith
next-rises s (claim v page b claims) = omega arith

pub next-rises-all : (s : Listed) (cs : List Call) → s.next ≤ (after_all s cs).next
unfolding after_all
next-rises-all s [] = omega arith
next-rises-all s (c ∷ cs) = let a = next-rises s c in let b = next-rises-all (after s c) cs in omega arith

-- what storing answers, and the next number afterwards
stored-number : (s : Listed) (w : Words) → (store_of s w).reply ≡ 0 → ((store_of s w).version ≡ s.next) × ((store_of s w).store.next ≡ s.next + 1)
unfolding added
stored-number s w h = ⊎_elim (λ k. absurd (k.reply h)) (λ k. rw k.is (refl, refl)) (store-cases s w)

pub never-twice : (s : Listed) (w : Words) (cs : List Call) (x : Words) → (store_of s w).reply ≡ 0 → (store_of (after_all (store_of s w).store cs) x).reply ≡ 0
    → (store_of s w).version < (store_of (after_all (store_of s w).store cs) x).version
never-twice s w cs x h k =
    let a = stored-number s w h in
    let b = stored-number (after_all (store_of s w).store cs) x k in
    let c = next-rises-all (store_of s w).store cs in
    omega (arith, a.0, a.1, b.0)

-- ---- one version, one layout

-- the version is the layout e, or it is gone for good
Stays : Listed → ℕ → Numbered → Type 0
Stays s v e = (find s.layouts v ≡ Some e) ⊎ ((find s.layouts v ≡ None) × (v < s.next))

module _ (v : ℕ) (e : Numbered) where
  same-list : (s : Listed) {t : Listed} → t ≡ s → Stays s v e → Stays t v e
  same-list s h k = rw h k

  stays-added : (s : Listed) (w : Words) {r : Ended} → Added s w r → Stays s v e → Stays r.store v e
  unfolding added Stays
  stays-added s w a h =
      rw a.is
      (⊎_elim
      (λ k. inl (find-append s.layouts _ v e k))
      (λ k. inr (find-other s.layouts _ v (λ z. omega (arith, k.1)) k.0, omega (arith, k.1)))
      h)

  stays-removed : (s : Listed) → Reached s → (u : ℕ) {r : Ended} → Removed s u r → Stays s v e → Stays r.store v e
  unfolding removed Stays
  stays-removed s r u a h = rw a.is (go (eqb v u) refl)
    where
      gone : v ≡ u → v < s.next → (find (without s.layouts u) v ≡ Some e) ⊎ ((find (without s.layouts u) v ≡ None) × (v < s.next))
      gone z small = inr (rw (sym z) (find-removed v r.once), small)

      go : (t : Bool) → eqb v u ≡ t → (find (without s.layouts u) v ≡ Some e) ⊎ ((find (without s.layouts u) v ≡ None) × (v < s.next))
      go true k = gone (eqb-true v u k) (⊎_elim (λ g. find-small v e r.fresh g) (λ g. g.1) h)
      go false k =
          let same = find-without s.layouts u v (eqb-false v u k) in
          ⊎_elim (λ g. inl (same ∙ g)) (λ g. inr (same ∙ g.0, g.1)) h

  stays-set : (s : Listed) (uses : List ℕ) {t : Listed} → t ≡ with_uses s uses → Stays s v e → Stays t v e
  unfolding with_uses Stays
  stays-set s uses a h = rw a h

  stays_after : (s : Listed) → Reached s → (c : Call) → Stays s v e → Stays (after s c) v e
  unfolding after
  stays_after s r (store w) h = ⊎_elim (λ k. same-list s k.same h) (λ k. stays-added s w k h) (store-cases s w)
  stays_after s r (remove u) h = ⊎_elim (λ k. same-list s k.same h) (λ k. stays-removed s r u k h) (remove-cases s u)
  stays_after s r (set c u) h = ⊎_elim (λ k. same-list s k.same h) (λ k. stays-set s _ (ap (λ (x : Ended). x.store) k.is) h) (set_cases s c u)
  stays_after s r (in_use c) h = h
  stays_after s r (save lent) h = h
  stays_after s r (load bytes) h = ⊎_elim (λ k. same-list s k.same h) (λ k. stays-set s _ (ap (λ (x : Ended). x.store) k.is) h) (load-cases s bytes)
  stays_after s r (write u m d page) h = h
  stays_after s r (look u page lent) h = h
  stays_after s r (take u page m d) h = h
  stays_after s r (judge u page b) h = h
  stays_after s r (claim u page b claims) h = h

  stays_all : (s : Listed) → Reached s → (cs : List Call) → Stays s v e → Stays (after_all s cs) v e
  unfolding after_all
  stays_all s r [] h = h
  stays_all s r (c ∷ cs) h = stays_all (after s c) (reached-after s r c) cs (stays_after s r c h)

  -- "the rest of demand 3 holds under one version that the store holds at each write, look and take, in one sequence of calls"
  pub one-layout : (s : Listed) → Reached s → (cs : List Call) (x : Numbered) → find s.layouts v ≡ Some e → find (after_all s cs).layouts v ≡ Some x → e ≡ x
  unfolding Stays
  one-layout s r cs x h k =
      ⊎_elim (λ g. let y : e ≡ x = cc in y) (λ g. let f = g.0 in let z : ◌≡◌ {A = ℕ} 0 1 = cc in absurd (omega arith)) (stays_all s r cs (inl h))

pub same_version : (s : Listed) → Reached s → (cs : List Call) (v : ℕ) (e x : Numbered) → find s.layouts v ≡ Some e → find (after_all s cs).layouts v ≡ Some x
    → version_of (after_all s cs) v ≡ version_of s v
unfolding version_of
same_version s r cs v e x h k = ap lookup_answer (k ∙ ap Some (sym (one-layout v e s r cs x h k)) ∙ sym h)

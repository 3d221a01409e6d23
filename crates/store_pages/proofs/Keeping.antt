-- The calls of the crate `store` keep the plans of accepted layouts, so that the test of a plan changes no answer.
--
-- kept-empty, kept_store, kept-remove, kept_set, kept-load     of an empty store, and of each call that changes a store
-- kept-after, kept-all         of every call, and of every sequence of calls
-- kept-tested                  under such a store the tested answer to a version is the answer to it
-- step-does, steps-runs        so each call by its contract is a call of `store_runs`, and a sequence is a sequence there
use mathlib.Core.Path.{◌≡◌, refl, ap}
use mathlib.Core.Bool.{true}
use mathlib.Core.Logic.{⊎_elim}
use mathlib.Core.List.{List}
use Prim.Native.Nat.{ℕ}
use Rattle.layout_plan.specs.Record.{Words}
use Rattle.layout_plan.specs.Plan.{plan_of}
use Rattle.plan_test.specs.Together.{holds_together}
use Rattle.plan_test.proofs.Together.{accepted-together}
use Rattle.std.specs.Prelude.{Option, Some, None}
use Rattle.version_list.specs.declared.Numbered.{Numbered}
use Rattle.store.specs.declared.Store.{Store}
use Rattle.version_list.specs.Plain.{Listed, Ended, empty, find, added, store_of, removed, remove_of, with_uses, set_of}
use Rattle.version_bytes.specs.Saved.{load_of}
use Rattle.store.specs.Answers.{listed}
use Rattle.store_runs.specs.Reached as reached
use Rattle.store_runs.specs.Runs as runs
use Rattle.store_runs.specs.Runs.{lookup_answer, version_of, Call, Answer, after, after_all, Does, Runs}
use Rattle.store_runs.proofs.Changes.{Refuses, Added, Removed, store-cases, remove-cases, set_cases, load-cases}
use Rattle.store_runs.proofs.Lists.{every_append, every-without, every-found}
use Rattle.store_runs.proofs.Sequences.{does-after}
use Rattle.store_pages.specs.Tested.{tested}
use Rattle.store_pages.specs.Kept as kept
use Rattle.store_pages.specs.Kept.{Bytes, Made, Kept, Handed, AllHanded}
use Rattle.store_pages.specs.Steps.{Step, Steps, does, writes, looks, takes, judges, claims, none, next}

pub kept-empty : Kept empty
unfolding empty
kept-empty = record { made = reached.none }

module _ (s : Listed) (k : Kept s) where
  refused : {r : Ended} → Refuses s r → Kept r.store
  refused h = rw h.same k

  other-uses : (uses : List ℕ) {t : Listed} → t ≡ with_uses s uses → Kept t
  unfolding with_uses
  other-uses uses e = rw e (record { made = k.made })

  kept-added : (w : Words) → Bytes w → {r : Ended} → Added s w r → Kept r.store
  unfolding added
  kept-added w b a =
      let accepted : reached.Accepted _ = record { words = w; layout = a.layout; accepted = a.accepted; plan = refl; edition = refl } in
      rw a.is (record { made = every_append _ (record { accepted = accepted; bytes = b }) k.made })

  kept-removed : (v : ℕ) {r : Ended} → Removed s v r → Kept r.store
  unfolding removed
  kept-removed v a = rw a.is (record { made = every-without v k.made })

  pub kept_store : (w : Words) → Bytes w → Kept (store_of s w).store
  kept_store w b = ⊎_elim (λ h. refused h) (λ h. kept-added w b h) (store-cases s w)

  pub kept-remove : (v : ℕ) → Kept (remove_of s v).store
  kept-remove v = ⊎_elim (λ h. refused h) (λ h. kept-removed v h) (remove-cases s v)

  pub kept_set : (c v : ℕ) → Kept (set_of s c v).store
  kept_set c v = ⊎_elim (λ h. refused h) (λ h. other-uses _ (ap (λ (x : Ended). x.store) h.is)) (set_cases s c v)

  pub kept-load : (bytes : List ℕ) → Kept (load_of s bytes).store
  kept-load bytes = ⊎_elim (λ h. refused h) (λ h. other-uses _ (ap (λ (x : Ended). x.store) h.is)) (load-cases s bytes)

  pub kept-after : (c : Call) → Handed c → Kept (after s c)
  unfolding after
  kept-after (runs.store w) h = kept_store w (h w refl)
  kept-after (runs.remove v) h = kept-remove v
  kept-after (runs.set c v) h = kept_set c v
  kept-after (runs.in_use c) h = k
  kept-after (runs.save lent) h = k
  kept-after (runs.load bytes) h = kept-load bytes
  kept-after (runs.write v m d page) h = k
  kept-after (runs.look v page lent) h = k
  kept-after (runs.take v page m d) h = k
  kept-after (runs.judge v page b) h = k
  kept-after (runs.claim v page b l) h = k

pub kept-all : (s : Listed) {cs : List Call} → AllHanded cs → Kept s → Kept (after_all s cs)
unfolding after_all
kept-all s kept.none k = k
kept-all s (kept.next {c = c} h hs) k = kept-all (after s c) hs (kept-after s k c h)

-- ---- the test changes no answer

made-together : (e : Numbered) → Made e → holds_together e.plan ≡ true
made-together e m = let a = m.accepted in rw a.plan (accepted-together a.words a.layout m.bytes.bytes a.accepted)

pub kept-tested : (s : Listed) → Kept s → (v : ℕ) → tested (version_of s v) ≡ version_of s v
unfolding tested version_of lookup_answer plan_of
kept-tested s k v = go (find s.layouts v) refl
  where
    go : (x : Option Numbered) → find s.layouts v ≡ x → tested (lookup_answer x) ≡ lookup_answer x
    go (Some e) f = rw (made-together e (every-found v e k.made f))
    go None f = refl

-- ---- the contracts as they stand, in a sequence of calls

pub step-does : {s t : Store} {c : Call} {a : Answer} → Kept (listed s) → Step s c a t → Does s c a t
step-does k (does d) = d
step-does k (writes {s} {v} r e) = runs.writes r (rw (kept-tested (listed s) k v) at e)
step-does k (looks {s} {v} r e) = runs.looks r (rw (kept-tested (listed s) k v) at e)
step-does k (takes {s} {v} r e) = runs.takes r (rw (kept-tested (listed s) k v) at e)
step-does k (judges {s} {v} r e) = runs.judges r (rw (kept-tested (listed s) k v) at e)
step-does k (claims {s} {v} r e) = runs.claims r (rw (kept-tested (listed s) k v) at e)

pub steps-runs : {s t : Store} {cs : List Call} {rs : List Answer} → AllHanded cs → Kept (listed s) → Steps s cs rs t → Runs s cs rs t
steps-runs hs k none = runs.none
steps-runs (kept.next h hs) k (next {s} {t} {u} {c} d r) =
    let x = step-does k d in
    runs.next x (steps-runs hs (rw (does-after x) (kept-after (listed s) k c h)) r)

-- What every state of a sequence of calls has (document 02, E11).
--
-- reached-empty        the empty store has it
-- reached-after        every call keeps it; reached-all: so does every sequence of calls
use mathlib.Core.Path.{◌≡◌, refl, ◌∙◌}
use mathlib.Core.Bool.{Bool, true, false, cond}
use mathlib.Core.Logic.{⊎_elim}
use mathlib.Core.List.{List, [], ◌∷◌}
use Prim.Native.Nat.{ℕ, suc, ◌+◌, ◌≤◌}
use native.Mathlib.Omega.{arith}
use lib.ListN as list
use lib.ListN.{length, length-append, length-set}
use lib.Dec.{eqb}
use Rattle.bits.proofs.Runs.{run_length}
use Rattle.layout_plan.specs.Record.{Words}
use Rattle.version_list.specs.declared.Numbered.{Numbered}
use Rattle.version_list.specs.Plain.{Listed, Ended, empty, known, without, added, removed, with_uses}
use Rattle.version_bytes.specs.Saved.{number_at, loaded, all_known}
use Rattle.store_runs.specs.Runs.{Call, store, remove, set, in_use, save, load, write, look, take, judge, claim, after, after_all}
use Rattle.store_runs.specs.Reached as reached
use Rattle.store_runs.specs.Reached.{Reached}
use Rattle.store_runs.proofs.Changes.{Refuses, Added, Removed, Set, Loaded, store-cases, remove-cases, set_cases, load-cases}
use Rattle.store_runs.proofs.Lists.{fresh-wider, fresh-append, fresh-without, once-append, once-without, every_append, every-without}
use Rattle.store_runs.proofs.Lists.{all_append, all_without, all_set}

pub reached-empty : Reached empty
unfolding empty all_known known
reached-empty = record {
  few = omega arith;
  some = omega arith;
  bound = omega arith;
  fresh = reached.none;
  once = reached.none;
  accepted = reached.none;
  chips = refl;
  uses = refl;
}

length_without : (l : List Numbered) (v : ℕ) → length (without l v) ≤ length l
unfolding without
length_without [] v = omega arith
length_without (e ∷ l) v = go (eqb e.number v) (length_without l v)
  where
    go : (t : Bool) → length (without l v) ≤ length l → length (cond t l (e ∷ without l v)) ≤ suc (length l)
    go true h = omega arith
    go false h = omega arith

module _ (s : Listed) (r : Reached s) where
  refuses : {e : Ended} → Refuses s e → Reached e.store
  refuses h = rw h.same r

  reached-added : (w : Words) {e : Ended} → Added s w e → Reached e.store
  unfolding added
  reached-added w a = rw a.is (record {
    few = simp length-append (omega (arith, a.room));
    some = omega arith;
    bound = omega (arith, a.number);
    fresh = fresh-append _ r.some (omega arith) (fresh-wider (s.next + 1) (omega arith) r.fresh);
    once = once-append _ r.fresh r.once;
    accepted = every_append _ (record { words = w; layout = a.layout; accepted = a.accepted; plan = refl; edition = refl }) r.accepted;
    chips = r.chips;
    uses = all_append s.layouts _ s.uses r.uses;
  })

  reached-removed : (v : ℕ) {e : Ended} → Removed s v e → Reached e.store
  unfolding removed
  reached-removed v a = rw a.is (record {
    few = omega (arith, r.few, length_without s.layouts v);
    some = r.some;
    bound = r.bound;
    fresh = fresh-without v r.fresh;
    once = once-without v r.once;
    accepted = every-without v r.accepted;
    chips = r.chips;
    uses = all_without s.layouts v s.uses a.unused r.uses;
  })

  with-uses : (uses : List ℕ) → length uses ≡ 16 → all_known s.layouts uses ≡ true → Reached (with_uses s uses)
  unfolding with_uses
  with-uses uses n k = record {
    few = r.few;
    some = r.some;
    bound = r.bound;
    fresh = r.fresh;
    once = r.once;
    accepted = r.accepted;
    chips = n;
    uses = k;
  }

  reached-set : (c v : ℕ) {e : Ended} → Set s c v e → Reached e.store
  reached-set c v a =
      rw a.is (with-uses (list.set s.uses c v) (length-set s.uses c v ∙ r.chips) (all_set s.layouts s.uses c v a.known r.uses))

  reached-loaded : (bytes : List ℕ) {e : Ended} → Loaded s bytes e → Reached e.store
  unfolding loaded
  reached-loaded bytes a = rw a.is (with-uses (loaded bytes) (run_length (number_at bytes) 0 16) a.known)

  pub reached-after : (c : Call) → Reached (after s c)
  unfolding after
  reached-after (store w) = ⊎_elim (λ h. refuses h) (λ h. reached-added w h) (store-cases s w)
  reached-after (remove v) = ⊎_elim (λ h. refuses h) (λ h. reached-removed v h) (remove-cases s v)
  reached-after (set c v) = ⊎_elim (λ h. refuses h) (λ h. reached-set c v h) (set_cases s c v)
  reached-after (in_use c) = r
  reached-after (save lent) = r
  reached-after (load bytes) = ⊎_elim (λ h. refuses h) (λ h. reached-loaded bytes h) (load-cases s bytes)
  reached-after (write v m d page) = r
  reached-after (look v page lent) = r
  reached-after (take v page m d) = r
  reached-after (judge v page b) = r
  reached-after (claim v page b claims) = r

pub reached-all : (s : Listed) (cs : List Call) → Reached s → Reached (after_all s cs)
unfolding after_all
reached-all s [] r = r
reached-all s (c ∷ cs) r = reached-all (after s c) cs (reached-after s r c)

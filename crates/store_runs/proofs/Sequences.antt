-- "From an empty store, any sequence of calls answers as a plain list of numbered layouts beside the 16 numbers would" (document 02, E11).
--
-- does-answer, does-after          one call of the code answers as the plain list, and leaves a store that stands for the list afterwards
-- runs-as-listed                   so does any sequence of calls, from a store that stands for the empty list
-- store-refused, remove-refused, set-refused, load-refused, save-refused    a refused call changes nothing
use mathlib.Core.Path.{◌≡◌, refl, ap, ap₂, ◌∙◌}
use mathlib.Core.Bool.{Bool, true, false, cond}
use mathlib.Core.List.{List, ◌∷◌}
use Prim.Native.Nat.{ℕ}
use lib.ListN.{length}
use lib.Dec.{eqb}
use Rattle.layout.specs.declared.Refusal.{Refusal}
use Rattle.layout_plan.specs.declared.Layout.{Layout}
use Rattle.std.specs.Prelude.{Result, Ok, Err}
use Rattle.layout_plan.specs.Record.{Words}
use Rattle.layout.specs.Acceptance.{acceptance}
use Rattle.store.specs.declared.Store.{Store}
use Rattle.version_list.specs.Plain.{Listed, Ended, empty, add_reply, add_of, store_for, store_of, remove_reply, remove_of, set_reply, set_of}
use Rattle.version_bytes.specs.Saved.{saving, saved, save_of, load_reply, load_of}
use Rattle.store.specs.Answers.{listed}
use Rattle.store_runs.specs.Runs as runs
use Rattle.store_runs.specs.Runs.{Call, Answer, written, looked, taken, judged, claimed, told, answer, after, answers, after_all}
use Rattle.store_runs.specs.Runs.{Does, stores, removes, sets, tells, saves, loads, writes, looks, takes, judges, claims, Runs, none, next}

pub does-answer : {s t : Store} {c : Call} {a : Answer} → Does s c a t → a ≡ answer (listed s) c
unfolding answer
does-answer (stores r e) = ap told e
does-answer (removes r e) = ap told e
does-answer (sets r e) = ap told e
does-answer (tells r e) = ap told e
does-answer (saves r bytes e) = ap runs.saved e
does-answer (loads r e) = ap told e
does-answer (writes r e) = ap written e
does-answer (looks r e) = ap looked e
does-answer (takes r e) = ap taken e
does-answer (judges r e) = ap judged e
does-answer (claims r e) = ap claimed e

pub does-after : {s t : Store} {c : Call} {a : Answer} → Does s c a t → listed t ≡ after (listed s) c
unfolding after
does-after (stores r e) = ap (λ (x : Ended). x.store) e
does-after (removes r e) = ap (λ (x : Ended). x.store) e
does-after (sets r e) = ap (λ (x : Ended). x.store) e
does-after (tells r e) = refl
does-after (saves r bytes e) = refl
does-after (loads r e) = ap (λ (x : Ended). x.store) e
does-after (writes r e) = refl
does-after (looks r e) = refl
does-after (takes r e) = refl
does-after (judges r e) = refl
does-after (claims r e) = refl

-- from a store that stands for any list
runs-from : {s t : Store} {cs : List Call} {rs : List Answer} (l : Listed) → listed s ≡ l → Runs s cs rs t
    → (rs ≡ answers l cs) × (listed t ≡ after_all l cs)
unfolding answers after_all
runs-from l e none = (refl, e)
runs-from l e (next {s} {t} {u} {c} {cs} {a} {rs} d r) =
    let i = runs-from (after l c) (does-after d ∙ ap (λ (x : Listed). after x c) e) r in
    (ap₂ ◌∷◌ (does-answer d ∙ ap (λ (x : Listed). answer x c) e) i.0, i.1)

pub runs-as-listed : {s t : Store} {cs : List Call} {rs : List Answer} → listed s ≡ empty → Runs s cs rs t
    → (rs ≡ answers empty cs) × (listed t ≡ after_all empty cs)
runs-as-listed e r = runs-from empty e r

-- ---- a refused call changes nothing

-- what the calls that may be refused have in common
kept : (s : Listed) (reply : ℕ) (good : Ended) → good.reply ≡ 0
    → ((cond (eqb reply 0) good (record { reply = reply; version = 0; store = s })).reply ≡ 0 → ⊥)
    → (cond (eqb reply 0) good (record { reply = reply; version = 0; store = s })).store ≡ s
kept s reply good e refused = go (eqb reply 0) refl refused
  where
    go : (t : Bool) → eqb reply 0 ≡ t → ((cond t good (record { reply = reply; version = 0; store = s })).reply ≡ 0 → ⊥)
        → (cond t good (record { reply = reply; version = 0; store = s })).store ≡ s
    go true h k = absurd (k e)
    go false h k = refl

pub store-refused : (s : Listed) (w : Words) → ((store_of s w).reply ≡ 0 → ⊥) → (store_of s w).store ≡ s
unfolding store_of store_for add_of
store-refused s w h = go (acceptance w) h
  where
    go : (a : Result Layout Refusal) → ((store_for a w.edition s).reply ≡ 0 → ⊥) → (store_for a w.edition s).store ≡ s
    go (Ok l) k = kept s (add_reply s) _ refl k
    go (Err r) k = refl

pub remove-refused : (s : Listed) (v : ℕ) → ((remove_of s v).reply ≡ 0 → ⊥) → (remove_of s v).store ≡ s
unfolding remove_of
remove-refused s v h = kept s (remove_reply s v) _ refl h

pub set-refused : (s : Listed) (c v : ℕ) → ((set_of s c v).reply ≡ 0 → ⊥) → (set_of s c v).store ≡ s
unfolding set_of
set-refused s c v h = kept s (set_reply s c v) _ refl h

pub load-refused : (s : Listed) (bytes : List ℕ) → ((load_of s bytes).reply ≡ 0 → ⊥) → (load_of s bytes).store ≡ s
unfolding load_of
load-refused s bytes h = kept s (load_reply s bytes) _ refl h

pub save-refused : (s : Listed) (lent : List ℕ) → ((save_of s lent).reply ≡ 0 → ⊥) → (save_of s lent).bytes ≡ lent
unfolding save_of
save-refused s lent h = go (eqb (length lent) 32) h
  where
    go : (t : Bool) → ((cond t (saving 0 (saved s.uses)) (saving 6 lent)).reply ≡ 0 → ⊥) → (cond t (saving 0 (saved s.uses)) (saving 6 lent)).bytes ≡ lent
    go true k = absurd (k refl)
    go false k = refl

-- What a call makes of the plain list: a refused call leaves it, and one with reply 0 found what it asks for.
--
-- Added, Removed, Set, Loaded      what holds where the call answers 0
-- store-cases, remove-cases, set_cases, load-cases     a call is refused and changes nothing, or it is one of these
use mathlib.Core.Path.{◌≡◌, refl}
use mathlib.Core.Bool.{Bool, true, false, cond}
use mathlib.Core.Logic.{◌⊎◌, inl, inr}
use mathlib.Core.List.{List}
use Prim.Native.Nat.{ℕ, ◌<◌}
use native.Mathlib.Omega.{arith}
use lib.ListN.{length, set}
use lib.Dec.{eqb, ltb}
use borrow.Author.Tests.{ltb-true, eqb-true}
use Rattle.replies.specs.Replies.{among}
use Rattle.layout_plan.specs.declared.Layout.{Layout}
use Rattle.layout.specs.declared.Refusal.{Refusal}
use Rattle.layout_plan.specs.declared.Layout.{Layout}
use Rattle.std.specs.Prelude.{Result, Ok, Err}
use Rattle.layout_plan.specs.Record.{Words}
use Rattle.layout_plan.specs.Plan.{plan_of}
use Rattle.layout.specs.Acceptance.{acceptance}
use Rattle.layout.proofs.Numbers.{refusal-reply-range}
use Rattle.version_list.specs.Plain.{Listed, Ended, ended, holds, known, numbered, added, add_reply, add_of, store_for, store_of}
use Rattle.version_list.specs.Plain.{removed, remove_reply, remove_of, with_uses, set_reply, set_of}
use Rattle.version_bytes.specs.Saved.{loaded, all_known, load_reply, load_of}

-- the call was refused, and the list is as it was
pub record Refuses (s : Listed) (r : Ended) : Type 0 where
  pub reply : r.reply ≡ 0 → ⊥
  pub same : r.store ≡ s

pub record Added (s : Listed) (w : Words) (r : Ended) : Type 0 where
  pub layout : Layout
  pub accepted : acceptance w ≡ Ok layout
  pub room : length s.layouts < 32
  pub number : s.next < 65536
  pub is : r ≡ ended 0 s.next (added s (numbered s.next w.edition (plan_of layout)))

pub record Removed (s : Listed) (v : ℕ) (r : Ended) : Type 0 where
  pub held : holds s.layouts v ≡ true
  pub unused : among v s.uses ≡ false
  pub is : r ≡ ended 0 0 (removed s v)

pub record Set (s : Listed) (c v : ℕ) (r : Ended) : Type 0 where
  pub chip : c < 16
  pub known : known s.layouts v ≡ true
  pub is : r ≡ ended 0 0 (with_uses s (set s.uses c v))

pub record Loaded (s : Listed) (bytes : List ℕ) (r : Ended) : Type 0 where
  pub size : length bytes ≡ 32
  pub known : all_known s.layouts (loaded bytes) ≡ true
  pub is : r ≡ ended 0 0 (with_uses s (loaded bytes))

pub store-cases : (s : Listed) (w : Words) → Refuses s (store_of s w) ⊎ Added s w (store_of s w)
unfolding store_of store_for add_of add_reply
store-cases s w = by_answer (acceptance w) refl
  where
    by-room : (l : Layout) → acceptance w ≡ Ok l → (t u : Bool) → ltb (length s.layouts) 32 ≡ t → ltb s.next 65536 ≡ u
        → Refuses s (cond (eqb (cond t (cond u 0 13) 12) 0) (ended 0 s.next (added s (numbered s.next w.edition (plan_of l)))) (ended (cond t (cond u 0 13) 12) 0 s))
        ⊎ Added s w (cond (eqb (cond t (cond u 0 13) 12) 0) (ended 0 s.next (added s (numbered s.next w.edition (plan_of l)))) (ended (cond t (cond u 0 13) 12) 0 s))
    by-room l e true true h k = inr (record { layout = l; accepted = e; room = ltb-true (length s.layouts) 32 h; number = ltb-true s.next 65536 k; is = refl })
    by-room l e true false h k = inl (record { reply = λ z. omega arith; same = refl })
    by-room l e false u h k = inl (record { reply = λ z. omega arith; same = refl })

    by_answer : (a : Result Layout Refusal) → acceptance w ≡ a → Refuses s (store_for a w.edition s) ⊎ Added s w (store_for a w.edition s)
    by_answer (Ok l) e = by-room l e (ltb (length s.layouts) 32) (ltb s.next 65536) refl refl
    by_answer (Err r) e = inl (record { reply = λ z. omega (arith, (refusal-reply-range r).0); same = refl })

pub remove-cases : (s : Listed) (v : ℕ) → Refuses s (remove_of s v) ⊎ Removed s v (remove_of s v)
unfolding remove_of remove_reply
remove-cases s v = go (holds s.layouts v) (among v s.uses) refl refl
  where
    go : (t u : Bool) → holds s.layouts v ≡ t → among v s.uses ≡ u
        → Refuses s (cond (eqb (cond t (cond u 14 0) 7) 0) (ended 0 0 (removed s v)) (ended (cond t (cond u 14 0) 7) 0 s))
        ⊎ Removed s v (cond (eqb (cond t (cond u 14 0) 7) 0) (ended 0 0 (removed s v)) (ended (cond t (cond u 14 0) 7) 0 s))
    go true false h k = inr (record { held = h; unused = k; is = refl })
    go true true h k = inl (record { reply = λ z. omega arith; same = refl })
    go false u h k = inl (record { reply = λ z. omega arith; same = refl })

pub set_cases : (s : Listed) (c v : ℕ) → Refuses s (set_of s c v) ⊎ Set s c v (set_of s c v)
unfolding set_of set_reply
set_cases s c v = go (ltb c 16) (known s.layouts v) refl refl
  where
    go : (t u : Bool) → ltb c 16 ≡ t → known s.layouts v ≡ u
        → Refuses s (cond (eqb (cond t (cond u 0 7) 7) 0) (ended 0 0 (with_uses s (set s.uses c v))) (ended (cond t (cond u 0 7) 7) 0 s))
        ⊎ Set s c v (cond (eqb (cond t (cond u 0 7) 7) 0) (ended 0 0 (with_uses s (set s.uses c v))) (ended (cond t (cond u 0 7) 7) 0 s))
    go true true h k = inr (record { chip = ltb-true c 16 h; known = k; is = refl })
    go true false h k = inl (record { reply = λ z. omega arith; same = refl })
    go false u h k = inl (record { reply = λ z. omega arith; same = refl })

pub load-cases : (s : Listed) (bytes : List ℕ) → Refuses s (load_of s bytes) ⊎ Loaded s bytes (load_of s bytes)
unfolding load_of load_reply
load-cases s bytes = go (eqb (length bytes) 32) (all_known s.layouts (loaded bytes)) refl refl
  where
    go : (t u : Bool) → eqb (length bytes) 32 ≡ t → all_known s.layouts (loaded bytes) ≡ u
        → Refuses s (cond (eqb (cond t (cond u 0 7) 6) 0) (ended 0 0 (with_uses s (loaded bytes))) (ended (cond t (cond u 0 7) 6) 0 s))
        ⊎ Loaded s bytes (cond (eqb (cond t (cond u 0 7) 6) 0) (ended 0 0 (with_uses s (loaded bytes))) (ended (cond t (cond u 0 7) 6) 0 s))
    go true true h k = inr (record { size = eqb-true (length bytes) 32 h; known = k; is = refl })
    go true false h k = inl (record { reply = λ z. omega arith; same = refl })
    go false u h k = inl (record { reply = λ z. omega arith; same = refl })

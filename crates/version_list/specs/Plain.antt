-- The store as a plain list (document 02, E11): numbered layouts, the number that storing gives next, and for each of 16 chip selects the version
-- in use, or 0 for none. Each call is a function of the list and what is handed in, and gives the reply, a version and the list afterwards, on
-- refusals too: a refused call changes nothing. Numbers that are handed in have no bound.
--
-- Numbered             a layout with its version number and its edition: the declared struct
-- Listed               the plain list and the 16 numbers
-- empty                no layout, version 1 next, no chip select with a version
-- Ended, ended         what a call ends with: reply, version, list
-- find l n             the layout with the number n; holds l n: there is one
-- known l n            n is 0 or the number of a layout
-- without l n          the list without the layout of the number n
-- store_of s w          storing the layout of an edition and a record
-- remove_of s n         removing version n
-- set_of s c n          version n comes into use at chip select c; 0 for none
-- use_of s c            the version in use at chip select c
--
-- Of each call `..Reply` is the reply, 0 where nothing is refused.
use Rattle.layout.specs.declared.Refusal.{Refusal}
use Rattle.layout_plan.specs.declared.Layout.{Layout}
use Rattle.std.specs.Prelude.{Bool, true, false, cond, List, [], ◌∷◌, ◌++◌, ℕ, ◌+◌, length, get_or, set, replicate, eqb, ltb, Result, Ok, Err, Option, Some, None}
use Rattle.replies.specs.Replies.{among, unless}
use Rattle.layout_plan.specs.declared.Plan.{Plan}
use Rattle.layout_plan.specs.Record.{Words}
use Rattle.layout_plan.specs.Plan.{plan_of}
use Rattle.layout.specs.Acceptance.{acceptance, refusal_reply}
use Rattle.version_list.specs.declared.Numbered.{Numbered}

pub record Listed : Type 0 where
  pub layouts : List Numbered
  pub next : ℕ
  pub uses : List ℕ

unfoldable pub empty : Listed
empty = record { layouts = []; next = 1; uses = replicate 16 0 }

pub record Ended : Type 0 where
  pub reply : ℕ
  pub version : ℕ
  pub store : Listed

abbrev pub ended : ℕ → ℕ → Listed → Ended
ended reply version s = record { reply = reply; version = version; store = s }

unfoldable pub find : List Numbered → ℕ → Option Numbered
find [] n = None
find (e ∷ l) n = cond (eqb e.number n) (Some e) (find l n)

unfoldable pub holds : List Numbered → ℕ → Bool
holds [] n = false
holds (e ∷ l) n = cond (eqb e.number n) true (holds l n)

-- What a chip select may have in use.
unfoldable pub known : List Numbered → ℕ → Bool
known l n = cond (eqb n 0) true (holds l n)

unfoldable pub without : List Numbered → ℕ → List Numbered
without [] n = []
without (e ∷ l) n = cond (eqb e.number n) l (e ∷ without l n)

-- Storing.

-- The edition is kept with the version (document 02, E13), and the sums of the layout with it (E8).
abbrev pub numbered : ℕ → ℕ → Plan → Numbered
numbered n edition plan = record { number = n; edition = edition; plan = plan }

unfoldable pub added : Listed → Numbered → Listed
added s e = record { layouts = s.layouts ++ (e ∷ []); next = s.next + 1; uses = s.uses }

-- 12: 32 layouts are held. 13: the numbers up to 65,535 are used up. 12 is looked at first.
unfoldable pub add_reply : Listed → ℕ
add_reply s =
    unless (ltb (length s.layouts) 32) 12
    (unless (ltb s.next 65536) 13
    0)

unfoldable pub add_of : Listed → ℕ → Plan → Ended
add_of s edition plan =
    cond (eqb (add_reply s) 0)
    (ended 0 s.next (added s (numbered s.next edition plan)))
    (ended (add_reply s) 0 s)

-- What a layout is refused for comes first: 7 for its edition, 6 for its record's length, then 1, 2, 3, 11 or 4.
unfoldable pub store_for : Result Layout Refusal → ℕ → Listed → Ended
store_for (Ok l) edition s = add_of s edition (plan_of l)
store_for (Err r) edition s = ended (refusal_reply r) 0 s

unfoldable pub store_of : Listed → Words → Ended
store_of s w = store_for (acceptance w) w.edition s

-- Removing.

-- 7: no such version. 14: a chip select uses it.
unfoldable pub remove_reply : Listed → ℕ → ℕ
remove_reply s n =
    unless (holds s.layouts n) 7
    (cond (among n s.uses) 14
    0)

unfoldable pub removed : Listed → ℕ → Listed
removed s n = record { layouts = without s.layouts n; next = s.next; uses = s.uses }

unfoldable pub remove_of : Listed → ℕ → Ended
remove_of s n = cond (eqb (remove_reply s n) 0) (ended 0 0 (removed s n)) (ended (remove_reply s n) 0 s)

-- The version in use.

unfoldable pub with_uses : Listed → List ℕ → Listed
with_uses s uses = record { layouts = s.layouts; next = s.next; uses = uses }

-- 7: no such chip select, or a version that is neither 0 nor in the store.
unfoldable pub set_reply : Listed → ℕ → ℕ → ℕ
set_reply s c n =
    unless (ltb c 16) 7
    (unless (known s.layouts n) 7
    0)

unfoldable pub set_of : Listed → ℕ → ℕ → Ended
set_of s c n = cond (eqb (set_reply s c n) 0) (ended 0 0 (with_uses s (set s.uses c n))) (ended (set_reply s c n) 0 s)

unfoldable pub use_of : Listed → ℕ → Ended
use_of s c = cond (ltb c 16) (ended 0 (get_or s.uses c 0) s) (ended 7 0 s)

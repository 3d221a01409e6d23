-- What each call of the store comes to, case by case: of the first places of its array, and of the plain list.
--
-- looked-none, looked-found, held_none, held_found, held_test     a number among the first places
-- placed-taken, taken_out     the first places after a layout was put behind them, or taken out
-- add-full, add-used-up, add_done, store-accepted, store-refused           storing
-- remove-unknown, remove-used, remove-done                                 removing
-- known-zero, known-held, set-outside, set-unknown, set-done               the version in use
use mathlib.Core.Path.{◌≡◌, refl, sym, ap, ◌∙◌}
use mathlib.Core.Bool.{Bool, true, false}
use mathlib.Core.List.{List, [], ◌∷◌, ◌++◌}
use Prim.Native.Nat.{ℕ, ◌+◌, ◌-◌, ◌≤◌, ◌<◌}
use native.Mathlib.Numerals.{add-one}
use native.Mathlib.Omega.{arith}
use lib.ListN.{length, get_or, take, set}
use lib.Seq.{take-suc-set, length-take-le, get_or-take}
use lib.Dec.{ltb}
use borrow.Author.Tests.{lt-ltb, le-ltb, ltb-true, ltb-false, eq-eqb, ne_eqb}
use Rattle.std.specs.Prelude.{Ok, Err, Some, None}
use Rattle.replies.specs.declared.Refusal as table
use Rattle.replies.specs.Replies.{number, among}
use Rattle.layout_plan.specs.declared.Plan.{Plan}
use Rattle.layout_plan.specs.declared.Layout.{Layout}
use Rattle.layout.specs.declared.Refusal as layout
use Rattle.layout_plan.specs.Record.{Words}
use Rattle.layout_plan.specs.Plan.{plan_of}
use Rattle.layout.specs.Acceptance.{acceptance, refusal_of, refusal_reply}
use Rattle.version_list.specs.declared.Numbered.{Numbered}
use Rattle.version_list.specs.Plain.{Listed, ended, find, holds, known, without, numbered, added, add_reply, add_of, store_for, store_of}
use Rattle.version_list.specs.Plain.{remove_reply, removed, remove_of, with_uses, set_reply, set_of}
use Rattle.version_list.specs.Places.{held, index_of, closed}
use Rattle.version_list.proofs.Lookups.{find-index, find_none, holds-index, holds-none, without-index, closed-end, held_small, held_same}

-- ---- the first places of an array

module _ (layouts : List Numbered) (k count : ℕ) (whole : length layouts ≡ 32) (few : count ≡ held k) where
  count_small : count ≤ 32
  count_small = rw few (held_small k)

  taken-length : length (take count layouts) ≡ count
  taken-length = let h = count_small in length-take-le count layouts (omega arith)

  pub held-length : length (take (held k) layouts) ≡ count
  held-length = rw few at taken-length ∙ sym few

  pub placed-taken : (e : Numbered) → count < 32 → take (held (count + 1)) (set layouts count e) ≡ take (held k) layouts ++ (e ∷ [])
  placed-taken e h =
      ap (λ (j : ℕ). take j (set layouts count e)) (held_same (count + 1) (omega arith) ∙ add-one count)
      ∙ take-suc-set layouts count e (omega arith)
      ∙ ap (λ (j : ℕ). take j layouts ++ (e ∷ [])) few

  module _ (n at : ℕ) (place : at ≡ index_of (take count layouts) n) where
    past : count ≤ at → length (take count layouts) ≤ index_of (take count layouts) n
    past h = omega (arith, taken-length)

    inside : at < count → index_of (take count layouts) n < length (take count layouts)
    inside h = omega (arith, taken-length)

    pub looked-none : count ≤ at → find (take (held k) layouts) n ≡ None
    looked-none h = rw few at (find_none (take count layouts) n (past h))

    pub looked-found : (d : Numbered) → at < count → find (take (held k) layouts) n ≡ Some (get_or layouts at d)
    looked-found d h =
        ap (λ (j : ℕ). find (take j layouts) n) (sym few)
        ∙ find-index d (take count layouts) n (inside h)
        ∙ ap (λ (j : ℕ). Some (get_or (take count layouts) j d)) (sym place)
        ∙ ap Some (get_or-take count layouts at d h)

    pub held_none : count ≤ at → holds (take (held k) layouts) n ≡ false
    held_none h = rw few at (holds-none (take count layouts) n (past h))

    pub held_found : at < count → holds (take (held k) layouts) n ≡ true
    held_found h = rw few at (holds-index (take count layouts) n (inside h))

    pub held_test : ltb at count ≡ holds (take (held k) layouts) n
    held_test = go (ltb at count) refl
      where
        go : (t : Bool) → ltb at count ≡ t → t ≡ holds (take (held k) layouts) n
        go true e = sym (held_found (ltb-true at count e))
        go false e = sym (held_none (ltb-false at count e))

    pub taken_out : at < count → take (held (count - 1)) (closed layouts at (count - 1)) ≡ without (take (held k) layouts) n
    taken_out h =
        let m = count_small in
        ap (λ (j : ℕ). take j (closed layouts at (count - 1))) (held_same (count - 1) (omega arith))
        ∙ closed-end layouts at count h (omega arith)
        ∙ rw place (sym (without-index (take count layouts) n (inside h)))
        ∙ ap (λ (j : ℕ). without (take j layouts) n) few

-- ---- storing

module _ (s : Listed) (edition : ℕ) (plan : Plan) where
  pub add-full : 32 ≤ length s.layouts → ended 12 0 s ≡ add_of s edition plan
  unfolding add_of add_reply
  add-full h = rw (le-ltb (length s.layouts) 32 h)

  pub add-used-up : length s.layouts < 32 → 65536 ≤ s.next → ended 13 0 s ≡ add_of s edition plan
  unfolding add_of add_reply
  add-used-up h k = rw (lt-ltb (length s.layouts) 32 h, le-ltb s.next 65536 k)

  pub add_done : length s.layouts < 32 → s.next < 65536 → ended 0 s.next (added s (numbered s.next edition plan)) ≡ add_of s edition plan
  unfolding add_of add_reply
  add_done h k = rw (lt-ltb (length s.layouts) 32 h, lt-ltb s.next 65536 k)

pub store-accepted : (s : Listed) (w : Words) (l : Layout) → acceptance w ≡ Ok l → add_of s w.edition (plan_of l) ≡ store_of s w
unfolding store_of store_for
store-accepted s w l e = rw e

pub store-refused : (s : Listed) (w : Words) {t : table.Refusal} (r : layout.Refusal) → t ≡ refusal_of r → acceptance w ≡ Err r
    → ended (number t) 0 s ≡ store_of s w
unfolding store_of store_for refusal_reply
store-refused s w r e h = rw (h, e)

-- ---- removing

module _ (s : Listed) (n : ℕ) where
  pub remove-unknown : holds s.layouts n ≡ false → ended 7 0 s ≡ remove_of s n
  unfolding remove_of remove_reply
  remove-unknown h = rw h

  pub remove-used : holds s.layouts n ≡ true → among n s.uses ≡ true → ended 14 0 s ≡ remove_of s n
  unfolding remove_of remove_reply
  remove-used h k = rw (h, k)

  pub remove-done : holds s.layouts n ≡ true → among n s.uses ≡ false → ended 0 0 (removed s n) ≡ remove_of s n
  unfolding remove_of remove_reply
  remove-done h k = rw (h, k)

-- ---- the version in use

pub known-zero : (l : List Numbered) (n : ℕ) → n ≡ 0 → known l n ≡ true
unfolding known
known-zero l n e = rw (eq-eqb n 0 e)

pub known-held : (l : List Numbered) (n : ℕ) → (n ≡ 0 → ⊥) → known l n ≡ holds l n
unfolding known
known-held l n e = rw (ne_eqb n 0 e)

module _ (s : Listed) (c n : ℕ) where
  pub set-outside : 16 ≤ c → ended 7 0 s ≡ set_of s c n
  unfolding set_of set_reply
  set-outside h = rw (le-ltb c 16 h)

  pub set-unknown : c < 16 → known s.layouts n ≡ false → ended 7 0 s ≡ set_of s c n
  unfolding set_of set_reply
  set-unknown h k = rw (lt-ltb c 16 h, k)

  pub set-done : c < 16 → known s.layouts n ≡ true → ended 0 0 (with_uses s (set s.uses c n)) ≡ set_of s c n
  unfolding set_of set_reply
  set-done h k = rw (lt-ltb c 16 h, k)

-- The searches of the versions in use, as their definitions tell them.
--
-- among-any                       a number is among the versions in use
-- known-all                       all of them are known
-- found-holds                     what is found is held
-- usable-known, usable-unknown    a version that a chip select may have in use
use mathlib.Core.Path.{◌≡◌, refl, sym, ap, ◌∙◌}
use mathlib.Core.Bool.{Bool, true, false, cond, ◌||◌, ◌&&◌}
use mathlib.Core.List.{List, [], ◌∷◌}
use Prim.Native.Nat.{ℕ}
use lib.Dec.{eqb}
use Rattle.std.specs.List.{list_any, list_all}
use Rattle.replies.specs.Replies.{among}
use Rattle.version_list.specs.declared.Numbered.{Numbered}
use Rattle.version_list.specs.Plain.{find, holds, known}
use Rattle.version_bytes.specs.Saved.{all_known}
use Rattle.std.specs.Prelude.{Option, Some, None, Ok, Err}
use Rattle.std.specs.Option.{is_some}
use Rattle.version_list.proofs.Lookups.{find-holds, find-unknown}
use Rattle.std.proofs.Common.{rules}
use Rattle.replies.specs.declared.Refusal.TheVariants.{OutOfRange}
use Rattle.store.specs.declared.Refusal.{Refusal}
use Rattle.store.specs.declared.Refusal.TheVariants.{Table}
use Rattle.store.specs.Answers.{usable}

either : (b c : Bool) → (b || c) ≡ cond b true c
either true c = refl
either false c = refl

both : (b c : Bool) → (b && c) ≡ cond b c false
both true c = refl
both false c = refl

any-among : (n : ℕ) (l : List ℕ) → list_any (eqb n) l ≡ among n l
unfolding among
any-among n [] = refl
any-among n (x ∷ xs) = either (eqb n x) _ ∙ ap (cond (eqb n x) true) (any-among n xs)

pub among-any : (n : ℕ) (l : List ℕ) {b : Bool} → b ≡ list_any (eqb n) l → b ≡ among n l
among-any n l e = e ∙ any-among n l

all-known : (s : List Numbered) (l : List ℕ) → list_all (known s) l ≡ all_known s l
unfolding all_known
all-known s [] = refl
all-known s (x ∷ xs) = both (known s x) _ ∙ ap (λ (t : Bool). cond (known s x) t false) (all-known s xs)

pub known-all : (s : List Numbered) (l : List ℕ) {b : Bool} → b ≡ list_all (known s) l → b ≡ all_known s l
known-all s l e = e ∙ all-known s l

-- ---- what is found is held

pub found-holds : (l : List Numbered) (n : ℕ) → is_some (find l n) ≡ holds l n
found-holds l n = go (find l n) refl
  where
    go : (x : Option Numbered) → find l n ≡ x → is_some x ≡ holds l n
    go (Some e) h = sym (find-holds l n e h)
    go None h = sym (find-unknown l n h)

-- ---- a version that a chip select may have in use

module _ (l : List Numbered) (n : ℕ) where
  pub usable-known : (m : ℕ) → usable l n ≡ Ok m → (known l n ≡ true) × (n ≡ m)
  unfolding usable
  usable-known m e = go (known l n) refl e
    where
      go : (t : Bool) → known l n ≡ t → cond t (Ok n) (Err (Table OutOfRange)) ≡ Ok m → (known l n ≡ true) × (n ≡ m)
      go true k h = (k, cc h)
      go false k h = absurd (search (rules, h))

  pub usable-unknown : (r : Refusal) → usable l n ≡ Err r → (known l n ≡ false) × (r ≡ Table OutOfRange)
  unfolding usable
  usable-unknown r e = go (known l n) refl e
    where
      go : (t : Bool) → known l n ≡ t → cond t (Ok n) (Err (Table OutOfRange)) ≡ Err r → (known l n ≡ false) × (r ≡ Table OutOfRange)
      go true k h = absurd (search (rules, h))
      go false k h = (k, cc h)

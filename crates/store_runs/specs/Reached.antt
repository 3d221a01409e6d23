-- What every state of a sequence of calls from an empty store has (document 02, E11).
--
-- Fresh l n            every number in the list is from 1 up and below n
-- Once l               no number stands in the list twice
-- Accepted e           the numbered layout e is the accepted layout of an edition and a record, and has its edition
-- Every P l            P holds of every layout of the list
-- Reached s            what a state has: at most 32 layouts, numbers up to 65,535, each once and below the next, accepted layouts, 16 numbers,
--                      and every version in use is 0 or in the store
use Rattle.std.specs.Prelude.{◌≡◌, true, false, List, [], ◌∷◌, ℕ, ◌≤◌, ◌<◌, length, Ok}
use Rattle.layout_plan.specs.declared.Layout.{Layout}
use Rattle.layout_plan.specs.Record.{Words}
use Rattle.layout_plan.specs.Plan.{plan_of}
use Rattle.layout.specs.Acceptance.{acceptance}
use Rattle.version_list.specs.declared.Numbered.{Numbered}
use Rattle.version_list.specs.Plain.{Listed, holds}
use Rattle.version_bytes.specs.Saved.{all_known}

pub data Fresh : List Numbered → ℕ → Type 0 where
  none : {n : ℕ} → Fresh [] n
  next : {e : Numbered} {l : List Numbered} {n : ℕ} → 0 < e.number → e.number < n → Fresh l n → Fresh (e ∷ l) n

pub data Once : List Numbered → Type 0 where
  none : Once []
  next : {e : Numbered} {l : List Numbered} → holds l e.number ≡ false → Once l → Once (e ∷ l)

pub record Accepted (e : Numbered) : Type 0 where
  pub words : Words
  pub layout : Layout
  pub accepted : acceptance words ≡ Ok layout
  pub plan : e.plan ≡ plan_of layout
  pub edition : e.edition ≡ words.edition

pub data Every (P : Numbered → Type 0) : List Numbered → Type 0 where
  none : Every P []
  next : {e : Numbered} {l : List Numbered} → P e → Every P l → Every P (e ∷ l)

pub record Reached (s : Listed) : Type 0 where
  pub few : length s.layouts ≤ 32
  pub some : 0 < s.next
  pub bound : s.next ≤ 65536
  pub fresh : Fresh s.layouts s.next
  pub once : Once s.layouts
  pub accepted : Every Accepted s.layouts
  pub chips : length s.uses ≡ 16
  pub uses : all_known s.layouts s.uses ≡ true

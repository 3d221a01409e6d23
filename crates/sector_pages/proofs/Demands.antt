-- Demands 2 and 3 and the law of worn blocks (document 02, E14) for pages of sectors: the laws over the answer to a layout (page_theory/Demand2, Demand3,
-- Worn) at the answer to a layout of sectors. Demand 1 (page_theory/Demand1) holds of any answer. A page of sectors has no metadata.
--
-- sectors-accepts          an accepted layout of sectors is one that these laws speak of
-- write-sectors            demand 2: the written page, block by block, with ones in the pads and after the last sector, and no other page is it
-- read-sectors             demand 2: a page that is read gives the messages of codewords within t flips, and exactly these flips
-- read-back                demand 3: what was written is read back after damage of at most t flips a sector
-- told-apart               demand 3: pages of different data, damaged so, are never the same
-- look-refused, take-refused    demand 3: a page is refused with 9 exactly if a sector is ruined, and the lowest is named
-- worn-sector, never-untouched  what may be reported of a sector in which more than t bits flipped and at most 2t, or from one to 2t
use mathlib.Core.Path.{◌≡◌, refl}
use mathlib.Core.Bool.{Bool}
use mathlib.Core.List.{List, []}
use Prim.Native.Nat.{ℕ, ◌<◌}
use lib.ListN.{length, get_or}
use Rattle.layout_plan.specs.declared.Sectors.{Sectors}
use Rattle.layout_plan.specs.declared.Layout.{Layout}
use Rattle.layout_plan.specs.declared.Plan.{Plan}
use Rattle.layout.specs.declared.Refusal.{Refusal}
use Rattle.std.specs.Prelude.{Result, Ok}
use Rattle.layout_plan.specs.Plan.{plan_of, level}
use Rattle.code.specs.Outcome.{Outcome}
use Rattle.bits.specs.Bits.{run}
use Rattle.page_theory.specs.Reading.{RefusedAt, Lowest}
use Rattle.page_theory.specs.Calls.{write_for, look_for, look_ended, take_for, take_ended, judge_for, judge_ended}
use Rattle.page_theory.specs.Damage.{Accepts, Payload, Outputs, flips, WrittenAndDamaged}
use Rattle.page_theory.specs.Demands.{Stands, Reads}
use Rattle.page_theory.specs.Worn.{WrittenAndChanged, Past, Touched, Worn, Answered}
use Rattle.page_theory.proofs.Demand2.{write-only, read-blocks}
use Rattle.page_theory.proofs.Demand3 as demand
use Rattle.page_theory.proofs.Demand3.{looks-back, takes_back, look-refused-when, look-refused-only, take-refused-when, take-refused-only}
use Rattle.page_theory.proofs.Worn as worn
use Rattle.sectors.specs.Sectors.{sector_acceptance}
use Rattle.sectors.proofs.Accepting.{sectors-valid}

module _ (s : Sectors) (l : Layout) (h : sector_acceptance s ≡ Ok l) where
  abbrev a : Result Layout Refusal
  a = sector_acceptance s

  abbrev q : Plan
  q = plan_of l

  pub sectors-accepts : Accepts a q
  sectors-accepts = record { layout = l; accepted = h; plan = refl; valid = sectors-valid s l h }

  pub write-sectors : (d page other : List ℕ) → Payload q [] d → length page ≡ q.size → Stands q page d other → other ≡ (write_for a [] d page).page
  write-sectors d page other p e st = write-only a q sectors-accepts [] d page p e other st

  pub read-sectors : (page c d : List ℕ) → (look_for a page c).reply ≡ 0 → (take_for a page [] d).reply ≡ 0 → Reads q page (look_for a page c) (take_for a page [] d)
  read-sectors page c d = read-blocks a q sectors-accepts page c [] d

  pub read_back : (d page : List ℕ) (t : ℕ → ℕ → Bool) → WrittenAndDamaged a q [] d page t → (c old : List ℕ) → Outputs q [] old c
      → (look_for a page c ≡ look_ended 0 0 (run (flips q t) 0 q.blocks)) × (take_for a page [] old ≡ take_ended 0 0 [] d)
  read_back d page t w c old o =
      (looks-back a q sectors-accepts [] d page t w c o.counts, takes_back a q sectors-accepts [] d page t w [] old o.metadata o.«data»)

  pub told-apart : (d page : List ℕ) (t : ℕ → ℕ → Bool) → WrittenAndDamaged a q [] d page t
      → (d' page' : List ℕ) (t' : ℕ → ℕ → Bool) → WrittenAndDamaged a q [] d' page' t' → (d ≡ d' → ⊥) → page ≡ page' → ⊥
  told-apart d page t w d' page' t' w' different = demand.told-apart a q sectors-accepts [] d page t w [] d' page' t' w' (λ m e. different e)

  module _ (page : List ℕ) (size : length page ≡ q.size) where
    pub look-refused : (c : List ℕ) → length c ≡ q.blocks
        → ((b : ℕ) → b < q.blocks → RefusedAt q page b → (look_for a page c).reply ≡ 9) × ((look_for a page c).reply ≡ 9 → Lowest q page (look_for a page c).block)
    look-refused c e = (look-refused-when a q sectors-accepts page size c e, look-refused-only a q sectors-accepts page size c e)

    pub take-refused : (d : List ℕ) → 0 ≡ q.metadata → length d ≡ q.«data»
        → ((b : ℕ) → b < q.blocks → RefusedAt q page b → (take_for a page [] d).reply ≡ 9) × ((take_for a page [] d).reply ≡ 9 → Lowest q page (take_for a page [] d).block)
    take-refused d n e = (take-refused-when a q sectors-accepts page size [] d n e, take-refused-only a q sectors-accepts page size [] d n e)

  module _ (d page : List ℕ) (t : ℕ → ℕ → Bool) (w : WrittenAndChanged a q [] d page t) (lent : List ℕ) (room : length lent ≡ q.blocks) (b : ℕ)
      (inside : b < q.blocks) where
    pub worn-sector : Past q t b → (o : Outcome) × (Worn (level q b) (flips q t b) o) × (Answered a page lent b o)
    worn-sector = worn.past-level a q sectors-accepts [] d page t w lent room b inside

    pub never-untouched : Touched q t b → (get_or (look_for a page lent).counts b 0 ≡ 0 → ⊥) × (judge_for a page b ≡ judge_ended 0 0 0 → ⊥)
    never-untouched = worn.never-untouched a q sectors-accepts [] d page t w lent room b inside

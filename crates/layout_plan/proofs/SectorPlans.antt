-- Laws of the layout of a page of sectors (document 02, E12).
--
-- one-sector, more-sectors      the layout of one sector, and of more
-- sector-whole                  the length of a sector, pads included, is a multiple of 8 bytes
-- sector-pads                   and the pads are no more than it takes
use mathlib.Core.Path.{◌≡◌, ap, ◌∙◌}
use Prim.Native.Nat.{ℕ, ◌+◌, ◌-◌, ◌*◌, ◌/◌, ◌%◌, ◌<◌}
use native.Mathlib.Omega.{arith}
use borrow.Author.Tests.{eq-eqb, ne_eqb}
use Rattle.field.specs.Field.{degree}
use Rattle.field.specs.declared.Field.{Field}
use Rattle.layout_plan.specs.declared.Sectors.{Sectors}
use Rattle.layout_plan.specs.declared.Layout.{Layout}
use Rattle.layout_plan.specs.declared.Shape.{Shape}
use Rattle.layout_plan.specs.declared.Plan.{Plan}
use Rattle.layout_plan.specs.Record.{field_of}
use Rattle.layout_plan.specs.SectorPlan.{missing, parity_pads, pad_bytes, sector_shape, sectors_plan, sector_plan, sector_layout}

abbrev pub with-plan : Plan → Layout
with-plan p = record { plan = p }

module _ (s : Sectors) {f : Field} (ef : f ≡ field_of s.choice) {last : Shape} (el : last ≡ sector_shape s.last f (2 * s.level)) where
  pub one-sector : s.count ≡ 1 → {p : Plan} → p ≡ sectors_plan s 1 last last → with-plan p ≡ sector_layout s
  unfolding sector_layout sector_plan
  one-sector e h = ap with-plan (h ∙ rw (el, ef, eq-eqb s.count 1 e))

  pub more-sectors : (s.count ≡ 1 → ⊥) → {own : Shape} → own ≡ sector_shape s.size f (2 * s.level) → {p : Plan}
      → p ≡ sectors_plan s (s.count - 1) own last → with-plan p ≡ sector_layout s
  unfolding sector_layout sector_plan
  more-sectors n eo h = ap with-plan (h ∙ rw (eo, el, ef, ne_eqb s.count 1 n))

module _ (size : ℕ) (f : Field) (t : ℕ) where
  pub sector-whole : ((sector_shape size f t).covered + (sector_shape size f t).pads) % 64 ≡ 0
  unfolding sector_shape parity_pads pad_bytes missing
  sector-whole = go (degree f * t)
    where
      go : (p : ℕ) → (8 * size + p + ((8 - p % 8) % 8 + 8 * ((8 - (size + (p + (8 - p % 8) % 8) / 8) % 8) % 8))) % 64 ≡ 0
      go p = omega arith

  pub sector-pads : (sector_shape size f t).pads < 64
  unfolding sector_shape parity_pads pad_bytes missing
  sector-pads = go (degree f * t)
    where
      go : (p : ℕ) → (8 - p % 8) % 8 + 8 * ((8 - (size + (p + (8 - p % 8) % 8) / 8) % 8) % 8) < 64
      go p = omega arith

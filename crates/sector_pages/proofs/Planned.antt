-- The plan of an accepted layout of sectors has what the code of the page calls counts on.
--
-- Ranged s            what the types of the numbers allow
-- sectors-planned     the plan of an accepted layout is such a plan
-- sectors-sound       so the answer to a layout of sectors is sound
use mathlib.Core.Path.{◌≡◌, refl}
use mathlib.Core.Bool.{Bool, true, false, cond}
use Prim.Native.Nat.{ℕ, ◌+◌, ◌-◌, ◌*◌, ◌≤◌, ◌<◌}
use native.Mathlib.Omega.{arith}
use native.Mathlib.Decide.{ℕ_discrete}
use lib.Dec.{ltb}
use Rattle.field.specs.declared.Field.{Field}
use Rattle.replies.specs.Edition.{highest}
use Rattle.replies.proofs.Editions.{highest-small}
use Rattle.layout_plan.specs.declared.Sectors.{Sectors}
use Rattle.layout_plan.specs.declared.Shape.{Shape}
use Rattle.layout_plan.specs.declared.Layout.{Layout}
use Rattle.std.specs.Prelude.{Ok}
use Rattle.layout_plan.specs.Plan.{plan_of, shape, field, level, Valid}
use Rattle.layout_plan.specs.SectorPlan.{sector_shape, own_shape, last_shape, sectors_plan, sector_plan}
use Rattle.layout_plan.proofs.Plans.{product_le}
use Rattle.sectors.specs.Sectors.{sector_acceptance}
use Rattle.sectors.proofs.Accepting.{one-plan, more-plan, sectors-taken, sectors-plan, sectors-level, sectors-valid}
use Rattle.page_plan.specs.Plans.{Stored, Planned, Sound}

pub record Ranged (s : Sectors) : Type 0 where
  pub size : s.size < 65536
  pub last : s.last < 65536
  pub page : s.page < 65536

module _ (s : Sectors) (strong : s.level ≤ highest s.edition) where
  shape-stored : (size : ℕ) (f : Field) → Stored (sector_shape size f (2 * s.level))
  unfolding sector_shape
  shape-stored size f = record { even = omega arith; small = omega (arith, strong, highest-small s.edition) }

-- All sectors have one field and one level.
module _ (s : Sectors) (n : ℕ) (a b : Shape) (f : a.field ≡ b.field) (t : a.level ≡ b.level) where
  one-generator : (c : ℕ) → (field (sectors_plan s n a b) c ≡ b.field) × (level (sectors_plan s n a b) c ≡ b.level)
  unfolding shape sectors_plan
  one-generator c = go (ltb c n)
    where
      go : (x : Bool) → ((cond x a b).field ≡ b.field) × ((cond x a b).level ≡ b.level)
      go true = (f, t)
      go false = (refl, refl)

module _ (s : Sectors) (r : Ranged s) (count : (0 < s.count) × (s.count ≤ 16)) where
  data-small : (s.count - 1) * s.size + s.last < 4294967296
  data-small =
      let p = product_le 15 65535 {a = s.count - 1} {b = s.size} (omega (arith, count.1)) (omega (arith, r.size)) in
      omega (arith, r.last)

  made-planned : (n : ℕ) (a b : Shape) → 0 < n → Valid (sectors_plan s n a b) → Stored a → Stored b → a.field ≡ b.field → a.level ≡ b.level
      → Planned (sectors_plan s n a b)
  unfolding sectors_plan
  made-planned n a b some v x y f t = record {
    valid = v;
    first = x;
    later = y;
    own = some;
    behind = λ c l i. one-generator s n a b f t c;
    size = r.page;
    some = count.0;
    few = omega (arith, count.1);
    metadata = omega arith;
    «data» = data-small;
  }

  same-field : (p q : ℕ) (f : Field) (t : ℕ) → (sector_shape p f t).field ≡ (sector_shape q f t).field
  unfolding sector_shape
  same-field p q f t = refl

  same-level : (p q : ℕ) (f : Field) (t : ℕ) → (sector_shape p f t).level ≡ (sector_shape q f t).level
  unfolding sector_shape
  same-level p q f t = refl

  plan-planned : s.level ≤ highest s.edition → Valid (sector_plan s) → Planned (sector_plan s)
  plan-planned l v = elim (ℕ_discrete s.count 1) [
    | yes e ↦ rw (one-plan s e)
        (made-planned 1 (last_shape s) (last_shape s) (omega arith) (rw (one-plan s e) at v) (shape-stored s l _ _) (shape-stored s l _ _) refl refl)
    | no n ↦ rw (more-plan s n)
        (made-planned (s.count - 1) (own_shape s) (last_shape s) (omega (arith, count.0)) (rw (more-plan s n) at v) (shape-stored s l _ _) (shape-stored s l _ _)
        (same-field _ _ _ _) (same-level _ _ _ _))
  ]

pub sectors-planned : (s : Sectors) (l : Layout) → Ranged s → sector_acceptance s ≡ Ok l → Planned (plan_of l)
sectors-planned s l r e =
    let p = sectors-plan s l e in
    rw p (plan-planned s r (sectors-taken s l e).count (sectors-level s l e) (rw p at (sectors-valid s l e)))

pub sectors-sound : (s : Sectors) → Ranged s → Sound (sector_acceptance s)
sectors-sound s r l e = sectors-planned s l r e

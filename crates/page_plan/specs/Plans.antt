-- Inner promises: what the code that writes, reads, judges and checks pages asks of a plan. Every accepted layout has such a plan
-- (proofs/Plans.antt).
--
-- Stored s         the generator of a block of the shape s is one of the stored ones
-- Planned q        what the plan of an accepted layout has
-- Ready q page     q is such a plan, and the page has its size
-- Sound a          where the answer a to a layout accepts it, its plan is such a plan; what names the layout does not matter
use Rattle.layout.specs.declared.Refusal.{Refusal}
use Rattle.std.specs.Prelude.{◌≡◌, List, ℕ, ◌%◌, ◌≤◌, ◌<◌, length, Result, Ok}
use Rattle.layout_plan.specs.declared.Shape.{Shape}
use Rattle.layout_plan.specs.declared.Plan.{Plan}
use Rattle.layout_plan.specs.declared.Layout.{Layout}
use Rattle.layout_plan.specs.Plan.{plan_of, field, level, Valid}

-- The stored generators are those of t = 0, 2, 4, .., 62 (document 01, "Layout words": t is twice the level field).
pub record Stored (s : Shape) : Type 0 where
  pub even : s.level % 2 ≡ 0
  pub small : s.level ≤ 62

-- A valid plan of at least one block, whose blocks have stored generators, all after block 0 the same one, and whose numbers are as small as those
-- of a layout record.
pub record Planned (q : Plan) : Type 0 where
  pub valid : Valid q
  pub first : Stored q.first
  pub later : Stored q.later
  pub own : 0 < q.firsts
  pub behind : (b : ℕ) → 0 < b → b < q.blocks → (field q b ≡ q.later.field) × (level q b ≡ q.later.level)
  pub size : q.size < 65536
  pub some : 0 < q.blocks
  pub few : q.blocks ≤ 256
  pub metadata : q.metadata < 256
  pub «data» : q.«data» < 4294967296

abbrev pub Sound : Result Layout Refusal → Type 0
Sound a = (l : Layout) → a ≡ Ok l → Planned (plan_of l)

pub record Ready (q : Plan) (page : List ℕ) : Type 0 where
  pub plan : Planned q
  pub size : length page ≡ q.size

-- Inner promises: the lengths that the writer's parts may count on (document 01, "Layout words").
--
-- Lent q m d page     the metadata, the data and the page have the lengths of the plan
use Rattle.std.specs.Prelude.{◌≡◌, List, ℕ, length}
use Rattle.layout_plan.specs.declared.Plan.{Plan}

pub record Lent (q : Plan) (m d page : List ℕ) : Type 0 where
  pub metadata : length m ≡ q.metadata
  pub «data» : length d ≡ q.«data»
  pub size : length page ≡ q.size

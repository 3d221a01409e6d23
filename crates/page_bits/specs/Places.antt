-- Inner promises: which block a stream position can lie in.
--
-- Near q p b       block b starts at or before the position p, and where it is a block of the page, the next one starts after p
use Rattle.std.specs.Prelude.{ℕ, suc, ◌≤◌, ◌<◌}
use Rattle.layout_plan.specs.declared.Plan.{Plan}
use Rattle.layout_plan.specs.Plan.{start}

pub record Near (q : Plan) (p b : ℕ) : Type 0 where
  pub from : start q b ≤ p
  pub to : b < q.blocks → p < start q (suc b)

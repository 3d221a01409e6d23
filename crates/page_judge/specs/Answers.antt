-- The answer to one block as document 01's numbers (document 01, "Replies" and "One block"); its reply and the block that goes with it are
-- those of any answer (`verdict_number` and `verdict_block` of the crate `replies`).
--
-- judge_flips r    the flip count of an answer
use Rattle.std.specs.Prelude.{ℕ, Result, Ok, Err}
use Rattle.replies.specs.declared.Refusal.{Refusal}

unfoldable pub judge_flips : Result ℕ Refusal → ℕ
judge_flips (Ok n) = n
judge_flips (Err r) = 0

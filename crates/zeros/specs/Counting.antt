-- Inner promises: how the zeros of a run are counted.
--
-- chunk n    how many of n bits are counted at once: all, or 64
use Rattle.std.specs.Prelude.{cond, ℕ, ltb}

unfoldable pub chunk : ℕ → ℕ
chunk n = cond (ltb n 64) n 64

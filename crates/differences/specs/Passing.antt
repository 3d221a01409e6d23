-- Inner promises: what passing over positions promises.
--
-- Passed k first second p n    from position p on n positions may be passed over: the pages differ at none of them; where n is 0 they differ
--                              at p; n is 1, or p is the first position of a byte and n is 8
use Rattle.std.specs.Prelude.{◌≡◌, true, false, List, ℕ, ◌+◌, ◌%◌, ◌<◌, ◌≤◌}
use Rattle.mark.specs.declared.Mark.{Mark}
use Rattle.differences.specs.Differences.{differs}

pub record Passed (k : Mark) (first second : List ℕ) (p n : ℕ) : Type 0 where
  pub here : n ≡ 0 → differs k first second p ≡ true
  pub free : (i : ℕ) → i < n → differs k first second (p + i) ≡ false
  pub whole : 1 < n → p % 8 ≡ 0
  pub short : n ≤ 8

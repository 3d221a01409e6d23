-- Inner promises: numbers in bytes, the lowest byte first, and what a function that writes some bytes leaves as it was.
--
-- little bytes n          the number in the first n bytes, the lowest byte first
-- Only at n before after  nothing but n places from `at` on has changed
use Rattle.std.specs.Prelude.{◌≡◌, List, ℕ, zero, suc, ◌+◌, ◌*◌, ◌^◌, ◌<◌, ◌≤◌, get_or}

unfoldable pub little : List ℕ → ℕ → ℕ
little bytes zero = 0
little bytes (suc n) = get_or bytes n 0 * 2 ^ (8 * n) + little bytes n

pub record Only (at n : ℕ) (before after : List ℕ) : Type 0 where
  pub lower : (k : ℕ) → k < at → get_or after k 0 ≡ get_or before k 0
  pub upper : (k : ℕ) → at + n ≤ k → get_or after k 0 ≡ get_or before k 0

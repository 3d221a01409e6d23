-- Inner promises: numbers in the bytes of a vector.
--
-- number_at bytes at n    the number in n bytes from place `at` on, most significant first; of more than eight bytes the last eight
use Rattle.std.specs.Prelude.{ℕ, zero, suc, ◌+◌, ◌*◌, ◌%◌, ◌^◌, List, get_or}

unfoldable pub number_at : List ℕ → ℕ → ℕ → ℕ
number_at bytes at zero = 0
number_at bytes at (suc n) = number_at bytes at n % 2 ^ 56 * 256 + get_or bytes (at + n) 0

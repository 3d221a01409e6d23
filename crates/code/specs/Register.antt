-- Numbers in words of 64 bits, the lowest word first: rows of generators, and the register that a remainder is worked out in.
--
-- low ws n       the number in the first n words
-- register ws    the number in all words
use Rattle.std.specs.Prelude.{List, ℕ, zero, suc, ◌+◌, ◌*◌, ◌^◌, length, get_or}

unfoldable pub low : List ℕ → ℕ → ℕ
low ws zero = 0
low ws (suc n) = get_or ws n 0 * 2 ^ (64 * n) + low ws n

unfoldable pub register : List ℕ → ℕ
register ws = low ws (length ws)

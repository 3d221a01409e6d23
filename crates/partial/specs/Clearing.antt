-- Inner promises: the rows by which a partial remainder is reduced.
-- A polynomial over GF(2) is a number: its binary digit p is the coefficient of x^p.
--
-- row_words u                how many words a row has in the table of a divisor of the degree 64 u: room for u + 1, and 64, 96 or 128 bytes a row
-- multiple_of d g c          the multiple of g, of degree d, of which the digits from d on are c
-- Clearing n d g bytes      rows 256 to 271 of a table of rows of n words have the multiples for c from 0 to 15, rows 272 to 287 the same times 2^4
use Rattle.std.specs.Prelude.{ℕ, ◌+◌, ◌*◌, ◌^◌, ◌<◌, cond, List, eqb}
use Rattle.remainder.specs.Parity.{rest}
use Rattle.table_rows.specs.Rows.{Row}

unfoldable pub row_words : ℕ → ℕ
row_words u = cond (eqb u 4) 7 (u + 1)

unfoldable pub multiple_of : ℕ → ℕ → ℕ → ℕ
multiple_of d g c = c * 2 ^ d + rest d g c

pub record Clearing (n d g : ℕ) (bytes : List ℕ) : Type 0 where
  pub even : (c : ℕ) → c < 16 → Row n bytes (256 + c) (multiple_of d g c)
  pub odd : (c : ℕ) → c < 16 → Row n bytes (272 + c) (multiple_of d g c * 2 ^ 4)

-- Inner promises: the table by which the parity of a message is worked out 64 coefficients at a time. A polynomial over GF(2) is a number: its
-- binary digit p is the coefficient of x^p.
--
-- The parity so far is kept as a partial remainder of u + 1 words, where the divisor has the degree 64 u, so that no place in a word depends on
-- the level. A generator of degree d becomes such a divisor by moving it up by 64 u - d binary digits; its remainders then stand as many higher.
-- A step takes the highest word away and adds what it stands for: the sum of the rows of its eight bytes, each read at its place.
--
-- width d                how many words the parity has for a generator of degree d
-- RowWords u             u is such a number
-- gap d                  by how many binary digits that generator is moved up
-- row_number u g v        the product of v, of eight binary digits, and the remainder of x^(64u + 64) by g
-- divisor_of u bytes      the divisor of a table: the number in row 257
-- Filled u g bytes       rows 0 to 255 are those products, and the others reduce partial remainders by g
-- Rests u bytes          that holds of the divisor of the table
-- Table f t bytes        the divisor is the generator of the level t, moved up
use Rattle.std.specs.Prelude.{◌≡◌, cond, List, ℕ, ◌+◌, ◌-◌, ◌*◌, ◌/◌, ◌^◌, ◌<◌, ◌≤◌, length, drop, leb}
use Rattle.field.specs.declared.Field.{Field}
use Rattle.field.specs.Field.{degree}
use Rattle.code.specs.Generator.{generator, times}
use Rattle.remainder.specs.Parity.{rest}
use Rattle.wide.specs.Bytes.{little}
use Rattle.table_rows.specs.Rows.{row_bytes, Row}
use Rattle.partial.specs.Clearing.{row_words, Clearing}

-- Four words, ten, which is enough for t = 44, or fourteen, which is enough for t = 62.
unfoldable pub width : ℕ → ℕ
width d = cond (leb d 256) 4 (cond (leb d 640) 10 14)

pub data RowWords : ℕ → Type 0 where
  four : RowWords 4
  ten : RowWords 10
  fourteen : RowWords 14

unfoldable pub gap : ℕ → ℕ
gap d = 64 * width d - d

unfoldable pub row_number : ℕ → ℕ → ℕ → ℕ
row_number u g v = times 8 (rest (64 * u) g (2 ^ 64)) v

unfoldable pub divisor_of : ℕ → List ℕ → ℕ
divisor_of u bytes = little (drop (row_bytes (row_words u) * 257 + 8) bytes) (8 * row_words u)

pub record Filled (u g : ℕ) (bytes : List ℕ) : Type 0 where
  pub wide : RowWords u
  pub size : 36864 ≤ length bytes
  pub monic : g / 2 ^ (64 * u) ≡ 1
  pub rows : (v : ℕ) → v < 256 → Row (row_words u) bytes v (row_number u g v)
  pub clearing : Clearing (row_words u) (64 * u) g bytes

abbrev pub Rests : ℕ → List ℕ → Type 0
Rests u bytes = Filled u (divisor_of u bytes) bytes

-- At t = 0 there is nothing to divide by, and no table is made.
pub record Table (f : Field) (t : ℕ) (bytes : List ℕ) : Type 0 where
  pub level : t ≤ 62
  pub rests : 0 < t → Rests (width (degree f * t)) bytes
  pub generates : 0 < t → divisor_of (width (degree f * t)) bytes ≡ generator f t * 2 ^ gap (degree f * t)

-- Inner promises: the values of a remainder at the odd powers of a, side by side: lane i is for a^(2i + 1).
--
-- terms f x n j        the value of the n lowest terms of x at a^j
-- Rows f t n rows      the n first rows, of 64 lanes each, are the powers: lane i of row p is the value of x^p
-- Rowed powers t p s v v is s with row p in place, from a table of powers; the rows before it stay
-- Lanes f t x n v      the lanes of v are the values of the n lowest terms of x
-- Scanned w rows x s v  v is s with the values of the 32 terms of x added in the w first lanes, whatever the field of the rows
-- Raised f t s v       v is s times x^32 in each lane
-- Filled powers t n rows   the n first rows are those of the field of the powers
-- Added w rows p s v    v is s with row p added in the w first lanes
-- Decoding f t powers logs rows    the tables by which a remainder of t m coefficients is decoded: powers, logarithms and rows
use Rattle.std.specs.Prelude.{◌≡◌, List, ℕ, suc, ◌+◌, ◌*◌, ◌≤◌, ◌<◌, length, get_or}
use Rattle.std.specs.Int.Bits.{bit_xor}
use Rattle.bits.specs.Bits.{digits}
use Rattle.field.specs.declared.Field.{Field}
use Rattle.field.specs.Field.{degree, modulus, mul, a^}
use Rattle.field.specs.Tables.{Tables}
use Rattle.powers.specs.Powers.{Powers}
use Rattle.code.specs.Word.{descending}
use Rattle.code.specs.Locations.{power_sum}

unfoldable pub terms : Field → ℕ → ℕ → ℕ → ℕ
terms f x n j = power_sum f (descending (digits x n)) j

module _ (f : Field) (t : ℕ) where
  pub record Rows (n : ℕ) (rows : List ℕ) : Type 0 where
    pub full : length rows ≡ 2048
    pub at : (p i : ℕ) → p < n → i < t → get_or rows (64 * p + i) 0 ≡ a^ f (suc (i + i) * p)

  pub record Decoding (powers logs rows : List ℕ) : Type 0 where
    pub tables : Tables f powers logs
    pub lanes : Rows 32 rows

  pub record Lanes (x n : ℕ) (v : List ℕ) : Type 0 where
    pub full : length v ≡ 64
    pub lane : (i : ℕ) → i < t → get_or v i 0 ≡ terms f x n (suc (i + i))

  pub record Raised (s v : List ℕ) : Type 0 where
    pub full : length v ≡ 64
    pub lane : (i : ℕ) → i < t → get_or v i 0 ≡ mul (degree f) (modulus f) (get_or s i 0) (a^ f (32 * suc (i + i)))

pub record Rowed (powers : List ℕ) (t p : ℕ) (s v : List ℕ) : Type 0 where
  pub full : length v ≡ 2048
  pub at : (i : ℕ) → i < t → get_or v (64 * p + i) 0 ≡ get_or powers (suc (i + i) * p) 0
  pub before : (k : ℕ) → k < 64 * p → get_or v k 0 ≡ get_or s k 0

pub record Filled (powers : List ℕ) (t n : ℕ) (rows : List ℕ) : Type 0 where
  pub full : length rows ≡ 2048
  pub made : (f : Field) → Powers f powers → Rows f t n rows

pub record Added (w : ℕ) (rows : List ℕ) (p : ℕ) (s v : List ℕ) : Type 0 where
  pub full : length v ≡ 64
  pub lane : (i : ℕ) → i < w → get_or v i 0 ≡ bit_xor (get_or s i 0) (get_or rows (64 * p + i) 0)

pub record Scanned (w : ℕ) (rows : List ℕ) (x : ℕ) (s v : List ℕ) : Type 0 where
  pub full : length v ≡ 64
  pub lane : (f : Field) (t i : ℕ) → Rows f t 32 rows → t ≤ w → i < t → get_or v i 0 ≡ bit_xor (get_or s i 0) (terms f x 32 (suc (i + i)))

-- Inner promises: the rows of a table of bytes. A row of n words has eight zeros, then a number in 8 n bytes, the lowest first. So the same number times
-- 2^(8b) is read where a row is read from b bytes earlier on.
--
-- row_bytes n                         how many bytes a row of n words takes
-- Row n bytes v x                    row v of a table of such rows has the number x
-- OnlyRows n from count before after  nothing but `count` rows from row `from` on has changed
use Rattle.std.specs.Prelude.{◌≡◌, List, ℕ, ◌+◌, ◌*◌, drop}
use Rattle.wide.specs.Bytes.{little, Only}

unfoldable pub row_bytes : ℕ → ℕ
row_bytes n = 8 * n + 8

pub record Row (n : ℕ) (bytes : List ℕ) (v x : ℕ) : Type 0 where
  pub zeros : little (drop (row_bytes n * v) bytes) 8 ≡ 0
  pub number : little (drop (row_bytes n * v + 8) bytes) (8 * n) ≡ x

abbrev pub OnlyRows : ℕ → ℕ → ℕ → List ℕ → List ℕ → Type 0
OnlyRows n from count before after = Only (row_bytes n * from) (row_bytes n * count) before after

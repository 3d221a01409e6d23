-- Inner promises: rows that are sums of the rows of powers of 2.
--
-- Sums bits X                    X of a number below 2^bits is the sum of X of the powers of 2 that it is made of
-- Powers n bits X first bytes    of rows of n words those of 0 and of the powers of 2 below 2^bits have X of these, where row `first` is that of 0
-- All n m X first bytes          the rows of the numbers below m do
use Rattle.std.specs.Prelude.{◌≡◌, List, ℕ, ◌+◌, ◌^◌, ◌<◌}
use Rattle.std.specs.Int.Bits.{bit_xor}
use Rattle.table_rows.specs.Rows.{Row}

pub record Sums (bits : ℕ) (X : ℕ → ℕ) : Type 0 where
  pub sum : (i v : ℕ) → i < bits → v < 2 ^ i → X (2 ^ i + v) ≡ bit_xor (X (2 ^ i)) (X v)

pub record Powers (n bits : ℕ) (X : ℕ → ℕ) (first : ℕ) (bytes : List ℕ) : Type 0 where
  pub none : Row n bytes first (X 0)
  pub power : (i : ℕ) → i < bits → Row n bytes (first + 2 ^ i) (X (2 ^ i))

pub record All (n m : ℕ) (X : ℕ → ℕ) (first : ℕ) (bytes : List ℕ) : Type 0 where
  pub row : (v : ℕ) → v < m → Row n bytes (first + v) (X v)

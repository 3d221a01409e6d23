-- Inner promises: a payload that is lent as metadata and data apart. m and d are the two before, m' and d' after; the payload is the
-- one followed by the other.
--
-- Small m d              metadata and data short enough to count their bits
-- Joined m d m' d' l     metadata and data keep their lengths, and are l together
use Rattle.std.specs.Prelude.{◌≡◌, List, ◌++◌, ℕ, ◌<◌, length}

-- Lengths at which no position needs more than 64 bits.
pub record Small (m d : List ℕ) : Type 0 where
  pub metadata : length m < 1099511627776
  pub «data» : length d < 1099511627776

pub record Joined (m d m' d' l : List ℕ) : Type 0 where
  pub metadata : length m' ≡ length m
  pub «data» : length d' ≡ length d
  pub both : m' ++ d' ≡ l

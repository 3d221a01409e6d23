-- Inner promises: parts copied to a table.
--
-- Copied at part before after   after the part was copied to the entries from at on, the table has what it had before them, then the part
use Rattle.std.specs.Prelude.{◌≡◌, List, ◌++◌, ℕ, ◌+◌, length, take}

pub record Copied (at : ℕ) (part before after : List ℕ) : Type 0 where
  pub size : length after ≡ length before
  pub front : take (at + length part) after ≡ take at before ++ part

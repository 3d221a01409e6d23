-- Inner promises: tables of logarithms.
--
-- Logs f table   the entry of the table at each power of a in the field f is its exponent, and the entry at 0 is 0
use Rattle.std.specs.Prelude.{◌≡◌, List, ℕ, ◌<◌, get_or}
use Rattle.field.specs.declared.Field.{Field}
use Rattle.field.specs.Field.{longest, a^}

pub record Logs (f : Field) (table : List ℕ) : Type 0 where
  pub zero-at : get_or table 0 0 ≡ 0
  pub at : (k : ℕ) → k < longest f → get_or table (a^ f k) 0 ≡ k

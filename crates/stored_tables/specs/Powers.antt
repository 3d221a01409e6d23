-- Inner promises: tables of powers.
--
-- Powers f table   the 2^m - 1 first entries of the table are the powers of a in the field f
use Rattle.std.specs.Prelude.{◌≡◌, List, ℕ, ◌<◌, get_or}
use Rattle.field.specs.declared.Field.{Field}
use Rattle.field.specs.Field.{longest, a^}

pub record Powers (f : Field) (table : List ℕ) : Type 0 where
  pub at : (k : ℕ) → k < longest f → get_or table k 0 ≡ a^ f k

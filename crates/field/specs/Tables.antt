-- Inner promises: the tables by which products are made.
--
-- Tables f powers logs   the list powers holds the powers of a in the field f, the list logs the logarithms of its elements
use Rattle.std.specs.Prelude.{◌≡◌, List, ℕ, ◌^◌, ◌<◌, get_or}
use Rattle.field.specs.declared.Field.{Field}
use Rattle.field.specs.Field.{degree, longest, a^}

-- powers-at: entry k of the powers is a^k. logs-below, logs_at: entry x of the logarithms is an exponent of a below 2^m - 1, and that power is x, for each x but 0.
pub record Tables (f : Field) (powers logs : List ℕ) : Type 0 where
  pub powers-at : (k : ℕ) → k < longest f → get_or powers k 0 ≡ a^ f k
  pub logs-below : (x : ℕ) → x < 2 ^ degree f → get_or logs x 0 < longest f
  pub logs_at : (x : ℕ) → 0 < x → x < 2 ^ degree f → a^ f (get_or logs x 0) ≡ x

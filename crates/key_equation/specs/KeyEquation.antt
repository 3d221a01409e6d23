-- Inner promises: what the key equation is asked of. What it holds is `Holds` of crate `algebra`.
--
-- PowerSums f s t    s may be the first 2t power sums of a word of bits: every second is a square
use Rattle.std.specs.Prelude.{◌≡◌, List, ℕ, suc, ◌+◌, ◌<◌, get_or}
use Rattle.field.specs.declared.Field.{Field}
use Rattle.field.specs.Field.{product}
use Rattle.series.specs.Series.{Elements}

pub record PowerSums (f : Field) (s : List ℕ) (t : ℕ) : Type 0 where
  pub elements : Elements f s
  pub squares : (i : ℕ) → suc (i + i) < t + t → get_or s (suc (i + i)) 0 ≡ product f (get_or s i 0) (get_or s i 0)

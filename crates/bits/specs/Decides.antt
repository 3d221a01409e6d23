-- Inner promises: a Bool that answers a question.
--
-- Decides r P    r says whether P holds
use Rattle.std.specs.Prelude.{◌≡◌, Bool, true, false}

pub record Decides (r : Bool) (P : Type 0) : Type 0 where
  pub holds : r ≡ true → P
  pub fails : r ≡ false → P → ⊥

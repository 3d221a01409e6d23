-- Inner promises: locating the errors behind a remainder (document 01, "Remainder").
--
-- Locatable f t n x    x is a remainder of the level t, and n a length that the level allows
-- Descending n w l     the first w entries of l descend and are below n
-- Reversed w l r       the first w entries of r are those of l, the last first
-- answer r             what a finding says: the exponents that it lists, or that there are none
-- Finds f t n x r      the finding r is right for the remainder x and the length n
use Rattle.std.specs.Prelude.{◌≡◌, cond, List, ℕ, ◌-◌, ◌*◌, ◌^◌, ◌≤◌, ◌<◌, length, get_or, take}
use Rattle.field.specs.declared.Field.{Field}
use Rattle.field.specs.Field.{degree}
use Rattle.code.specs.Code.{Fits}
use Rattle.code.specs.Locations.{Locations, exponents, nowhere, locate}
use Rattle.decoder.specs.declared.Found.{Found}

pub record Locatable (f : Field) (t n x : ℕ) : Type 0 where
  pub fits : Fits f t n
  pub room : degree f * t ≤ n
  pub low : x < 2 ^ (degree f * t)

pub record Descending (n w : ℕ) (l : List ℕ) : Type 0 where
  pub falling : (i j : ℕ) → i < j → j < w → get_or l j 0 < get_or l i 0
  pub below : (i : ℕ) → i < w → get_or l i 0 < n

pub record Reversed (w : ℕ) (l r : List ℕ) : Type 0 where
  pub full : length r ≡ 64
  pub at : (i : ℕ) → i < w → get_or r i 0 ≡ get_or l (w - 1 - i) 0

-- The first `count` places are the set; what stands after them says nothing.
unfoldable pub answer : Found → Locations
answer r = cond r.located (exponents (take r.count r.exponents)) nowhere

pub record Finds (f : Field) (t n x : ℕ) (r : Found) : Type 0 where
  pub is : answer r ≡ locate f t n x
  pub few : r.count ≤ t
  pub size : length r.exponents ≡ 64

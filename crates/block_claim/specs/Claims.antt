-- Inner promises: parts of a right claim (document 01, "Claim"); the whole is `Right` of the crate `page_theory`.
--
-- Distinct claims      no two places of a list hold the same exponent
-- Within n claims      each exponent of a list is below n
use Rattle.std.specs.Prelude.{◌≡◌, List, ℕ, ◌<◌, length, get_or}

abbrev pub Distinct : List ℕ → Type 0
Distinct claims = (i j : ℕ) → i < j → j < length claims → get_or claims i 0 ≡ get_or claims j 0 → ⊥

abbrev pub Within : ℕ → List ℕ → Type 0
Within n claims = (i : ℕ) → i < length claims → get_or claims i 0 < n

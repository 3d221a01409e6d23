-- Fragments: the form in which a hardware locator takes a remainder (document 004, "Processing Initialization"; document 02, E9).
-- A remainder is a number: its binary digit p is the coefficient of x^p.
--
-- fragments_of x      the seven fragments of a number: fragment i has its digits from 32 i on, the lowest in bit 0
-- joined fs          the number whose fragments are the list fs
-- Fragments fs       seven numbers of 32 bits
use Rattle.std.specs.Prelude.{◌≡◌, List, [], ◌∷◌, ℕ, ◌+◌, ◌*◌, ◌/◌, ◌%◌, ◌^◌, ◌<◌, length, get_or}
use Rattle.bits.specs.Bits.{run}

unfoldable pub fragments_of : ℕ → List ℕ
fragments_of x = run (λ i. x / 2 ^ (32 * i) % 2 ^ 32) 0 7

-- The first fragment has the lowest digits.
unfoldable pub joined : List ℕ → ℕ
joined [] = 0
joined (f ∷ fs) = joined fs * 2 ^ 32 + f

pub record Fragments (fs : List ℕ) : Type 0 where
  pub count : length fs ≡ 7
  pub small : (i : ℕ) → get_or fs i 0 < 2 ^ 32

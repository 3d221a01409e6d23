-- Reading a page bit by bit from any position (document 01, "Bits and polynomials").
--
-- greatest         the greatest position that a reader can stand at
-- end_of page       the position at which reading ends
-- step_at page p    what a read at position p gives: the bit and the position after it, or `None` at the end
-- bit_in step       the bit that a read gave, 0 at the end
-- before           the bit of a read, and those that follow it
-- walk page n p    the bits that n reads give, each read at the position that the one before gave
use Rattle.std.specs.Prelude.{cond, List, [], ◌∷◌, ℕ, zero, suc, ◌+◌, ◌*◌, Option, Some, None, length, ltb}
use Rattle.bits.specs.Bits.{bit_at}

-- 2^64 - 1: a position is a number of 64 bits.
unfoldable pub greatest : ℕ
greatest = 18446744073709551615

-- Reading ends with the page, which has eight bits for each byte, or at the greatest position where that comes first: a bit
-- there would have no position after it.
unfoldable pub end_of : List ℕ → ℕ
end_of page = cond (ltb (8 * length page) greatest) (8 * length page) greatest

-- The bit at position p with the position after it; from the end on, `None`.
unfoldable pub step_at : List ℕ → ℕ → Option (ℕ × ℕ)
step_at page p = cond (ltb p (end_of page)) (Some (bit_at page p, p + 1)) None

-- The bit that a read gave. Past the end of a page there are zeros.
unfoldable pub bit_in : Option (ℕ × ℕ) → ℕ
bit_in (Some (b, after)) = b
bit_in None = 0

-- The bit of a read before those that follow from the position after it; none at the end.
unfoldable pub before : Option (ℕ × ℕ) → (ℕ → List ℕ) → List ℕ
before (Some (b, after)) following = b ∷ following after
before None following = []

-- The bits that n reads give, from position p on.
unfoldable pub walk : List ℕ → ℕ → ℕ → List ℕ
walk page zero p = []
walk page (suc n) p = before (step_at page p) (walk page n)

-- Where two pages differ (document 02, E10), by the positions of Bits (document 01, "Bits and polynomials"): the tail counts, the mark does
-- not. A bit past the end of a page counts as 0.
--
-- differs k first second p         the pages differ at page position p, which is not in the mark k
-- next_of k first second p n        the first of the n positions from p on at which they differ; none where they are alike there
-- next k size first second p       the first from p on in pages of so many bytes
-- positions_of k first second p n   those of the n positions from p on at which they differ
-- positions_from k size first second p   those from p on in pages of so many bytes
-- positions k size first second    every position at which two pages of so many bytes differ
-- followed k size first second d   the list that starts with the next position d, and goes on behind it
-- Ascending l                      each number of a list is below all that follow it
use Rattle.std.specs.Prelude.{Bool, false, not, cond, ℕ, zero, suc, ◌-◌, ◌*◌, ◌<◌, eqb, Option, Some, None}
use mathlib.Core.List.{List, [], ◌∷◌, Memᴰ}
use Rattle.bits.specs.Bits.{bit_at}
use Rattle.mark.specs.declared.Mark.{Mark}
use Rattle.mark.specs.Mark.{marked}

unfoldable pub differs : Mark → List ℕ → List ℕ → ℕ → Bool
differs k first second p = cond (marked k p) false (not (eqb (bit_at first p) (bit_at second p)))

unfoldable pub next_of : Mark → List ℕ → List ℕ → ℕ → ℕ → Option ℕ
next_of k first second p zero = None
next_of k first second p (suc n) = cond (differs k first second p) (Some p) (next_of k first second (suc p) n)

-- A page has 8 positions a byte.
unfoldable pub next : Mark → ℕ → List ℕ → List ℕ → ℕ → Option ℕ
next k size first second p = next_of k first second p (8 * size - p)

unfoldable pub positions_of : Mark → List ℕ → List ℕ → ℕ → ℕ → List ℕ
positions_of k first second p zero = []
positions_of k first second p (suc n) =
    cond (differs k first second p) (p ∷ positions_of k first second (suc p) n) (positions_of k first second (suc p) n)

unfoldable pub positions_from : Mark → ℕ → List ℕ → List ℕ → ℕ → List ℕ
positions_from k size first second p = positions_of k first second p (8 * size - p)

unfoldable pub positions : Mark → ℕ → List ℕ → List ℕ → List ℕ
positions k size first second = positions_from k size first second 0

unfoldable pub followed : Mark → ℕ → List ℕ → List ℕ → Option ℕ → List ℕ
followed k size first second (Some p) = p ∷ positions_from k size first second (suc p)
followed k size first second None = []

pub data Ascending : List ℕ → Type 0 where
  none : Ascending []
  below : {p : ℕ} {l : List ℕ} → ((q : ℕ) → Memᴰ q l → p < q) → Ascending l → Ascending (p ∷ l)

-- What the report of a comparison shows of a block (document 02, E10): its flips in the first page, in the second, and the change.
--
-- shown o                     what is shown of a block by its outcome
-- difference first second     second minus first, an integer
-- change_of first second       the change by what is shown of the two
-- line_by first second         the line by what is shown of the two
-- line q first second b       the line of block b of two pages under the plan q
-- flips_of n                   what is shown of a block by its count, as looking writes it
-- line_of first second         the line by two counts; it is `line` (proofs/Showing, line-shown)
use Rattle.std.specs.Prelude.{cond, List, ℕ, ◌-◌, ℤ, pos, ◌-ℤ◌, eqb, ltb, Option, Some, None}
use Rattle.layout_plan.specs.declared.Plan.{Plan}
use Rattle.code.specs.Outcome.{Outcome, good, erased, ruined}
use Rattle.page_theory.specs.Reading.{outcome}
use Rattle.changes.specs.declared.BlockLine.{BlockLine}

-- An erased block counts its zeros; a ruined one has no number.
unfoldable pub shown : Outcome → Option ℕ
shown (good m n) = Some n
shown (erased m z) = Some z
shown ruined = None

-- Over the integers: no width, no wrapping.
unfoldable pub difference : ℕ → ℕ → ℤ
difference first second = pos second -ℤ pos first

-- Where the block is ruined in one page there is no change.
unfoldable pub change_of : Option ℕ → Option ℕ → Option ℤ
change_of (Some a) (Some b) = Some (difference a b)
change_of (Some a) None = None
change_of None b = None

unfoldable pub line_by : Option ℕ → Option ℕ → BlockLine
line_by first second = record { first = first; second = second; change = change_of first second }

unfoldable pub line : Plan → List ℕ → List ℕ → ℕ → BlockLine
line q first second b = line_by (shown (outcome q first b)) (shown (outcome q second b))

-- A count is the flips, 128 plus the zeros of an erased block, or 255 of a ruined one (document 02, E1 and E6).
unfoldable pub flips_of : ℕ → Option ℕ
flips_of n = cond (eqb n 255) None (cond (ltb n 128) (Some n) (Some (n - 128)))

unfoldable pub line_of : ℕ → ℕ → BlockLine
line_of first second = line_by (flips_of first) (flips_of second)

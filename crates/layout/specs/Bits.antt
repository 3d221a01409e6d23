-- Where a page bit belongs, and where a code bit lies (document 01, "Bits and polynomials" and "Bits").
-- Position p of a page is byte p / 8, bit 7 - (p mod 8). A block of n bits that starts at s has at position s + j the coefficient of x^(n-1-j).
-- The tail is the bits of no block: those after the last one, which document 01 calls so, and the pads of sectors (document 02, E12). Blocks live in
-- the stream, which leaves the mark out (document 02, E7): a position of the page is asked for by the stream position that stands there, unless it is
-- in the mark.
--
-- within q b p            stream position p lies in block b
-- block_below q n p        the block in which p lies, one of the first n; the number of blocks where it lies in none of them
-- block_of q p             the block in which p lies; the number of blocks where it lies in none
-- exponent_at q b p        the exponent that block b has at stream position p
-- position_at q b e        the stream position of the exponent e of block b
-- located q p             block and exponent of a stream position, or the tail
-- bit_in, bit_answer        the answer to a position, under a plan and for a record
-- position_in, position_answer   the answer to block and exponent, under a plan and for a record
use Rattle.layout.specs.declared.Refusal.{Refusal}
use Rattle.layout_plan.specs.declared.Layout.{Layout}
use Rattle.std.specs.Prelude.{ℕ, zero, suc, ◌+◌, ◌-◌, ◌*◌, Bool, false, cond, leb, ltb, Result, Ok, Err}
use Rattle.mark.specs.Mark.{place, marked, streamed}
use Rattle.layout_plan.specs.declared.Plan.{Plan}
use Rattle.layout.specs.declared.Refusal.TheVariants.{Range}
use Rattle.layout.specs.declared.BitPlace.{BitPlace}
use Rattle.layout.specs.declared.BitPlace.TheVariants as bit
use Rattle.layout_plan.specs.Plan.{plan_of, covered, start}
use Rattle.layout_plan.specs.Record.{Words}
use Rattle.layout.specs.Acceptance.{acceptance}

-- covered bits of a block: from its start on, as many as it has
unfoldable pub within : Plan → ℕ → ℕ → Bool
within q b p = cond (leb (start q b) p) (ltb p (start q b + covered q b)) false

unfoldable pub block_below : Plan → ℕ → ℕ → ℕ
block_below q zero p = q.blocks
block_below q (suc b) p = cond (within q b p) b (block_below q b p)

unfoldable pub block_of : Plan → ℕ → ℕ
block_of q p = block_below q q.blocks p

-- at position s + j the coefficient of x^(n-1-j)
unfoldable pub exponent_at : Plan → ℕ → ℕ → ℕ
exponent_at q b p = covered q b - 1 - (p - start q b)

-- and the other way round
unfoldable pub position_at : Plan → ℕ → ℕ → ℕ
position_at q b e = start q b + (covered q b - 1 - e)

unfoldable pub located : Plan → ℕ → BitPlace
located q p = cond (ltb (block_of q p) q.blocks) (bit.InBlock (block_of q p) (exponent_at q (block_of q p) p)) bit.Tail

-- a position below 8 x PAGE_SIZE
unfoldable pub bit_in : Plan → ℕ → Result BitPlace Refusal
bit_in q p = cond (ltb p (8 * q.size)) (Ok (cond (marked q.mark p) bit.Mark (located q (streamed q.mark p)))) (Err Range)

unfoldable pub bit_for : Result Layout Refusal → ℕ → Result BitPlace Refusal
bit_for (Ok l) p = bit_in (plan_of l) p
bit_for (Err r) p = Err r

unfoldable pub bit_answer : Words → ℕ → Result BitPlace Refusal
bit_answer w p = bit_for (acceptance w) p

-- a block of the page and an exponent below its length
unfoldable pub position_in : Plan → ℕ → ℕ → Result ℕ Refusal
position_in q b e =
    cond (ltb b q.blocks)
    (cond (ltb e (covered q b)) (Ok (place q.mark (position_at q b e))) (Err Range))
    (Err Range)

unfoldable pub position_for : Result Layout Refusal → ℕ → ℕ → Result ℕ Refusal
position_for (Ok l) b e = position_in (plan_of l) b e
position_for (Err r) b e = Err r

unfoldable pub position_answer : Words → ℕ → ℕ → Result ℕ Refusal
position_answer w b e = position_for (acceptance w) b e

-- What the bits of a page are (document 02, E2): metadata, data or parity, the tail or the mark. The payload is the metadata followed by the
-- data; a block has its message first and then its parity. Position p of a page is byte p / 8, bit 7 - (p mod 8) (document 01, "Bits and
-- polynomials").
--
-- place_at part b i p      position p of the page, of a part, of block b, and of byte i of metadata or data
-- message_place q b j p    the same of bit j of the payload
-- covered_place q b e p    the same of the exponent e of block b
-- placed q p x             a position by its place in Bits
-- bit_part q p             the answer to a position under a plan, by what Bits answers
-- part_for, explain_bit words p     the answer to a position for a record
use Rattle.std.specs.Prelude.{cond, ℕ, ◌+◌, ◌-◌, ◌*◌, ◌/◌, ◌%◌, length, ltb, Result, Ok, Err}
use Rattle.replies.specs.declared.Refusal.TheVariants as row
use Rattle.layout_plan.specs.declared.Plan.{Plan}
use Rattle.layout_plan.specs.declared.Layout.{Layout}
use Rattle.layout.specs.declared.BitPlace.{BitPlace}
use Rattle.layout.specs.declared.BitPlace.TheVariants as bit
use Rattle.layout.specs.declared.Refusal.{Refusal}
use Rattle.layout_plan.specs.Plan.{plan_of, bits, covered, from}
use Rattle.layout_plan.specs.Record.{Words}
use Rattle.layout.specs.Acceptance as layout
use Rattle.layout.specs.Bits.{bit_in}
use Rattle.explain.specs.declared.About.TheVariants as about
use Rattle.explain.specs.declared.Part.{Part}
use Rattle.explain.specs.declared.Part.TheVariants as part
use Rattle.explain.specs.declared.Place.{Place}
use Rattle.explain.specs.declared.Why.{Why}
use Rattle.explain.specs.Reasons.{why, why_of}

unfoldable pub place_at : Part → ℕ → ℕ → ℕ → Place
place_at k b i p = record { part = k; block = b; byte = p / 8; bit = 7 - p % 8; index = i }

-- Metadata before data, in whole bytes.
unfoldable pub message_place : Plan → ℕ → ℕ → ℕ → Place
message_place q b j p =
    cond (ltb (j / 8) q.metadata) (place_at part.Metadata b (j / 8) p) (place_at part.Data b (j / 8 - q.metadata) p)

-- The lowest position of a block has the highest exponent; the first bits are the message.
unfoldable pub covered_place : Plan → ℕ → ℕ → ℕ → Place
covered_place q b e p =
    cond (ltb (covered q b - 1 - e) (bits q b))
    (message_place q b (from q b + (covered q b - 1 - e)) p)
    (place_at part.Parity b 0 p)

-- A bit of no block has no block and no byte of metadata or data beside it.
unfoldable pub placed : Plan → ℕ → BitPlace → Place
placed q p (bit.InBlock b e) = covered_place q b e p
placed q p bit.Tail = place_at part.Tail 0 0 p
placed q p bit.Mark = place_at part.Mark 0 0 p

-- 7: a position of 8 x PAGE_SIZE or more.
unfoldable pub part_by : Plan → ℕ → Result BitPlace Refusal → Result Place Why
part_by q p (Ok x) = Ok (placed q p x)
part_by q p (Err r) = Err (why row.OutOfRange about.Position p (8 * q.size))

unfoldable pub bit_part : Plan → ℕ → Result Place Why
bit_part q p = part_by q p (bit_in q p)

unfoldable pub part_for : ℕ → ℕ → Result Layout Refusal → ℕ → Result Place Why
part_for e n (Ok l) p = bit_part (plan_of l) p
part_for e n (Err r) p = Err (why_of e n r)

unfoldable pub explain_bit : Words → ℕ → Result Place Why
explain_bit w p = part_for w.edition (length w.bytes) (layout.acceptance w) p

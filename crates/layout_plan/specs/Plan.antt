-- The plan of a page (document 01, "Layout words"; document 02, E12): how many blocks, what each is made of, where each starts.
--
-- shape_with message f t     the shape of a block of so many message bits in the field f, with its covered bits
-- shape_of metadata fields   the shape of a block that starts with so many bytes of metadata
-- later_shape f              the shape of a later block; of no bits where NBLOCKS is 0
-- data_bytes f               bytes of data in a page
-- plan_for f                 the plan that the fields f come to, with its sums
-- layout_for f               the layout of the fields f
-- plan_of l                  the plan that is kept with the layout l
-- Sums f q                  the numbers kept in the plan q are document 01's sums of the fields f
-- shape q b                 the shape of block b of the plan q
-- bits q b, field q b, level q b, covered q b, pads q b    its message bits, its field, its level t, its covered bits, its pad bits
-- start q b                 the stream position of its first bit
-- used q                    bits of all blocks together, with their pads
-- room q                    bits of the page without the mark
-- from q b                  where its message starts among the bits of the payload
-- payload q                 bytes of the payload, metadata and data
-- Summed s                  the number of covered bits kept in the shape s is that of its message and its parity
-- Valid q                   the blocks lie one after the other within the stream of the page, each with a code long enough, and hold the payload;
--                           the mark lies in the page; the kept numbers are the sums of what the blocks are made of
use Rattle.std.specs.Prelude.{◌≡◌, cond, ℕ, zero, suc, ◌+◌, ◌-◌, ◌*◌, ◌≤◌, ◌<◌, eqb, ltb}
use Rattle.field.specs.Field.{degree, longest}
use Rattle.field.specs.declared.Field.{Field}
use Rattle.field.specs.declared.Field.TheVariants.{Thirteen}
use Rattle.layout_plan.specs.declared.BlockFields.{BlockFields}
use Rattle.layout_plan.specs.declared.Fields.{Fields}
use Rattle.layout_plan.specs.declared.Layout.{Layout}
use Rattle.layout_plan.specs.declared.Shape.{Shape}
use Rattle.layout_plan.specs.declared.Plan.{Plan}

-- A block is its message followed by m times t parity bits: its covered bits. Under layout words the next block follows at once.
unfoldable pub shape_with : ℕ → Field → ℕ → Shape
shape_with message f t = record { message = message; covered = message + degree f * t; pads = 0; field = f; level = t }

-- The message is the metadata followed by the data; t is twice the level field, 0 where there is no ECC.
unfoldable pub shape_of : ℕ → BlockFields → Shape
shape_of metadata fields = shape_with (8 * (metadata + 4 * fields.units)) fields.gf (2 * fields.ecc)

-- Every later message is data only. Where NBLOCKS is 0 its fields are not examined and its length counts as 0.
unfoldable pub later_shape : Fields → Shape
later_shape f = cond (eqb f.nblocks 0) (shape_with 0 Thirteen 0) (shape_of 0 f.later)

-- 4 x (DATA0_SIZE + NBLOCKS x DATAN_SIZE)
unfoldable pub data_bytes : Fields → ℕ
data_bytes f = 4 * (f.first.units + f.nblocks * f.later.units)

-- NBLOCKS counts the blocks after block 0.
unfoldable pub plan_for : Fields → Plan
plan_for f = record {
  blocks = f.nblocks + 1;
  firsts = 1;
  size = f.page;
  metadata = f.metadata;
  «data» = data_bytes f;
  used = (shape_of f.metadata f.first).covered + f.nblocks * (later_shape f).covered;
  first = shape_of f.metadata f.first;
  later = later_shape f;
  mark = f.mark;
}

-- A layout keeps its sums (document 02, E8).
unfoldable pub layout_for : Fields → Layout
layout_for f = record { plan = plan_for f }

unfoldable pub plan_of : Layout → Plan
plan_of l = l.plan

-- Data length, length of block 0, length of a later block and used bits, as document 01 adds them up.
pub record Sums (f : Fields) (q : Plan) : Type 0 where
  pub «data» : q.«data» ≡ 4 * (f.first.units + f.nblocks * f.later.units)
  pub first : q.first.covered ≡ 8 * (f.metadata + 4 * f.first.units) + degree f.first.gf * (2 * f.first.ecc)
  pub none : f.nblocks ≡ 0 → q.later.covered ≡ 0
  pub later : 0 < f.nblocks → q.later.covered ≡ 8 * (4 * f.later.units) + degree f.later.gf * (2 * f.later.ecc)
  pub used : q.used ≡ q.first.covered + f.nblocks * q.later.covered

-- Under layout words block 0 has a shape of its own and the later blocks share one; sectors share one but for the last.
unfoldable pub shape : Plan → ℕ → Shape
shape q b = cond (ltb b q.firsts) q.first q.later

abbrev pub bits : Plan → ℕ → ℕ
bits q b = (shape q b).message

abbrev pub field : Plan → ℕ → Field
field q b = (shape q b).field

abbrev pub level : Plan → ℕ → ℕ
level q b = (shape q b).level

abbrev pub covered : Plan → ℕ → ℕ
covered q b = (shape q b).covered

abbrev pub pads : Plan → ℕ → ℕ
pads q b = (shape q b).pads

-- Each block follows the pads of the one before. Under layout words there are none: no gap and no rounding to bytes.
unfoldable pub start : Plan → ℕ → ℕ
start q zero = 0
start q (suc b) = start q b + (covered q b + pads q b)

-- Rule 4 compares these with the bits of the page without the mark.
abbrev pub used : Plan → ℕ
used q = q.used

-- 8 x (PAGE_SIZE - length) bits, of document 02, E7
unfoldable pub room : Plan → ℕ
room q = 8 * (q.size - q.mark.length)

-- The payload is cut into the messages of the blocks, block 0's first.
unfoldable pub from : Plan → ℕ → ℕ
from q zero = 0
from q (suc b) = from q b + bits q b

unfoldable pub payload : Plan → ℕ
payload q = q.metadata + q.«data»

abbrev pub Summed : Shape → Type 0
Summed s = s.covered ≡ s.message + degree s.field * s.level

pub record Valid (q : Plan) : Type 0 where
  pub order : (b c : ℕ) → b < c → c < q.blocks → start q b + covered q b ≤ start q c
  pub ends : (b : ℕ) → b < q.blocks → start q b + covered q b ≤ room q
  pub fits : used q ≤ room q
  pub inside : q.mark.offset + q.mark.length ≤ q.size
  pub short : (b : ℕ) → b < q.blocks → 0 < level q b → covered q b ≤ longest (field q b)
  pub strong : (b : ℕ) → b < q.blocks → level q b ≤ 62
  pub filled : (b : ℕ) → b < q.blocks → 0 < bits q b
  pub whole : from q q.blocks ≡ 8 * payload q
  pub sums : (b : ℕ) → Summed (shape q b)
  pub total : used q ≡ start q q.blocks

-- The fields of a layout record (document 01, "Layout words"; document 02, E7): two words or three, word 0 first, most significant byte and
-- field first. The third word has the mark; a record of two words means offset 0 and length 0.
--
-- Words                   what is handed in of a layout: the edition and the record; words_of edition record
-- record_length n          a layout record may have n bytes
-- field_of bit             the field that a GF bit chooses
-- block_fields high low    level field, GF and data size, from the low half of a word, whose bytes are `high` and `low`
-- mark_at b8 b9 b10        mark offset and mark length
-- mark_in record           the mark of a record of eight or twelve bytes
-- fields_at b0 .. b7 k z e   the fields of eight bytes, with the mark k and the zero bits z, under the edition e
-- fields_in words          the fields of a record of eight or twelve bytes, and the edition
-- layout_of words          their layout
use Rattle.std.specs.Prelude.{ℕ, ◌+◌, ◌*◌, ◌/◌, ◌%◌, List, Bool, true, cond, get_or, eqb}
use Rattle.field.specs.declared.Field.{Field}
use Rattle.field.specs.declared.Field.TheVariants.{Thirteen, Fourteen}
use Rattle.mark.specs.declared.Mark.{Mark}
use Rattle.layout_plan.specs.declared.BlockFields.{BlockFields}
use Rattle.layout_plan.specs.declared.Fields.{Fields}
use Rattle.layout_plan.specs.declared.Layout.{Layout}
use Rattle.layout_plan.specs.Plan.{layout_for}

-- The edition is handed in beside the record (document 02, E13).
pub record Words : Type 0 where
  pub edition : ℕ
  pub bytes : List ℕ

abbrev pub words_of : ℕ → List ℕ → Words
words_of edition rec = record { edition = edition; bytes = rec }

-- A record is of two words or of three.
unfoldable pub record_length : ℕ → Bool
record_length n = cond (eqb n 8) true (eqb n 12)

-- GF: 0 is m = 13, 1 is m = 14
unfoldable pub field_of : ℕ → Field
field_of bit = cond (eqb bit 0) Thirteen Fourteen

-- bits 15 to 11 are the level field, bit 10 is GF, bits 9 to 0 are the data size
unfoldable pub block_fields : ℕ → ℕ → BlockFields
block_fields high low = record {
  ecc = high / 8;
  gf = field_of (high / 4 % 2);
  units = high % 4 * 256 + low;
}

-- mark offset (16 bits), mark length (8 bits)
unfoldable pub mark_at : ℕ → ℕ → ℕ → Mark
mark_at b8 b9 b10 = record { offset = b8 * 256 + b9; length = b10 }

-- bytes 0 to 3 are word 0, bytes 4 to 7 are word 1
unfoldable pub fields_at : ℕ → ℕ → ℕ → ℕ → ℕ → ℕ → ℕ → ℕ → Mark → ℕ → ℕ → Fields
fields_at b0 b1 b2 b3 b4 b5 b6 b7 k z e = record {
  nblocks = b0;
  metadata = b1;
  first = block_fields b2 b3;
  page = b4 * 256 + b5;
  later = block_fields b6 b7;
  mark = k;
  zeros = z;
  edition = e;
}

-- bytes 8 to 11 are the third word; a byte that is not there counts as 0
unfoldable pub mark_in : List ℕ → Mark
mark_in rec = mark_at (get_or rec 8 0) (get_or rec 9 0) (get_or rec 10 0)

-- the fields of the bytes of a record, under an edition
unfoldable pub fields_under : ℕ → List ℕ → Fields
fields_under e rec =
    fields_at (get_or rec 0 0) (get_or rec 1 0) (get_or rec 2 0) (get_or rec 3 0)
    (get_or rec 4 0) (get_or rec 5 0) (get_or rec 6 0) (get_or rec 7 0)
    (mark_in rec) (get_or rec 11 0) e

abbrev pub fields_in : Words → Fields
fields_in w = fields_under w.edition w.bytes

unfoldable pub layout_of : Words → Layout
layout_of w = layout_for (fields_in w)

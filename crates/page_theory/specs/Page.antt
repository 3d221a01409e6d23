-- Pages as they are written (document 01, "Layout words", "Bits and polynomials" and "The code"; document 02, E7). Blocks and tail live in the
-- stream, which leaves the mark out (crate `mark`).
-- A payload is the metadata followed by the data, in one list of bytes. Its bits are counted like those of a page.
--
-- message q payload b     the message of block b
-- written q payload b     block b as it is written: its message followed by its parity
-- written_bit q payload p  the bit at stream position p of the written page
-- page_bit q lent payload p    the bit at page position p of the page that is written over the lent one
-- page_of q lent payload   the page that is written over the lent one
-- block_word q page b      the word that stands in block b of a page: its covered bits
use Rattle.std.specs.Prelude.{Bool, true, cond, List, ◌++◌, ℕ, ◌-◌, get_or, ltb}
use Rattle.bits.specs.Bits.{bit_of, run, bytes}
use Rattle.mark.specs.Mark.{marked, streamed, stream_bit}
use Rattle.layout_plan.specs.declared.Plan.{Plan}
use Rattle.layout_plan.specs.Plan.{bits, field, level, covered, start, from}
use Rattle.layout.specs.Bits.{block_of}
use Rattle.code.specs.Word.{Word}
use Rattle.code.specs.Generator.{parity}

-- The payload is cut into the messages of the blocks, block 0's first.
unfoldable pub message : Plan → List ℕ → ℕ → Word
message q payload b = run (bit_of payload) (from q b) (bits q b)

unfoldable pub written : Plan → List ℕ → ℕ → Word
written q payload b = message q payload b ++ parity (field q b) (level q b) (message q payload b)

-- The bit of the block in which the position lies. The tail, document 01's word for the bits of no block, is written as ones; the pads of blocks belong
-- to it (document 02, E12).
unfoldable pub written_bit : Plan → List ℕ → ℕ → Bool
written_bit q payload p =
    cond (ltb (block_of q p) q.blocks) (get_or (written q payload (block_of q p)) (p - start q (block_of q p)) true) true

-- Writing never touches the mark: it holds what the lent page held.
unfoldable pub page_bit : Plan → List ℕ → List ℕ → ℕ → Bool
page_bit q lent payload p = cond (marked q.mark p) (bit_of lent p) (written_bit q payload (streamed q.mark p))

unfoldable pub page_of : Plan → List ℕ → List ℕ → List ℕ
page_of q lent payload = bytes (page_bit q lent payload) q.size

-- The lowest address carries the highest power.
unfoldable pub block_word : Plan → List ℕ → ℕ → Word
block_word q page b = run (stream_bit q.mark page) (start q b) (covered q b)

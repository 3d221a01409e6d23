-- The factory's mark (document 02, E7). The bit stream runs over the page without the mark's bytes, so a stream position is a page
-- position before the mark, and stands as many bits further on from there on. Blocks live in the stream; only these definitions know
-- the mark.
--
-- place k p            the page position of stream position p
-- marked k p           page position p lies in the mark
-- streamed k p         the stream position of page position p, which is not in the mark
-- stream_bit k page p   the bit at stream position p of a page
-- near k s n           how many of the n stream bits from position s on lie before the mark
-- put_bit, put          a page after a word was put at a stream position
-- InStream k page s n  the n stream bits from position s on lie in a page, and so does the mark
use Rattle.std.specs.Prelude.{Bool, false, cond, List, ℕ, ◌+◌, ◌-◌, ◌*◌, ◌<◌, ◌≤◌, length, get_or, eqb, leb, ltb}
use Rattle.bits.specs.Bits.{bit_of, bytes}
use Rattle.mark.specs.declared.Mark.{Mark}

-- The mark's bytes are left out.
unfoldable pub place : Mark → ℕ → ℕ
place k p = cond (ltb p (8 * k.offset)) p (p + 8 * k.length)

unfoldable pub marked : Mark → ℕ → Bool
marked k p = cond (leb (8 * k.offset) p) (ltb p (8 * (k.offset + k.length))) false

-- The other way round.
unfoldable pub streamed : Mark → ℕ → ℕ
streamed k p = cond (ltb p (8 * k.offset)) p (p - 8 * k.length)

unfoldable pub stream_bit : Mark → List ℕ → ℕ → Bool
stream_bit k page p = bit_of page (place k p)

-- The run's first bits stand where they are counted; the others stand behind the mark.
unfoldable pub near : Mark → ℕ → ℕ → ℕ
near k s n = cond (eqb k.length 0) n (cond (leb (s + n) (8 * k.offset)) n (8 * k.offset - s))

-- In the mark what was there; elsewhere the word's bit where it covers the stream position.
unfoldable pub put_bit : Mark → List ℕ → ℕ → List Bool → ℕ → Bool
put_bit k page s w p =
    cond (marked k p) (bit_of page p) (cond (leb s (streamed k p)) (get_or w (streamed k p - s) (bit_of page p)) (bit_of page p))

-- The page after a word was put at stream position s. Its length and its mark are as before.
unfoldable pub put : Mark → List ℕ → ℕ → List Bool → List ℕ
put k page s w = bytes (put_bit k page s w) (length page)

pub record InStream (k : Mark) (page : List ℕ) (s n : ℕ) : Type 0 where
  pub inside : k.offset + k.length ≤ length page
  pub ends : s + n + 8 * k.length ≤ 8 * length page
  pub fits : s + n + 8 * k.length < 18446744073709551616

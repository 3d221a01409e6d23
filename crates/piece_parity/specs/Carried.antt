-- The parity that is carried from one piece of a message to the next (document 02, E4).
-- A polynomial over GF(2) is a number: its binary digit p is the coefficient of x^p.
--
-- bits_of l           the bits of a list of bytes, as a word
-- carried f t r w    the remainder r with the bits w after those that it stands for: r times x^(length w), plus the parity of w
use Rattle.std.specs.Prelude.{false, List, ◌++◌, ℕ, ◌*◌, length, replicate}
use Rattle.std.specs.Int.Bits.{bit_xor}
use Rattle.bits.specs.Bits.{bit_of, run}
use Rattle.field.specs.declared.Field.{Field}
use Rattle.field.specs.Field.{degree}
use Rattle.code.specs.Word.{Word}
use Rattle.code.specs.Generator.{generator, remainder}
use Rattle.remainder.specs.Remainder.{remainder_from}

unfoldable pub bits_of : List ℕ → Word
bits_of l = run (bit_of l) 0 (8 * length l)

-- Both summands are remainders by the generator of the level.
unfoldable pub carried : Field → ℕ → ℕ → Word → ℕ
carried f t r w =
    bit_xor (remainder_from (degree f * t) (generator f t) r (replicate (length w) false)) (remainder f t (w ++ replicate (degree f * t) false))

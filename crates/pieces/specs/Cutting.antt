-- A message fed in pieces (document 02, E4): what the theorem of proofs/Cutting.antt speaks of.
--
-- joined ps             the pieces one after the other
-- feeds s ps            the state after the pieces, fed one after the other
-- parity_in f t message  the parity of a message (code/Generator) as document 01 hands a remainder in: the bytes that finishing gives
use Rattle.std.specs.Prelude.{List, [], ◌∷◌, ◌++◌, ℕ, ◌*◌}
use Rattle.bits.specs.Bits.{number}
use Rattle.field.specs.declared.Field.{Field}
use Rattle.field.specs.Field.{degree}
use Rattle.code.specs.Generator.{parity}
use Rattle.remainder.specs.Remainder.{bytes_for, bytes_of}
use Rattle.piece_parity.specs.Carried.{bits_of}
use Rattle.piece_rules.specs.declared.State.{State}
use Rattle.piece_states.specs.Calls.{feed_of}

unfoldable pub joined : List (List ℕ) → List ℕ
joined [] = []
joined (p ∷ ps) = p ++ joined ps

unfoldable pub feeds : State → List (List ℕ) → State
feeds s [] = s
feeds s (p ∷ ps) = feeds (feed_of s p).state ps

-- The word of mt bits that a page has after the message (page/Writing `encoded`), right-aligned.
unfoldable pub parity_in : Field → ℕ → List ℕ → List ℕ
parity_in f t message = bytes_of (bytes_for (degree f * t)) (number (parity f t (bits_of message)))

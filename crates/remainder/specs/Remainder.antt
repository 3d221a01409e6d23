-- The remainder of a word, worked out from any remainder on (document 01, "The code"), and remainders as bytes (document 01, "Remainder").
-- A polynomial over GF(2) is a number: its binary digit p is the coefficient of x^p.
--
-- remainder_from d g r w    the remainder by g of degree d, from the remainder r on, after the coefficients w
-- bytes_for bits            how many bytes hold so many coefficients
-- number_of l               the number whose binary digits are the bits of the bytes l
-- bytes_of n x              the n bytes whose bits are the lowest 8n binary digits of x
use Rattle.std.specs.Prelude.{false, List, [], ◌∷◌, ℕ, ◌+◌, ◌*◌, ◌/◌, length, get_or}
use Rattle.bits.specs.Bits.{bit_of, run, number, digits, bytes}
use Rattle.code.specs.Word.{Word}
use Rattle.code.specs.Generator.{remainder_step}

-- One step of the division for each bit of the word, the first bit first.
unfoldable pub remainder_from : ℕ → ℕ → ℕ → Word → ℕ
remainder_from d g r [] = r
remainder_from d g r (b ∷ w) = remainder_from d g (remainder_step d g r b) w

-- A remainder of mt coefficients is handed in as mt / 8 bytes, rounded up.
unfoldable pub bytes_for : ℕ → ℕ
bytes_for bits = (bits + 7) / 8

-- A remainder handed in as bytes: the highest coefficient first, and the lowest one in the last bit of the last byte.
unfoldable pub number_of : List ℕ → ℕ
number_of l = number (run (bit_of l) 0 (8 * length l))

unfoldable pub bytes_of : ℕ → ℕ → List ℕ
bytes_of n x = bytes (λ p. get_or (digits x (8 * n)) p false) n

-- Bytes as they are printed: two hexadecimal digits each, the letters capital.
--
-- char_of d    the character of the lowest four bits of d
-- hex_of b     the two characters of a byte
use Rattle.std.specs.Prelude.{cond, List, [], ◌∷◌, ℕ, ◌+◌, ◌/◌, ◌%◌, ltb}

unfoldable pub char_of : ℕ → ℕ
char_of d = cond (ltb (d % 16) 10) (48 + d % 16) (55 + d % 16)

unfoldable pub hex_of : ℕ → List ℕ
hex_of b = char_of (b / 16) ∷ char_of b ∷ []

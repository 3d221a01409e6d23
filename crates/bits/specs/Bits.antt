-- Bits of numbers and of pages, runs of bits, and pages given by their bits (document 01, "Bits and polynomials").
-- A page is a list of bytes; a word is a list of Bools, the lowest position first.
--
-- bit x k              bit k of a number, bit 0 being the least significant
-- bit_at page p         the bit at stream position p, as a number
-- bit_of page p         the same bit as a Bool
-- run f s n            f s, f (s + 1), .., n of them
-- ones n               n ones
-- digit b              a Bool as a number
-- number w             the number whose binary digits are the word w, highest first
-- digits x n           the n lowest binary digits of x, highest first
-- bytes f n            the n bytes whose bit at stream position p is f p
-- Bytes n l            l is n bytes
-- placed_bit, placed    a page after a word was put at a position
-- Inside page s n      n bits from position s on lie inside a page
use Rattle.std.specs.Prelude.{◌≡◌, Bool, true, cond, List, [], ◌∷◌, ℕ, zero, suc, ◌+◌, ◌-◌, ◌*◌, ◌/◌, ◌%◌, ◌^◌, ◌<◌, ◌≤◌, length, get_or, replicate, eqb, leb}

-- Bit k of a number; bit 0 is the least significant.
unfoldable pub bit : ℕ → ℕ → ℕ
bit x k = x / 2 ^ k % 2

-- The bit at stream position p: byte p / 8, bit 7 - p mod 8. Past the end it is 0.
unfoldable pub bit_at : List ℕ → ℕ → ℕ
bit_at page p = bit (get_or page (p / 8) 0) (7 - p % 8)

-- The same bit as a Bool.
unfoldable pub bit_of : List ℕ → ℕ → Bool
bit_of page p = eqb (bit_at page p) 1

-- The n values of f from s on. `run (bit_of page) s n` is the word of n bits that starts at position s.
unfoldable pub run : {A : Type 0} → (ℕ → A) → ℕ → ℕ → List A
run f s zero = []
run f s (suc n) = f s ∷ run f (suc s) n

-- n ones: what the tail of a page is written as (document 01, "Layout words").
unfoldable pub ones : ℕ → List Bool
ones n = replicate n true

-- 1 for true, 0 for false.
unfoldable pub digit : Bool → ℕ
digit b = cond b 1 0

-- The number whose binary digits are a word, the highest first.
unfoldable pub number : List Bool → ℕ
number [] = 0
number (b ∷ w) = digit b * 2 ^ length w + number w

-- The n lowest binary digits of a number, the highest first.
unfoldable pub digits : ℕ → ℕ → List Bool
digits x zero = []
digits x (suc n) = eqb (bit x n) 1 ∷ digits x n

-- n bytes given by their bits: byte i has those from stream position 8 * i on, the most significant first.
unfoldable pub bytes : (ℕ → Bool) → ℕ → List ℕ
bytes f n = run (λ i. number (run f (8 * i) 8)) 0 n

-- A list of n numbers, each a byte.
pub record Bytes (n : ℕ) (l : List ℕ) : Type 0 where
  pub count : length l ≡ n
  pub small : (i : ℕ) → get_or l i 0 < 256

-- The bit at position p after a word was put at position s: where the word covers p its bit, elsewhere the page's.
unfoldable pub placed_bit : List ℕ → ℕ → List Bool → ℕ → Bool
placed_bit page s w p = cond (leb s p) (get_or w (p - s) (bit_of page p)) (bit_of page p)

-- The page after a word was put at position s. Its length is as before; bits of the word past its end are lost.
unfoldable pub placed : List ℕ → ℕ → List Bool → List ℕ
placed page s w = bytes (placed_bit page s w) (length page)

-- The n bits from position s on lie inside a page, and the position after them is a number of 64 bits.
pub record Inside (page : List ℕ) (s n : ℕ) : Type 0 where
  pub ends : s + n ≤ 8 * length page
  pub fits : s + n < 18446744073709551616

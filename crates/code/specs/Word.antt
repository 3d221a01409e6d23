-- Words over GF(2) (document 01, "Bits and polynomials").
-- A word of n bits is the polynomial whose coefficient of x^(n-1-j) is bit j: the highest power comes first.
--
-- Word              a list of bits
-- apart x y         1 where two bits differ, else 0
-- distance v w      the number of places in which two words differ
-- ones w            the number of ones of a word
-- zeros w           the number of its zeros
-- zeros_to n w       the number of its zeros, counted no further than n
-- turned w p        the word with the coefficient of x^p turned over
-- flipped w ps      the word with the coefficient of x^p turned over for each p of a list
-- Below n ps        each exponent of a list is below n
-- descending w      the exponents at which a word has a one, the highest first
use Rattle.std.specs.Prelude.{Bool, true, false, cond, List, [], ◌∷◌, ℕ, ◌+◌, ◌<◌, length, eqb, ltb}
use Rattle.algebra.specs.Word.{flip}
use Rattle.bits.specs.Bits.{digit}

abbrev pub Word : Type 0
Word = List Bool

unfoldable pub apart : Bool → Bool → ℕ
apart true true = 0
apart true false = 1
apart false true = 1
apart false false = 0

-- Of two words of one length, the number of places in which they differ.
unfoldable pub distance : Word → Word → ℕ
distance [] w = 0
distance (x ∷ v) [] = 0
distance (x ∷ v) (y ∷ w) = apart x y + distance v w

unfoldable pub ones : Word → ℕ
ones [] = 0
ones (b ∷ w) = digit b + ones w

unfoldable pub zeros : Word → ℕ
zeros [] = 0
zeros (b ∷ w) = digit (flip b) + zeros w

unfoldable pub zeros_to : ℕ → Word → ℕ
zeros_to n w = cond (ltb (zeros w) n) (zeros w) n

-- The first bit of b ∷ w is the coefficient of x^(length w). An exponent beyond the word turns nothing over.
unfoldable pub turned : Word → ℕ → Word
turned [] p = []
turned (b ∷ w) p = cond (eqb p (length w)) (flip b ∷ w) (b ∷ turned w p)

-- An exponent that stands in the list twice is turned over twice.
unfoldable pub flipped : Word → List ℕ → Word
flipped w [] = w
flipped w (p ∷ ps) = flipped (turned w p) ps

-- Exponents that a word of n bits has.
pub data Below (n : ℕ) : List ℕ → Type 0 where
  none : Below n []
  one : {p : ℕ} {ps : List ℕ} → p < n → Below n ps → Below n (p ∷ ps)

-- The first bit of b ∷ w has the highest exponent.
unfoldable pub descending : Word → List ℕ
descending [] = []
descending (b ∷ w) = cond b (length w ∷ descending w) (descending w)

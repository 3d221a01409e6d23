-- The code of a level t over the field f (document 01, "The code").
--
-- value f w y          the value of a word's polynomial at the field element y
-- Codeword f t w       the word is a codeword: zero at a, a^2, .., a^(2t); at t = 0 every word
-- Near f t w c         c is a codeword within t flips of w
-- Ruined f t w         no codeword is within t flips of w
-- Generator f t g      g is the monic polynomial of least degree with the zeros of a codeword
-- Fits f t n           the levels and lengths that document 01 allows a block of n covered bits
use Rattle.std.specs.Prelude.{◌≡◌, true, false, ℕ, zero, suc, ◌*◌, ◌≤◌, ◌<◌, length, get_or}
use Rattle.std.specs.Int.Bits.{bit_xor}
use Rattle.bits.specs.Bits.{digit}
use Rattle.field.specs.declared.Field.{Field}
use Rattle.field.specs.Field.{product, a^, longest}
use Rattle.code.specs.Word.{Word, distance}

-- The value at y of the polynomial of the first n bits of a word, by Horner's rule.
unfoldable pub value_of : Field → Word → ℕ → ℕ → ℕ
value_of f w y zero = 0
value_of f w y (suc n) = bit_xor (product f y (value_of f w y n)) (digit (get_or w n false))

-- The value of all of it.
unfoldable pub value : Field → Word → ℕ → ℕ
value f w y = value_of f w y (length w)

-- Zero at a, a^2, .., a^(2t). Where t = 0 nothing is asked.
pub record Codeword (f : Field) (t : ℕ) (w : Word) : Type 0 where
  pub zeros : (j : ℕ) → 0 < j → j ≤ 2 * t → value f w (a^ f j) ≡ 0

-- A codeword of the same length that differs in at most t places.
pub record Near (f : Field) (t : ℕ) (w c : Word) : Type 0 where
  pub same : length c ≡ length w
  pub code : Codeword f t c
  pub close : distance w c ≤ t

-- A block that cannot be repaired (document 01, "Replies", 9).
pub record Ruined (f : Field) (t : ℕ) (w : Word) : Type 0 where
  pub none : (c : Word) → Near f t w c → ⊥

-- A polynomial is a word with its leading one first; a shorter codeword has no one at all.
pub record Generator (f : Field) (t : ℕ) (g : Word) : Type 0 where
  pub monic : get_or g 0 false ≡ true
  pub code : Codeword f t g
  pub least : (w : Word) → Codeword f t w → length w < length g → (i : ℕ) → get_or w i false ≡ false

-- With t > 0 a block has at most 2^m - 1 bits. The laws hold for t up to 62.
pub record Fits (f : Field) (t n : ℕ) : Type 0 where
  pub short : 0 < t → n ≤ longest f
  pub level : t ≤ 62

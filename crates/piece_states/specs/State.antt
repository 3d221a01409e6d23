-- What is carried from piece to piece (document 02, E4).
-- A polynomial over GF(2) is a number: its binary digit p is the coefficient of x^p.
--
-- words_of x                the number x in fourteen words of 64 bits, the lowest first
-- choice_of f               the number of a field choice
-- state_of f level n l      the state after the bytes l, in pieces or in one, of a message of n bytes; t is twice the level field
-- after f s piece          the state s with a piece taken in
use Rattle.std.specs.Prelude.{false, List, ◌++◌, ℕ, ◌+◌, ◌*◌, ◌/◌, ◌%◌, ◌^◌, length, replicate}
use Rattle.bits.specs.Bits.{run}
use Rattle.field.specs.declared.Field.{Field}
use Rattle.field.specs.declared.Field.TheVariants.{Thirteen, Fourteen}
use Rattle.field.specs.Field.{degree}
use Rattle.code.specs.Generator.{remainder}
use Rattle.code.specs.Register.{register}
use Rattle.piece_parity.specs.Carried.{bits_of, carried}
use Rattle.piece_rules.specs.declared.State.{State}

unfoldable pub words_of : ℕ → List ℕ
words_of x = run (λ i. x / 2 ^ (64 * i) % 2 ^ 64) 0 14

-- 0 is m = 13, 1 is m = 14
unfoldable pub choice_of : Field → ℕ
choice_of Thirteen = 0
choice_of Fourteen = 1

-- The words hold the remainder of l times x^(mt): the parity of l, as a number.
unfoldable pub state_of : Field → ℕ → ℕ → List ℕ → State
state_of f level n l = record {
  level = level;
  choice = choice_of f;
  size = n;
  fed = length l;
  words = words_of (remainder f (2 * level) (bits_of l ++ replicate (degree f * (2 * level)) false));
}

unfoldable pub after : Field → State → List ℕ → State
after f s piece = record {
  level = s.level;
  choice = s.choice;
  size = s.size;
  fed = s.fed + length piece;
  words = words_of (carried f (2 * s.level) (register s.words) (bits_of piece));
}

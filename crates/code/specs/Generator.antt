-- The generators as numbers, the remainder of a word and the parity of a message (document 01, "The code").
-- A polynomial over GF(2) is also a number: its binary digit p is the coefficient of x^p.
--
-- times k x y          the product of the polynomials x and y, y of degree below k
-- minimals f           the minimal polynomials of a, a^3, .., a^123
-- generator f t        the generator of the level t
-- remainder f t w      the remainder of a word by the generator
-- parity f t message   the remainder of the message times x^(mt), as a word of mt bits
use Rattle.std.specs.Prelude.{Bool, false, cond, List, [], ◌∷◌, ◌++◌, ℕ, zero, suc, ◌+◌, ◌*◌, ◌/◌, ◌%◌, length, get_or, replicate, eqb}
use Rattle.std.specs.Int.Bits.{bit_xor}
use Rattle.bits.specs.Bits.{bit, digit, digits}
use Rattle.field.specs.declared.Field.{Field}
use Rattle.field.specs.declared.Field.TheVariants.{Thirteen, Fourteen}
use Rattle.field.specs.Field.{degree}
use Rattle.code.specs.Word.{Word}

-- The product without carries: x for the lowest digit of y, and twice the product with the others.
unfoldable pub times : ℕ → ℕ → ℕ → ℕ
times zero x y = 0
times (suc k) x y = bit_xor (y % 2 * x) (times k x (y / 2) * 2)

-- Minimal polynomials, as `scripts/generators.py minimals` prints them. That they are is tested in proofs/MinimalTest.
unfoldable pub minimals13 : List ℕ
minimals13 =
    0x201b ∷ 0x26b1 ∷ 0x2993 ∷ 0x274f ∷ 0x31e1 ∷ 0x23a3 ∷ 0x3079 ∷ 0x22bf ∷ 0x2fff ∷ 0x3a29 ∷ 0x39d3 ∷ 0x3827 ∷ 0x355d ∷ 0x3315 ∷ 0x3f45 ∷ 0x3d4d
    ∷ 0x2c3f ∷ 0x3bbb ∷ 0x219d ∷ 0x37f3 ∷ 0x2be5 ∷ 0x3d7d ∷ 0x2dab ∷ 0x225b ∷ 0x2521 ∷ 0x310f ∷ 0x354f ∷ 0x3edd ∷ 0x2ad7 ∷ 0x2699 ∷ 0x2b49 ∷ 0x2d5b
    ∷ 0x36e3 ∷ 0x37d7 ∷ 0x2eb9 ∷ 0x2a0f ∷ 0x2c21 ∷ 0x2243 ∷ 0x2eb3 ∷ 0x294b ∷ 0x34c9 ∷ 0x33e3 ∷ 0x281f ∷ 0x31c9 ∷ 0x35a1 ∷ 0x29af ∷ 0x351f ∷ 0x208b
    ∷ 0x2b9b ∷ 0x32c3 ∷ 0x2555 ∷ 0x3997 ∷ 0x2bfd ∷ 0x2387 ∷ 0x2af3 ∷ 0x2e8f ∷ 0x37e1 ∷ 0x3f89 ∷ 0x263f ∷ 0x22b3 ∷ 0x3209 ∷ 0x2e29 ∷ []

unfoldable pub minimals14 : List ℕ
minimals14 =
    0x402b ∷ 0x4941 ∷ 0x4647 ∷ 0x5591 ∷ 0x6b55 ∷ 0x6389 ∷ 0x6ce5 ∷ 0x4f21 ∷ 0x460f ∷ 0x5a49 ∷ 0x5811 ∷ 0x65ef ∷ 0x6323 ∷ 0x5b1d ∷ 0x60b9 ∷ 0x53bf
    ∷ 0x6a07 ∷ 0x4e15 ∷ 0x515f ∷ 0x4921 ∷ 0x594f ∷ 0x7457 ∷ 0x68c9 ∷ 0x4c09 ∷ 0x7fe7 ∷ 0x48f7 ∷ 0x7987 ∷ 0x4c8d ∷ 0x6153 ∷ 0x6e09 ∷ 0x57bd ∷ 0x6f61
    ∷ 0x6a2f ∷ 0x49e1 ∷ 0x668f ∷ 0x4bfb ∷ 0x6c73 ∷ 0x6907 ∷ 0x40af ∷ 0x42e9 ∷ 0x77ef ∷ 0x5e47 ∷ 0x6abf ∷ 0x60f7 ∷ 0x6139 ∷ 0x45a5 ∷ 0x4e23 ∷ 0x4e01
    ∷ 0x491d ∷ 0x468d ∷ 0x53c7 ∷ 0x72df ∷ 0x7429 ∷ 0x6697 ∷ 0x5763 ∷ 0x41ab ∷ 0x53f1 ∷ 0x4cbd ∷ 0x6061 ∷ 0x4a8b ∷ 0x6dbb ∷ 0x7b0b ∷ []

-- Place i has the minimal polynomial of a^(2i + 1).
unfoldable pub minimals : Field → List ℕ
minimals Thirteen = minimals13
minimals Fourteen = minimals14

-- The product of the first t minimal polynomials. That it is the generator of its level, and the only one, is shown in proofs/Generator.
unfoldable pub generator : Field → ℕ → ℕ
generator f zero = 1
generator f (suc t) = times (suc (degree f)) (generator f t) (get_or (minimals f) t 0)

-- One more coefficient b of the dividend, and g of degree d taken off where the result has degree d.
unfoldable pub remainder_step : ℕ → ℕ → ℕ → Bool → ℕ
remainder_step d g r b = cond (eqb (bit (r * 2 + digit b) d) 1) (bit_xor g (r * 2 + digit b)) (r * 2 + digit b)

-- The remainder of the first n bits of a word by g of degree d.
unfoldable pub remainder_of : ℕ → ℕ → Word → ℕ → ℕ
remainder_of d g w zero = 0
remainder_of d g w (suc n) = remainder_step d g (remainder_of d g w n) (get_or w n false)

-- The remainder by the generator of the level, of degree m t.
unfoldable pub remainder : Field → ℕ → Word → ℕ
remainder f t w = remainder_of (degree f * t) (generator f t) w (length w)

-- Document 01 stores it plainly, with no mask.
unfoldable pub parity : Field → ℕ → Word → Word
parity f t message = digits (remainder f t (message ++ replicate (degree f * t) false)) (degree f * t)

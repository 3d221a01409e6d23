-- Inner promises: what is worked out over small buffers.
--
-- record_of v w k  the layout record of three words (document 01, "Layout words"; document 02, E7, has the third): word 0 first, most
--                 significant byte first
-- plus_of a b      the sum of two numbers; the first where the sum has more than 64 bits
use Rattle.std.specs.Prelude.{cond, List, [], ◌∷◌, ℕ, ◌+◌, ◌/◌, ◌%◌, ◌^◌, ltb}

unfoldable pub record_of : ℕ → ℕ → ℕ → List ℕ
record_of v w k =
    v / 0x1000000 ∷ v / 0x10000 % 256 ∷ v / 256 % 256 ∷ v % 256
    ∷ w / 0x1000000 ∷ w / 0x10000 % 256 ∷ w / 256 % 256 ∷ w % 256
    ∷ k / 0x1000000 ∷ k / 0x10000 % 256 ∷ k / 256 % 256 ∷ k % 256 ∷ []

unfoldable pub plus_of : ℕ → ℕ → ℕ
plus_of a b = cond (ltb (a + b) (2 ^ 64)) (a + b) a

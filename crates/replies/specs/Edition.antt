-- The editions (document 02, E13): which there are, and which level fields each has. The edition is handed in beside a layout record or a level field.
--
-- offered e      there is such an edition
-- highest e      the highest level field of an edition
use Rattle.std.specs.Prelude.{Bool, true, cond, ℕ, eqb}

-- 1 and 2; another is reply 7, looked at before everything else.
unfoldable pub offered : ℕ → Bool
offered e = cond (eqb e 1) true (eqb e 2)

-- Level fields go to 0x14, t = 40, in edition 1, and to 0x1F, t = 62, in edition 2; one above is reply 1.
unfoldable pub highest : ℕ → ℕ
highest e = cond (eqb e 1) 20 31

-- Masks (document 01, "Damage"): a mask has a bit for each bit of a page, and its ones name the bits that are flipped.
--
-- named q mask b           how many covered bits of block b a mask names
-- few_below q mask n        the mask names at most t bits of each of the first n blocks, t the block's own level
-- allowed q mask           the mask has the length of a page, and names at most t covered bits of each block
-- overlaid mask page       the page with the named bits flipped, those of the tail and of the factory's mark included
use Rattle.std.specs.Prelude.{Bool, true, false, cond, List, ℕ, zero, suc, length, eqb, leb}
use Rattle.bits.specs.Bits.{bit_of, bytes}
use Rattle.layout_plan.specs.declared.Plan.{Plan}
use Rattle.layout_plan.specs.Plan.{level}
use Rattle.code.specs.Word.{ones}
use Rattle.page_theory.specs.Page.{block_word}
use Rattle.page_theory.specs.Damage.{turn}

unfoldable pub named : Plan → List ℕ → ℕ → ℕ
named q mask b = ones (block_word q mask b)

unfoldable pub few_below : Plan → List ℕ → ℕ → Bool
few_below q mask zero = true
few_below q mask (suc n) = cond (few_below q mask n) (leb (named q mask n) (level q n)) false

unfoldable pub allowed : Plan → List ℕ → Bool
allowed q mask = cond (eqb (length mask) q.size) (few_below q mask q.blocks) false

unfoldable pub overlaid : List ℕ → List ℕ → List ℕ
overlaid mask page = bytes (λ p. turn (bit_of mask p) (bit_of page p)) (length page)

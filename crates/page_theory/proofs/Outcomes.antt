-- What becomes of a block, from its remainder and its number of zeros: the facts that a reader works out. A block's set of errors, or that
-- there is none, depends on its field, level, length and remainder alone.
use mathlib.Core.Path.{◌≡◌, refl}
use mathlib.Core.Bool.{true}
use mathlib.Core.List.{List}
use Prim.Native.Nat.{ℕ, ◌≤◌, ◌<◌}
use lib.ListN.{length, take, replicate}
use Rattle.layout_plan.specs.declared.Plan.{Plan}
use Rattle.layout_plan.specs.Plan.{bits, field, level, covered, Valid}
use Rattle.code.specs.Word.{flipped, zeros}
use Rattle.code.specs.Code.{Ruined}
use Rattle.code.specs.Generator.{remainder}
use Rattle.code.specs.Locations.{locate, exponents, nowhere}
use Rattle.code.specs.Outcome.{erased_count, by-codeword, by-zeros}
use Rattle.code.proofs.Outcome.{repaired-judge}
use Rattle.code.proofs.Locations.{judge-exponents, nowhere-ruined}
use Rattle.page_theory.specs.Page.{block_word}
use Rattle.page_theory.specs.Reading.{GivesAt, RefusedAt}
use Rattle.page_theory.proofs.Blocks.{block_word-length, block_word-fits}

module _ (q : Plan) (page : List ℕ) (v : Valid q) (b : ℕ) (inside : b < q.blocks) where
  -- a set was found
  pub exponents-gives : (ps : List ℕ) → locate (field q b) (level q b) (covered q b) (remainder (field q b) (level q b) (block_word q page b)) ≡ exponents ps
      → GivesAt q page b (take (bits q b) (flipped (block_word q page b) ps)) (length ps)
  exponents-gives ps e = by-codeword (repaired-judge _ _ (bits q b) _ _ _
      (judge-exponents (field q b) (level q b) (bits q b) (block_word q page b) ps (block_word-fits q v page b inside) (rw (block_word-length q page b) e)))

  module _ (e : locate (field q b) (level q b) (covered q b) (remainder (field q b) (level q b) (block_word q page b)) ≡ nowhere) where
    nowhere-none : Ruined (field q b) (level q b) (block_word q page b)
    nowhere-none = nowhere-ruined (field q b) (level q b) (block_word q page b) (v.strong b inside) (rw (block_word-length q page b) e)

    -- no set, and few zeros
    pub zeros-gives : zeros (block_word q page b) ≤ level q b → GivesAt q page b (replicate (bits q b) true) (erased_count (zeros (block_word q page b)))
    zeros-gives few = by-zeros (record { none = nowhere-none; few = few; message = refl; count = refl })

    -- no set, and more than t zeros
    pub zeros-refuses : level q b < zeros (block_word q page b) → RefusedAt q page b
    zeros-refuses many = record { none = nowhere-none; many = many }

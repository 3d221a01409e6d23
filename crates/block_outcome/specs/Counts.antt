-- Inner promises: the count of a block. It is the number of exponents that repair it, or 128 plus its zeros where it is erased, or 255 where
-- it is ruined.
--
-- erased_at q page b          the count of a block with no codeword near
-- count_at q page b r         the count of block b, for whose remainder r was found
use Rattle.std.specs.Prelude.{cond, List, ℕ, leb}
use Rattle.layout_plan.specs.declared.Plan.{Plan}
use Rattle.layout_plan.specs.Plan.{level}
use Rattle.code.specs.Word.{zeros}
use Rattle.code.specs.Outcome.{erased_count}
use Rattle.decoder.specs.declared.Found.{Found}
use Rattle.page_theory.specs.Page.{block_word}

unfoldable pub erased_at : Plan → List ℕ → ℕ → ℕ
erased_at q page b = cond (leb (zeros (block_word q page b)) (level q b)) (erased_count (zeros (block_word q page b))) 255

unfoldable pub count_at : Plan → List ℕ → ℕ → Found → ℕ
count_at q page b r = cond r.located r.count (erased_at q page b)

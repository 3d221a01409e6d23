-- What a page gives (document 01, "Replies" and "The code"; document 02, E1 and E6). The rule is distance: a block with a codeword
-- within t flips is repaired to that codeword; one with none and at most t zeros is erased; any other is ruined, and the lowest ruined
-- block refuses the page. Something is reported of every block, ruined or not.
--
-- GivesAt q page b m n    block b gives the message m and reports n: it holds, n flips away, a codeword with that message, or it is
--                         erased, its message is all ones, and n is 128 plus its zeros
-- RefusedAt q page b      block b is ruined: no codeword of its shortened length is within t flips, and it has more than t zeros
-- Lowest q page b         block b is ruined, and no lower block is
-- outcome q page b        the outcome of block b
-- Reading                 the messages of all blocks one after the other, or the block that refuses the page
-- more b r o              a reading r of the blocks before b, and the outcome o of block b
-- reading_of q page n      the reading of the first n blocks
-- reading q page          the reading of the page
-- count_of o               what is reported of a block by its outcome: its flips, 128 plus the zeros of an erased block, 255 of a ruined one
-- counts q page           what is reported of each block
use Rattle.std.specs.Prelude.{List, [], ◌++◌, ℕ, zero, suc, ◌<◌}
use Rattle.bits.specs.Bits.{run}
use Rattle.layout_plan.specs.declared.Plan.{Plan}
use Rattle.layout_plan.specs.Plan.{bits, field, level}
use Rattle.code.specs.Word.{Word}
use Rattle.code.specs.Outcome.{Outcome, good, erased, ruined, judge, erased_count, Gives, Refused}
use Rattle.page_theory.specs.Page.{block_word}

abbrev pub GivesAt : Plan → List ℕ → ℕ → Word → ℕ → Type 0
GivesAt q page b m n = Gives (field q b) (level q b) (bits q b) (block_word q page b) m n

abbrev pub RefusedAt : Plan → List ℕ → ℕ → Type 0
RefusedAt q page b = Refused (field q b) (level q b) (block_word q page b)

pub record Lowest (q : Plan) (page : List ℕ) (b : ℕ) : Type 0 where
  pub inside : b < q.blocks
  pub ruins : RefusedAt q page b
  pub lower : (c : ℕ) → c < b → RefusedAt q page c → ⊥

unfoldable pub outcome : Plan → List ℕ → ℕ → Outcome
outcome q page b = judge (field q b) (level q b) (bits q b) (block_word q page b)

pub data Reading : Type 0 where
  done : Word → Reading
  refused : ℕ → Reading

-- The message of block b follows those before it; the first ruined block decides.
unfoldable pub more : ℕ → Reading → Outcome → Reading
more b (done w) (good m n) = done (w ++ m)
more b (done w) (erased m z) = done (w ++ m)
more b (done w) ruined = refused b
more b (refused a) o = refused a

unfoldable pub reading_of : Plan → List ℕ → ℕ → Reading
reading_of q page zero = done []
reading_of q page (suc b) = more b (reading_of q page b) (outcome q page b)

unfoldable pub reading : Plan → List ℕ → Reading
reading q page = reading_of q page q.blocks

-- A count is below 63 or, of an erased block, below 191, so 255 is the count of a ruined block and of no other (document 02, E6).
unfoldable pub count_of : Outcome → ℕ
count_of (good m n) = n
count_of (erased m z) = erased_count z
count_of ruined = 255

unfoldable pub counts : Plan → List ℕ → List ℕ
counts q page = run (λ b. count_of (outcome q page b)) 0 q.blocks

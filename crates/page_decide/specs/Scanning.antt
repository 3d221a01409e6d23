-- Inner promises: what looking over the blocks of a page says of them.
--
-- remainder_at q page b       the remainder of block b
-- LocatedAt q page b ps      flipping the exponents ps repairs block b: they are what locating answers for its remainder
-- Reached q page s           s has the remainder of its block, if there is one, and, if it is known, that of the next
-- Scanned q page from s      s is the first block with a remainder that is not zero, looking from block `from` on
-- Left q page s              s is a block of the page, with its remainder
use Rattle.std.specs.Prelude.{◌≡◌, true, List, ℕ, ◌+◌, ◌≤◌, ◌<◌}
use Rattle.layout_plan.specs.declared.Plan.{Plan}
use Rattle.layout_plan.specs.Plan.{field, level, covered}
use Rattle.code.specs.Generator.{remainder}
use Rattle.code.specs.Locations.{locate, exponents}
use Rattle.code.specs.Register.{register}
use Rattle.page_theory.specs.Page.{block_word}
use Rattle.page_decide.specs.declared.Scan.{Scan}

unfoldable pub remainder_at : Plan → List ℕ → ℕ → ℕ
remainder_at q page b = remainder (field q b) (level q b) (block_word q page b)

abbrev pub LocatedAt : Plan → List ℕ → ℕ → List ℕ → Type 0
LocatedAt q page b ps = locate (field q b) (level q b) (covered q b) (remainder_at q page b) ≡ exponents ps

pub record Reached (q : Plan) (page : List ℕ) (s : Scan) : Type 0 where
  pub inside : s.block ≤ q.blocks
  pub left : s.block < q.blocks → register s.remainder.words ≡ remainder_at q page s.block
  pub ahead : s.known ≡ true → register s.next.words ≡ remainder_at q page (s.block + 1)

-- Where every remainder from there on is zero, the block is the number of blocks.
pub record Scanned (q : Plan) (page : List ℕ) (from : ℕ) (s : Scan) : Type 0 where
  pub low : from ≤ s.block
  pub inside : s.block ≤ q.blocks
  pub clean : (c : ℕ) → from ≤ c → c < s.block → remainder_at q page c ≡ 0
  pub left : s.block < q.blocks → register s.remainder.words ≡ remainder_at q page s.block
  pub damaged : s.block < q.blocks → 0 < register s.remainder.words
  pub ahead : s.known ≡ true → register s.next.words ≡ remainder_at q page (s.block + 1)

pub record Left (q : Plan) (page : List ℕ) (s : Scan) : Type 0 where
  pub inside : s.block < q.blocks
  pub is : register s.remainder.words ≡ remainder_at q page s.block

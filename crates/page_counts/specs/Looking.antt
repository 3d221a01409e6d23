-- Inner promises: what counting the blocks of a page promises.
--
-- Underway q page s counts         the counts before block s are those of the page's blocks, the others are 0, and s has its remainder and,
--                                  if it is known, that of the next block
-- Pending q page words s counts    what counting from s on asks for: the page has its size, the words are the table of the later
--                                  blocks' generator, and counting is under way
-- FirstRuined counts b             b is the first place with the count of a ruined block, or how many counts there are where none is
use Rattle.std.specs.Prelude.{◌≡◌, true, List, ℕ, ◌+◌, ◌≤◌, ◌<◌, length, get_or}
use Rattle.layout_plan.specs.declared.Plan.{Plan}
use Rattle.code.specs.Register.{register}
use Rattle.division_table.specs.Table.{Table}
use Rattle.page_theory.specs.Reading.{outcome, count_of}
use Rattle.page_plan.specs.Plans.{Ready}
use Rattle.page_decide.specs.declared.Scan.{Scan}
use Rattle.page_decide.specs.Scanning.{remainder_at}

pub record Underway (q : Plan) (page : List ℕ) (s : Scan) (counts : List ℕ) : Type 0 where
  pub inside : s.block ≤ q.blocks
  pub counted : (b : ℕ) → b < s.block → get_or counts b 0 ≡ count_of (outcome q page b)
  pub fresh : (b : ℕ) → s.block ≤ b → get_or counts b 0 ≡ 0
  pub left : s.block < q.blocks → register s.remainder.words ≡ remainder_at q page s.block
  pub ahead : s.known ≡ true → register s.next.words ≡ remainder_at q page (s.block + 1)
  pub size : length counts ≡ q.blocks

pub record Pending (q : Plan) (page words : List ℕ) (s : Scan) (counts : List ℕ) : Type 0 where
  pub ready : Ready q page
  pub table : Table q.later.field q.later.level words
  pub underway : Underway q page s counts

pub record FirstRuined (counts : List ℕ) (b : ℕ) : Type 0 where
  pub inside : b ≤ length counts
  pub ruined : b < length counts → get_or counts b 0 ≡ 255
  pub lower : (c : ℕ) → c < b → get_or counts c 0 ≡ 255 → ⊥

-- Damage past the level (document 02, E14): what may be reported of a block in which more bits flipped than its level corrects.
--
-- Changed q before after s              the page `after` is the page `before` with the sets s turned over, of any size, and any tail and mark
-- WrittenAndChanged a q m d page s    metadata m and data d were written, and damage of any size made `page` of the written page
-- Past q s b                            in block b, whose level t is not 0, more than t bits were turned over and at most 2t
-- Touched q s b                         in block b from one to 2t bits were turned over
-- Worn t e o                            what may become of a written block of level t after e flips: it is ruined, or erased, or it is read
--                                       with at least 2t + 1 - e flips reported
-- Answered a page lent b o            o is what looking at the page and judging block b report of that block
-- Means t c e                           what a count c up to t says of the number e of flips: they are c, or at least 2t + 1 - c
-- Unharmed q s                          no covered bit was turned over, or in some block more than 2t were
use Rattle.layout.specs.declared.Refusal.{Refusal}
use Rattle.layout_plan.specs.declared.Layout.{Layout}
use Rattle.std.specs.Prelude.{◌≡◌, Bool, List, ℕ, ◌+◌, ◌*◌, ◌≤◌, ◌<◌, length, get_or, Result}
use Rattle.bits.specs.Bits.{Bytes}
use Rattle.mark.specs.Mark.{stream_bit}
use Rattle.layout_plan.specs.declared.Plan.{Plan}
use Rattle.layout_plan.specs.Plan.{level, covered, start}
use Rattle.code.specs.Word.{Word}
use Rattle.code.specs.Outcome.{Outcome, good, erased, ruined}
use Rattle.page_theory.specs.Reading.{count_of}
use Rattle.page_theory.specs.Damage.{Payload, flips, turn}
use Rattle.page_theory.specs.Calls.{write_for, look_for, judge_by, judge_for}

-- As `Damaged` of Damage, with no bound on the sets.
pub record Changed (q : Plan) (before after : List ℕ) (s : ℕ → ℕ → Bool) : Type 0 where
  pub page : Bytes q.size after
  pub turned : (b j : ℕ) → b < q.blocks → j < covered q b
      → stream_bit q.mark after (start q b + j) ≡ turn (s b j) (stream_bit q.mark before (start q b + j))

-- The writer was lent some page of PAGE_SIZE bytes, and nothing but the damage changed the page that it left.
pub record WrittenAndChanged (a : Result Layout Refusal) (q : Plan) (m d page : List ℕ) (s : ℕ → ℕ → Bool) : Type 0 where
  pub payload : Payload q m d
  pub lent : List ℕ
  pub size : length lent ≡ q.size
  pub changed : Changed q (write_for a m d lent).page page s

pub record Past (q : Plan) (s : ℕ → ℕ → Bool) (b : ℕ) : Type 0 where
  pub corrects : 0 < level q b
  pub more : level q b < flips q s b
  pub most : flips q s b ≤ 2 * level q b

pub record Touched (q : Plan) (s : ℕ → ℕ → Bool) (b : ℕ) : Type 0 where
  pub some : 0 < flips q s b
  pub few : flips q s b ≤ 2 * level q b

pub data Worn (t e : ℕ) : Outcome → Type 0 where
  is-ruined : Worn t e ruined
  is-erased : (m : Word) (z : ℕ) → Worn t e (erased m z)
  is_read : (m : Word) (n : ℕ) → 2 * t + 1 ≤ n + e → Worn t e (good m n)

-- The count that looking leaves for the block (255 where it is ruined), and the answer to judging it (9 where it is ruined).
pub record Answered (a : Result Layout Refusal) (page lent : List ℕ) (b : ℕ) (o : Outcome) : Type 0 where
  pub looked : get_or (look_for a page lent).counts b 0 ≡ count_of o
  pub judged : judge_for a page b ≡ judge_by b o

pub data Means (t c e : ℕ) : Type 0 where
  as-counted : e ≡ c → Means t c e
  beyond : 2 * t + 1 ≤ c + e → Means t c e

pub data Unharmed (q : Plan) (s : ℕ → ℕ → Bool) : Type 0 where
  untouched : ((b : ℕ) → b < q.blocks → flips q s b ≡ 0) → Unharmed q s
  past : (b : ℕ) → b < q.blocks → 2 * level q b < flips q s b → Unharmed q s

-- What the five page calls answer and leave (document 01, "Replies", "One block" and "Claim"; document 02, E6).
-- Each is a function of everything that is lent, and gives the reply, the block number, the values, and what the buffers that
-- the call may write to hold afterwards, on refusals too. Of several replies the first in the order 7 for the edition, 6 for
-- the record, 1, 2, 3, 11, 4, 5, 6, 7, 9, 10 is given. Numbers that are handed in have no bound. The block is 0 except in reply 9; beside a refusal
-- every other value is 0. A refused call leaves each lent buffer as it found it, but for the counts of a look that answers 9:
-- so document 02, E6, amended document 01's Replies.
--
-- bytes_at w s n               the n bytes whose bits are those of a word from its bit s on
-- Written, write_ended, write_reply, write_in, write_for, write_of             writing a page
-- Looked, look_ended, look_reply, look_by, look_in, look_for, look_of           looking at a page: the counts of its blocks
-- Taken, take_ended, take_reply, take_by, take_in, take_for, take_of            taking metadata and data out of a page
-- block_reply                                                              the replies about a page and a block number
-- Judged, judge_ended, judge_by, judge_in, judge_for, judge_of                 judging one block
-- Claimed, claim_ended, claim_by, claim_in, claim_for, claim_of                claimed locations
--
-- Of each call: `..Ended` is what it ends with; `..Reply` the reply about lengths and numbers under a plan, 0 where they are
-- right; `..By` how it ends by what the page, the block or the claim turns out to be; `..In` the call under a plan, `..For`
-- with the answer to a layout, whatever names it, `..Of` with layout words: a record and the edition beside it (document 02, E13).
use Rattle.layout.specs.declared.Refusal.{Refusal}
use Rattle.layout_plan.specs.declared.Layout.{Layout}
use Rattle.std.specs.Prelude.{false, cond, List, ◌++◌, ℕ, ◌+◌, ◌*◌, length, get_or, eqb, ltb, Result, Ok, Err}
use Rattle.field.specs.declared.Field.{Field}
use Rattle.bits.specs.Bits.{bytes}
use Rattle.replies.specs.Replies.{unless}
use Rattle.layout_plan.specs.Record.{Words}
use Rattle.layout_plan.specs.declared.Plan.{Plan}
use Rattle.layout_plan.specs.Plan.{plan_of, field, level}
use Rattle.layout.specs.Acceptance.{acceptance, refusal_reply}
use Rattle.code.specs.Word.{Word}
use Rattle.code.specs.Outcome.{Outcome, good, erased, ruined, erased_count}
use Rattle.page_theory.specs.Page.{page_of, block_word}
use Rattle.page_theory.specs.Reading.{Reading, done, refused, outcome, reading, counts}
use Rattle.page_theory.specs.Claim.{Right, right?}

-- Writing a page from metadata and data.

pub record Written : Type 0 where
  pub reply : ℕ
  pub block : ℕ
  pub page : List ℕ

abbrev pub write_ended : ℕ → ℕ → List ℕ → Written
write_ended reply block page = record { reply = reply; block = block; page = page }

-- 5: the lent page. 6: another lent buffer.
unfoldable pub write_reply : Plan → ℕ → ℕ → ℕ → ℕ
write_reply q metadata «data» page =
    unless (eqb page q.size) 5
    (unless (eqb metadata q.metadata) 6
    (unless (eqb «data» q.«data») 6
    0))

unfoldable pub write_in : Plan → List ℕ → List ℕ → List ℕ → Written
write_in q metadata «data» page =
    cond (eqb (write_reply q (length metadata) (length «data») (length page)) 0)
    (write_ended 0 0 (page_of q page (metadata ++ «data»)))
    (write_ended (write_reply q (length metadata) (length «data») (length page)) 0 page)

unfoldable pub write_for : Result Layout Refusal → List ℕ → List ℕ → List ℕ → Written
write_for (Ok l) metadata «data» page = write_in (plan_of l) metadata «data» page
write_for (Err r) metadata «data» page = write_ended (refusal_reply r) 0 page

abbrev pub write_of : Words → List ℕ → List ℕ → List ℕ → Written
write_of rec metadata «data» page = write_for (acceptance rec) metadata «data» page

-- Looking at a page: its counts (document 02, E6).

pub record Looked : Type 0 where
  pub reply : ℕ
  pub block : ℕ
  pub counts : List ℕ

abbrev pub look_ended : ℕ → ℕ → List ℕ → Looked
look_ended reply block counts = record { reply = reply; block = block; counts = counts }

-- 5: the lent page. 6: another lent buffer.
unfoldable pub look_reply : Plan → ℕ → ℕ → ℕ
look_reply q page counts =
    unless (eqb page q.size) 5
    (unless (eqb counts q.blocks) 6
    0)

-- The counts of all blocks are written, those of a ruined page too: the one refusal that writes.
unfoldable pub look_by : Reading → List ℕ → Looked
look_by (done w) counts = look_ended 0 0 counts
look_by (refused b) counts = look_ended 9 b counts

unfoldable pub look_in : Plan → List ℕ → List ℕ → Looked
look_in q page lent =
    cond (eqb (look_reply q (length page) (length lent)) 0)
    (look_by (reading q page) (counts q page))
    (look_ended (look_reply q (length page) (length lent)) 0 lent)

unfoldable pub look_for : Result Layout Refusal → List ℕ → List ℕ → Looked
look_for (Ok l) page lent = look_in (plan_of l) page lent
look_for (Err r) page lent = look_ended (refusal_reply r) 0 lent

abbrev pub look_of : Words → List ℕ → List ℕ → Looked
look_of rec page lent = look_for (acceptance rec) page lent

-- Taking metadata and data out of a page (document 02, E6).

pub record Taken : Type 0 where
  pub reply : ℕ
  pub block : ℕ
  pub metadata : List ℕ
  pub «data» : List ℕ

abbrev pub take_ended : ℕ → ℕ → List ℕ → List ℕ → Taken
take_ended reply block metadata «data» = record { reply = reply; block = block; metadata = metadata; «data» = «data» }

-- 5: the lent page. 6: another lent buffer.
unfoldable pub take_reply : Plan → ℕ → ℕ → ℕ → ℕ
take_reply q page metadata «data» =
    unless (eqb page q.size) 5
    (unless (eqb metadata q.metadata) 6
    (unless (eqb «data» q.«data») 6
    0))

unfoldable pub bytes_at : Word → ℕ → ℕ → List ℕ
bytes_at w s n = bytes (λ p. get_or w (s + p) false) n

-- The messages of the blocks, one after the other, are the payload. A ruined page leaves what was lent.
unfoldable pub take_by : Plan → Reading → List ℕ → List ℕ → Taken
take_by q (done w) metadata «data» = take_ended 0 0 (bytes_at w 0 q.metadata) (bytes_at w (8 * q.metadata) q.«data»)
take_by q (refused b) metadata «data» = take_ended 9 b metadata «data»

unfoldable pub take_in : Plan → List ℕ → List ℕ → List ℕ → Taken
take_in q page metadata «data» =
    cond (eqb (take_reply q (length page) (length metadata) (length «data»)) 0)
    (take_by q (reading q page) metadata «data»)
    (take_ended (take_reply q (length page) (length metadata) (length «data»)) 0 metadata «data»)

unfoldable pub take_for : Result Layout Refusal → List ℕ → List ℕ → List ℕ → Taken
take_for (Ok l) page metadata «data» = take_in (plan_of l) page metadata «data»
take_for (Err r) page metadata «data» = take_ended (refusal_reply r) 0 metadata «data»

abbrev pub take_of : Words → List ℕ → List ℕ → List ℕ → Taken
take_of rec page metadata «data» = take_for (acceptance rec) page metadata «data»

-- Judging one block.

-- 5: the lent page. 7: a block number outside its range.
unfoldable pub block_reply : Plan → ℕ → ℕ → ℕ
block_reply q page b =
    unless (eqb page q.size) 5
    (unless (ltb b q.blocks) 7
    0)

pub record Judged : Type 0 where
  pub reply : ℕ
  pub block : ℕ
  pub flips : ℕ

abbrev pub judge_ended : ℕ → ℕ → ℕ → Judged
judge_ended reply block flips = record { reply = reply; block = block; flips = flips }

unfoldable pub judge_by : ℕ → Outcome → Judged
judge_by b (good m n) = judge_ended 0 0 n
judge_by b (erased m z) = judge_ended 0 0 (erased_count z)
judge_by b ruined = judge_ended 9 b 0

unfoldable pub judge_in : Plan → List ℕ → ℕ → Judged
judge_in q page b =
    cond (eqb (block_reply q (length page) b) 0)
    (judge_by b (outcome q page b))
    (judge_ended (block_reply q (length page) b) 0 0)

unfoldable pub judge_for : Result Layout Refusal → List ℕ → ℕ → Judged
judge_for (Ok l) page b = judge_in (plan_of l) page b
judge_for (Err r) page b = judge_ended (refusal_reply r) 0 0

abbrev pub judge_of : Words → List ℕ → ℕ → Judged
judge_of rec page b = judge_for (acceptance rec) page b

-- Claimed locations of one block.

pub record Claimed : Type 0 where
  pub reply : ℕ
  pub block : ℕ

abbrev pub claim_ended : ℕ → Claimed
claim_ended reply = record { reply = reply; block = 0 }

unfoldable pub claim_by : {f : Field} {t : ℕ} {w : Word} {claims : List ℕ} → Dec (Right f t w claims) → Claimed
claim_by (yes right) = claim_ended 0
claim_by (no wrong) = claim_ended 10

unfoldable pub claim_in : Plan → List ℕ → ℕ → List ℕ → Claimed
claim_in q page b claims =
    cond (eqb (block_reply q (length page) b) 0)
    (claim_by (right? (field q b) (level q b) (block_word q page b) claims))
    (claim_ended (block_reply q (length page) b))

unfoldable pub claim_for : Result Layout Refusal → List ℕ → ℕ → List ℕ → Claimed
claim_for (Ok l) page b claims = claim_in (plan_of l) page b claims
claim_for (Err r) page b claims = claim_ended (refusal_reply r)

abbrev pub claim_of : Words → List ℕ → ℕ → List ℕ → Claimed
claim_of rec page b claims = claim_for (acceptance rec) page b claims

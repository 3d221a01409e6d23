-- What the owner's demands 1 and 2 say of a call (the demands are quoted in proofs/Demand1, Demand2 and Demand3; what demand 3 speaks of is
-- in Damage and Reading).
--
-- WriteEnds page r                  demand 1, writing: r is an answer of the table, and a refusal leaves the page as it was lent
-- LookEnds lent r                   demand 1, looking: r is an answer of the table, and a refusal other than 9 leaves the counts as they were lent
-- TakeEnds metadata body r          demand 1, taking: r is an answer of the table, and a refusal leaves the outputs as they were lent
-- JudgeEnds b r, ClaimEnds r        demand 1, judging block b and a claim, which are lent nothing to write to
-- Stands q lent payload page        demand 2: the page holds the written blocks of a payload, ones in the tail, pads included, and in the mark what was lent
-- Reported q page b n               block b gives some message and reports n, or it is ruined and n is 255
-- Looks q page r                    demand 2: what looking at a page reports of each block, ruined ones included
-- Takes q page r                    demand 2: what is taken out of a page, block by block
-- Reads q page look take            demand 2: counts and payload of a page that was looked at and taken belong to the same codewords
use Rattle.std.specs.Prelude.{◌≡◌, true, List, [], ◌∷◌, ◌++◌, ℕ, ◌*◌, ◌<◌, length, get_or}
use Rattle.bits.specs.Bits.{bit_of, Bytes}
use Rattle.replies.specs.Replies.{among}
use Rattle.layout_plan.specs.declared.Plan.{Plan}
use Rattle.mark.specs.Mark.{marked, stream_bit}
use Rattle.layout_plan.specs.Plan.{room}
use Rattle.layout.specs.Bits.{block_of}
use Rattle.code.specs.Word.{Word}
use Rattle.page_theory.specs.Page.{message, written, block_word}
use Rattle.page_theory.specs.Reading.{GivesAt, RefusedAt}
use Rattle.page_theory.specs.Calls.{Written, write_ended, Looked, look_ended, Taken, take_ended, Judged, Claimed}
use Rattle.page_theory.specs.Damage.{Payload}

-- How writing ends: with a reply of the table, about block 0, and after a refusal the page is as it was lent.
pub record WriteEnds (page : List ℕ) (r : Written) : Type 0 where
  pub table : among r.reply (0 ∷ 1 ∷ 2 ∷ 3 ∷ 4 ∷ 5 ∷ 6 ∷ 7 ∷ 11 ∷ []) ≡ true
  pub kept : (r.reply ≡ 0 → ⊥) → r ≡ write_ended r.reply 0 page
  pub block : r.block ≡ 0

-- How looking ends. Reply 9 names a block and is the one refusal that writes (document 02, E6); what it writes, `Looks` says.
pub record LookEnds (lent : List ℕ) (r : Looked) : Type 0 where
  pub table : among r.reply (0 ∷ 1 ∷ 2 ∷ 3 ∷ 4 ∷ 5 ∷ 6 ∷ 7 ∷ 9 ∷ 11 ∷ []) ≡ true
  pub kept : (r.reply ≡ 0 → ⊥) → (r.reply ≡ 9 → ⊥) → r ≡ look_ended r.reply 0 lent
  pub block : (r.reply ≡ 9 → ⊥) → r.block ≡ 0

-- How taking ends. Only reply 9 names a block.
pub record TakeEnds (metadata body : List ℕ) (r : Taken) : Type 0 where
  pub table : among r.reply (0 ∷ 1 ∷ 2 ∷ 3 ∷ 4 ∷ 5 ∷ 6 ∷ 7 ∷ 9 ∷ 11 ∷ []) ≡ true
  pub kept : (r.reply ≡ 0 → ⊥) → r ≡ take_ended r.reply r.block metadata body
  pub block : (r.reply ≡ 9 → ⊥) → r.block ≡ 0

-- How judging one block ends: a refusal has no flip count, and reply 9 names the block.
pub record JudgeEnds (b : ℕ) (r : Judged) : Type 0 where
  pub table : among r.reply (0 ∷ 1 ∷ 2 ∷ 3 ∷ 4 ∷ 5 ∷ 6 ∷ 7 ∷ 9 ∷ 11 ∷ []) ≡ true
  pub kept : (r.reply ≡ 0 → ⊥) → r.flips ≡ 0
  pub block : (r.reply ≡ 9 → ⊥) → r.block ≡ 0
  pub named : r.reply ≡ 9 → r.block ≡ b

-- How a claim ends.
pub record ClaimEnds (r : Claimed) : Type 0 where
  pub table : among r.reply (0 ∷ 1 ∷ 2 ∷ 3 ∷ 4 ∷ 5 ∷ 6 ∷ 7 ∷ 10 ∷ 11 ∷ []) ≡ true
  pub block : r.block ≡ 0

-- The written page, said block by block: each block stands in its place, the bits of no block are ones, and the mark has the bits of the lent page.
pub record Stands (q : Plan) (lent payload page : List ℕ) : Type 0 where
  pub bytes : Bytes q.size page
  pub blocks : (b : ℕ) → b < q.blocks → block_word q page b ≡ written q payload b
  pub tail : (p : ℕ) → block_of q p ≡ q.blocks → p < room q → stream_bit q.mark page p ≡ true
  pub mark : (p : ℕ) → p < 8 * q.size → marked q.mark p ≡ true → bit_of page p ≡ bit_of lent p

-- What is reported of a block: the distance of a codeword within t flips; where there is none and the block has at most t zeros, 128 plus the
-- zeros; else 255 (document 02, E1 and E6).
pub data Reported (q : Plan) (page : List ℕ) (b n : ℕ) : Type 0 where
  of-given : (m : Word) → GivesAt q page b m n → Reported q page b n
  of-ruined : RefusedAt q page b → n ≡ 255 → Reported q page b n

-- A page that was looked at, with reply 0 or 9: one count for each block.
pub record Looks (q : Plan) (page : List ℕ) (r : Looked) : Type 0 where
  pub counts : length r.counts ≡ q.blocks
  pub blocks : (b : ℕ) → b < q.blocks → Reported q page b (get_or r.counts b 0)

-- A page that was taken: outputs of the right lengths, and of each block the message of a codeword within t flips, or, where there is no such
-- codeword and the block has at most t zeros, a message of ones.
pub record Takes (q : Plan) (page : List ℕ) (r : Taken) : Type 0 where
  pub payload : Payload q r.metadata r.«data»
  pub blocks : (b : ℕ) → b < q.blocks → (n : ℕ) × GivesAt q page b (message q (r.metadata ++ r.«data») b) n

-- A page that was looked at and taken: of each block the looked count is exactly the distance of the codeword whose message was taken, or 128
-- plus the zeros of the block whose message was taken as ones.
pub record Reads (q : Plan) (page : List ℕ) (look : Looked) (take : Taken) : Type 0 where
  pub payload : Payload q take.metadata take.«data»
  pub counts : length look.counts ≡ q.blocks
  pub blocks : (b : ℕ) → b < q.blocks → GivesAt q page b (message q (take.metadata ++ take.«data») b) (get_or look.counts b 0)

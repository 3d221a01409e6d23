-- What the calls on a page return (document 01, "Replies", "One block" and "Claim"; document 02, E6): the reply and the block of how the call ends,
-- and what it leaves.
--
-- WriteReturns w r p         writing that ends as w returns r and leaves p in the page
-- LookReturns w r c          looking that ends as w returns r and leaves c in the counts
-- TakeReturns w r m d        taking that ends as w returns r and leaves m and d in metadata and data
-- judge_word w                what judging one block returns that ends as w: the value is the number of flips
-- claim_word w                what a claim returns that ends as w
use Rattle.std.specs.Prelude.{◌≡◌, List, ℕ}
use Rattle.page_theory.specs.Calls.{Written, Looked, Taken, Judged, Claimed}
use Rattle.answer_words.specs.Answer.{answer_word}

pub record WriteReturns (w : Written) (r : ℕ) (p : List ℕ) : Type 0 where
  pub word : r ≡ answer_word w.reply w.block 0 0
  pub page : p ≡ w.page

pub record LookReturns (w : Looked) (r : ℕ) (c : List ℕ) : Type 0 where
  pub word : r ≡ answer_word w.reply w.block 0 0
  pub counts : c ≡ w.counts

pub record TakeReturns (w : Taken) (r : ℕ) (m d : List ℕ) : Type 0 where
  pub word : r ≡ answer_word w.reply w.block 0 0
  pub metadata : m ≡ w.metadata
  pub «data» : d ≡ w.«data»

unfoldable pub judge_word : Judged → ℕ
judge_word w = answer_word w.reply w.block 0 w.flips

unfoldable pub claim_word : Claimed → ℕ
claim_word w = answer_word w.reply w.block 0 0

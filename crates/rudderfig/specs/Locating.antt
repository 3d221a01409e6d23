-- What the call that locates errors from a remainder returns (document 01, "Remainder").
--
-- LocateReturns w r p    locating that ends as w returns r, whose value is the size of the set, and leaves p in the list
use Rattle.std.specs.Prelude.{◌≡◌, List, ℕ}
use Rattle.bch.specs.Answers.{Ended}
use Rattle.answer_words.specs.Answer.{answer_word}

pub record LocateReturns (w : Ended) (r : ℕ) (p : List ℕ) : Type 0 where
  pub word : r ≡ answer_word w.reply w.block 0 w.size
  pub places : p ≡ w.places

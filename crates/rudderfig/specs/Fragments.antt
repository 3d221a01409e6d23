-- What the calls return that hand a remainder to a hardware locator and take it back (document 02, E9).
--
-- FragmentsReturns w r l    a call that ends as w returns r, which has no value, and leaves l in what it was lent to write
use Rattle.std.specs.Prelude.{◌≡◌, List, ℕ}
use Rattle.fragments.specs.Calls.{Ended}
use Rattle.answer_words.specs.Answer.{answer_word}

pub record FragmentsReturns (w : Ended) (r : ℕ) (l : List ℕ) : Type 0 where
  pub word : r ≡ answer_word w.reply w.block 0 0
  pub lent : l ≡ w.lent

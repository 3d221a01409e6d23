-- What the C call returns that explains a block (document 02, E2).
--
-- ExplainReturns w r l    explaining that ends as w returns r, the word of its answer, and leaves l in the list
use Rattle.std.specs.Prelude.{◌≡◌, List, ℕ}
use Rattle.page_explain.specs.Explain.{Explained}
use Rattle.explain_words.specs.Words.{block_word}

pub record ExplainReturns (w : Explained) (r : ℕ) (l : List ℕ) : Type 0 where
  pub word : r ≡ block_word w.answer
  pub list : l ≡ w.list

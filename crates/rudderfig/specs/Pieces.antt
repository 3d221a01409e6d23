-- What the calls return that take one block's message in pieces (document 02, E4).
--
-- StateReturns a r s       a call on a state that answers a returns r and leaves s in the state
-- ParityReturns w r s p    finishing that ends as w returns r and leaves s in the state and p in the parity buffer
use Rattle.std.specs.Prelude.{◌≡◌, List, ℕ}
use Rattle.piece_rules.specs.declared.State.{State}
use Rattle.piece_states.specs.Calls.{Answered, Finished}
use Rattle.answer_words.specs.Answer.{answer_word}

pub record StateReturns (a : Answered) (r : ℕ) (s : State) : Type 0 where
  pub word : r ≡ answer_word a.reply 0 0 0
  pub state : s ≡ a.state

pub record ParityReturns (w : Finished) (r : ℕ) (s : State) (p : List ℕ) : Type 0 where
  pub word : r ≡ answer_word w.reply 0 0 0
  pub state : s ≡ w.state
  pub parity : p ≡ w.parity

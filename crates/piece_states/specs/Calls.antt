-- The calls of a writer that takes one block's message in pieces (document 02, E4): what each answers and leaves.
-- Each is a function of everything that is handed in or lent, for every state, whoever made it. Of several replies the first in the
-- order 7 for the edition, 7, 1, 2, 3, 6 is given. A refusal leaves the state and the parity buffer as they were, and finishing leaves the state.
--
-- Answered, answered reply s     a reply, and the state afterwards; Finished: a reply, the state and the lent parity buffer afterwards
-- start_in, feed_in, finish_in     the calls in a field; start_for, feed_for, finish_for: with the answer to a field choice
-- start_of s edition level choice n   starting a block: the state before the first byte of its message
-- feed_of s piece            feeding a piece: all of it is taken in, or none
-- finish_of s buffer         finishing: the parity in the buffer
use Rattle.std.specs.Prelude.{cond, List, [], ℕ, ◌+◌, length, eqb, leb, Option, Some, None}
use Rattle.field.specs.declared.Field.{Field}
use Rattle.field.specs.Field.{chosen}
use Rattle.replies.specs.declared.Refusal.TheVariants as refusal
use Rattle.replies.specs.Replies.{number}
use Rattle.replies.specs.Edition.{offered}
use Rattle.code.specs.Register.{register}
use Rattle.remainder.specs.Remainder.{bytes_of}
use Rattle.piece_rules.specs.declared.State.{State}
use Rattle.piece_rules.specs.Rules.{start_reply, usable, finish_reply}
use Rattle.piece_states.specs.State.{state_of, after}

pub record Answered : Type 0 where
  pub reply : ℕ
  pub state : State

abbrev pub answered : ℕ → State → Answered
answered reply s = record { reply = reply; state = s }

pub record Finished : Type 0 where
  pub reply : ℕ
  pub state : State
  pub parity : List ℕ

-- what the code answers, with the buffer that it leaves
unfoldable pub finished : Answered → List ℕ → Finished
finished a parity = record { reply = a.reply; state = a.state; parity = parity }

unfoldable pub start_in : ℕ → Field → State → ℕ → ℕ → Answered
start_in edition f s level n =
    cond (eqb (start_reply edition f level n) 0) (answered 0 (state_of f level n [])) (answered (start_reply edition f level n) s)

-- 7: a field choice that is not offered
unfoldable pub start_for : ℕ → Option Field → State → ℕ → ℕ → Answered
start_for edition (Some f) s level n = start_in edition f s level n
start_for edition None s level n = answered (number refusal.OutOfRange) s

-- 7: an edition that is not offered (document 02, E13)
unfoldable pub start_of : State → ℕ → ℕ → ℕ → ℕ → Answered
start_of s edition level choice n =
    cond (offered edition) (start_for edition (chosen choice) s level n) (answered (number refusal.OutOfRange) s)

-- 7: a state that cannot be gone on with. 6: a piece that would pass the length stated at the start.
unfoldable pub feed_in : Field → State → List ℕ → Answered
feed_in f s piece =
    cond (usable f s)
    (cond (leb (s.fed + length piece) s.size) (answered 0 (after f s piece)) (answered (number refusal.BufferLength) s))
    (answered (number refusal.OutOfRange) s)

unfoldable pub feed_for : Option Field → State → List ℕ → Answered
feed_for (Some f) s piece = feed_in f s piece
feed_for None s piece = answered (number refusal.OutOfRange) s

unfoldable pub feed_of : State → List ℕ → Answered
feed_of s piece = feed_for (chosen s.choice) s piece

-- Document 01's form of a remainder: the highest coefficient first, right-aligned.
unfoldable pub finish_in : Field → State → List ℕ → Finished
finish_in f s buffer =
    cond (eqb (finish_reply f s (length buffer)) 0)
    (finished (answered 0 s) (bytes_of (length buffer) (register s.words)))
    (finished (answered (finish_reply f s (length buffer)) s) buffer)

unfoldable pub finish_for : Option Field → State → List ℕ → Finished
finish_for (Some f) s buffer = finish_in f s buffer
finish_for None s buffer = finished (answered (number refusal.OutOfRange) s) buffer

unfoldable pub finish_of : State → List ℕ → Finished
finish_of s buffer = finish_for (chosen s.choice) s buffer

-- How the calls end, for every state: an answer from the table, and what a refusal and a finish leave (document 02, E4).
--
-- start-ends, feed-ends, finish-ends    the reply is 0, 6, 7, or 1 to 3 at a start; a refusal leaves the state and the buffer as they were, a finish the state
use mathlib.Core.Path.{◌≡◌, refl}
use mathlib.Core.Bool.{Bool, true, false, cond}
use mathlib.Core.List.{List}
use Prim.Native.Nat.{ℕ, ◌+◌, ◌*◌, ◌≤◌}
use native.Mathlib.Omega.{arith}
use native.Mathlib.Decide.{dec_lt}
use lib.ListN.{length}
use lib.Dec.{eqb, leb}
use Rattle.replies.specs.Replies.{number}
use Rattle.replies.specs.Edition.{offered, highest}
use Rattle.field.specs.declared.Field.{Field}
use Rattle.std.specs.Prelude.{Option}
use Rattle.std.specs.Prelude.{Some, None}
use Rattle.field.specs.Field.{chosen, degree, longest}
use Rattle.remainder.specs.Remainder.{bytes_for}
use Rattle.piece_rules.specs.declared.State.{State}
use Rattle.piece_rules.specs.Rules.{start_reply, usable, finish_reply}
use Rattle.piece_states.specs.Calls.{Answered, answered, Finished, finished, start_in, start_for, start_of, feed_in, feed_for, feed_of, finish_in, finish_for, finish_of}
use Rattle.piece_rules.proofs.Replies.{reply-level, reply-empty, reply-plain, reply-long, reply-right}

-- a reply of the table, by its number
pub data Start : ℕ → Type 0 where
  done : Start 0
  level : Start 1
  message : Start 2
  long : Start 3
  choice : Start 7

pub data Piece : ℕ → Type 0 where
  done : Piece 0
  buffer : Piece 6
  state : Piece 7

pub start_small : {r : ℕ} → Start r → r ≤ 7
start_small done = omega arith
start_small level = omega arith
start_small message = omega arith
start_small long = omega arith
start_small choice = omega arith

pub piece-small : {r : ℕ} → Piece r → r ≤ 7
piece-small done = omega arith
piece-small buffer = omega arith
piece-small state = omega arith

pub record StartEnds (s : State) (a : Answered) : Type 0 where
  pub table : Start a.reply
  pub kept : (a.reply ≡ 0 → ⊥) → a.state ≡ s

pub record FeedEnds (s : State) (a : Answered) : Type 0 where
  pub table : Piece a.reply
  pub kept : (a.reply ≡ 0 → ⊥) → a.state ≡ s

pub record FinishEnds (s : State) (b : List ℕ) (w : Finished) : Type 0 where
  pub table : Piece w.reply
  pub state : w.state ≡ s
  pub kept : (w.reply ≡ 0 → ⊥) → w.parity ≡ b

-- ---- starting

block-table : (edition : ℕ) (f : Field) (n m : ℕ) → Start (start_reply edition f n m)
block-table edition f n m = elim (dec_lt (highest edition) n) [
  | yes h ↦ rw (← reply-level edition f n m h) level
  | no h ↦ elim (dec_lt 0 m) [
    | no k ↦ rw (← reply-empty edition f n m (omega arith) (omega arith)) message
    | yes k ↦ elim (dec_lt 0 n) [
      | no c ↦ rw (← reply-plain edition f n m (omega arith) k (omega arith)) done
      | yes c ↦ elim (dec_lt (longest f) (8 * m + degree f * (2 * n))) [
        | yes l ↦ rw (← reply-long edition f n m (omega arith) k c l) long
        | no l ↦ rw (← reply-right edition f n m (omega arith) k c (omega arith)) done
      ]
    ]
  ]
]

start_in-ends : (edition : ℕ) (f : Field) (s : State) (n m : ℕ) → StartEnds s (start_in edition f s n m)
unfolding start_in
start_in-ends edition f s n m = go (start_reply edition f n m) refl (block-table edition f n m)
  where
    go : (r : ℕ) → start_reply edition f n m ≡ r → Start r → StartEnds s (start_in edition f s n m)
    go r e done = rw e (record { table = done; kept = λ h. absurd (h refl) })
    go r e level = rw e (record { table = level; kept = λ h. refl })
    go r e message = rw e (record { table = message; kept = λ h. refl })
    go r e long = rw e (record { table = long; kept = λ h. refl })
    go r e choice = rw e (record { table = choice; kept = λ h. refl })

pub start-ends : (s : State) (edition n c m : ℕ) → StartEnds s (start_of s edition n c m)
unfolding start_of start_for number
start-ends s edition n c m = known (offered edition)
  where
    go : (k : Option Field) → StartEnds s (start_for edition k s n m)
    go (Some f) = start_in-ends edition f s n m
    go None = record { table = choice; kept = λ h. refl }

    known : (o : Bool) → StartEnds s (cond o (start_for edition (chosen c) s n m) (answered 7 s))
    known true = go (chosen c)
    known false = record { table = choice; kept = λ h. refl }

-- ---- feeding

feed_in-ends : (f : Field) (s : State) (p : List ℕ) → FeedEnds s (feed_in f s p)
unfolding feed_in number
feed_in-ends f s p = go (usable f s) (leb (s.fed + length p) s.size) refl refl
  where
    go : (a b : Bool) → usable f s ≡ a → leb (s.fed + length p) s.size ≡ b → FeedEnds s (feed_in f s p)
    go true true ea eb = rw (ea, eb) (record { table = done; kept = λ h. absurd (h refl) })
    go true false ea eb = rw (ea, eb) (record { table = buffer; kept = λ h. refl })
    go false b ea eb = rw ea (record { table = state; kept = λ h. refl })

pub feed-ends : (s : State) (p : List ℕ) → FeedEnds s (feed_of s p)
unfolding feed_of feed_for number
feed-ends s p = go (chosen s.choice)
  where
    go : (k : Option Field) → FeedEnds s (feed_for k s p)
    go (Some f) = feed_in-ends f s p
    go None = record { table = state; kept = λ h. refl }

-- ---- finishing

finish-table : (f : Field) (s : State) (n : ℕ) → Piece (finish_reply f s n)
unfolding finish_reply number
finish-table f s n = go (usable f s) (eqb s.fed s.size) (eqb n (bytes_for (degree f * (2 * s.level)))) refl refl refl
  where
    go : (a b c : Bool) → usable f s ≡ a → eqb s.fed s.size ≡ b → eqb n (bytes_for (degree f * (2 * s.level))) ≡ c → Piece (finish_reply f s n)
    go true true true ea eb ec = rw (ea, eb, ec) done
    go true true false ea eb ec = rw (ea, eb, ec) buffer
    go true false c ea eb ec = rw (ea, eb) buffer
    go false b c ea eb ec = rw ea state

finish_in-ends : (f : Field) (s : State) (b : List ℕ) → FinishEnds s b (finish_in f s b)
unfolding finish_in finished
finish_in-ends f s b = go (finish_reply f s (length b)) refl (finish-table f s (length b))
  where
    go : (r : ℕ) → finish_reply f s (length b) ≡ r → Piece r → FinishEnds s b (finish_in f s b)
    go r e done = rw e (record { table = done; state = refl; kept = λ h. absurd (h refl) })
    go r e buffer = rw e (record { table = buffer; state = refl; kept = λ h. refl })
    go r e state = rw e (record { table = state; state = refl; kept = λ h. refl })

pub finish-ends : (s : State) (b : List ℕ) → FinishEnds s b (finish_of s b)
unfolding finish_of finish_for finished number
finish-ends s b = go (chosen s.choice)
  where
    go : (k : Option Field) → FinishEnds s b (finish_for k s b)
    go (Some f) = finish_in-ends f s b
    go None = record { table = state; state = refl; kept = λ h. refl }

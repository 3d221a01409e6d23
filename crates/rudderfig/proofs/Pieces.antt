-- What the calls return that take one block's message in pieces: the reply comes back out of the word, and there is nothing else in it.
use mathlib.Core.Path.{◌≡◌, refl, ap, ◌∙◌}
use mathlib.Core.List.{List}
use Prim.Native.Nat.{ℕ}
use native.Mathlib.Omega.{arith}
use Rattle.piece_rules.specs.declared.State.{State}
use Rattle.std.specs.Prelude.{⊤, Result}
use Rattle.replies.specs.declared.Refusal.{Refusal}
use Rattle.replies.specs.Replies.{verdict_number}
use Rattle.piece_states.specs.Calls.{Answered, answered, Finished, finished, start_of, feed_of, finish_of}
use Rattle.pieces.proofs.Ends.{start_small, piece-small, start-ends, feed-ends, finish-ends}
use Rattle.answer_words.specs.Answer.{answer_word}
use Rattle.rudderfig.specs.Pieces.{StateReturns, ParityReturns}
use Rattle.rudderfig.proofs.Words.{Holds, word_holds}

module _ (a : Result ⊤ Refusal) {s : State} {w : ℕ} where
  pub state-returns : {b : Answered} → answered (verdict_number a) s ≡ b → w ≡ answer_word (verdict_number a) 0 0 0 → StateReturns b w s
  state-returns e h = record { word = h ∙ ap (λ (x : Answered). answer_word x.reply 0 0 0) e; state = ap (λ (x : Answered). x.state) e }

  pub parity-returns : {p : List ℕ} {b : Finished} → finished (answered (verdict_number a) s) p ≡ b → w ≡ answer_word (verdict_number a) 0 0 0 → ParityReturns b w s p
  unfolding finished
  parity-returns e h = record {
    word = h ∙ ap (λ (x : Finished). answer_word x.reply 0 0 0) e;
    state = ap (λ (x : Finished). x.state) e;
    parity = ap (λ (x : Finished). x.parity) e;
  }

pub start-holds : (s : State) (edition level choice n : ℕ) → let a = start_of s edition level choice n in Holds a.reply 0 0 (answer_word a.reply 0 0 0)
start-holds s edition level choice n = word_holds 0 (omega (arith, start_small (start-ends s edition level choice n).table)) (omega arith) (λ h. refl)

pub feed-holds : (s : State) (piece : List ℕ) → let a = feed_of s piece in Holds a.reply 0 0 (answer_word a.reply 0 0 0)
feed-holds s piece = word_holds 0 (omega (arith, piece-small (feed-ends s piece).table)) (omega arith) (λ h. refl)

pub finish-holds : (s : State) (parity : List ℕ) → let w = finish_of s parity in Holds w.reply 0 0 (answer_word w.reply 0 0 0)
finish-holds s parity = word_holds 0 (omega (arith, piece-small (finish-ends s parity).table)) (omega arith) (λ h. refl)

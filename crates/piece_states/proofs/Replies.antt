-- Laws of the replies of the calls.
use mathlib.Core.Path.{◌≡◌, ◌∙◌}
use mathlib.Core.Bool.{true, false}
use mathlib.Core.List.{List, []}
use Prim.Native.Nat.{ℕ, ◌+◌, ◌≤◌, ◌<◌}
use lib.ListN.{length}
use borrow.Author.Tests.{eq-eqb, ne_eqb, le-leb, lt-leb}
use Rattle.field.specs.declared.Field.{Field}
use Rattle.replies.specs.Replies.{number}
use Rattle.code.specs.Register.{register}
use Rattle.remainder.specs.Remainder.{bytes_of}
use Rattle.piece_rules.specs.declared.State.{State}
use Rattle.piece_rules.specs.Rules.{start_reply, usable, finish_reply}
use Rattle.piece_states.specs.State.{state_of, after}
use Rattle.piece_states.specs.Calls.{answered, finished, start_in, feed_in, finish_in}

module _ (f : Field) (s : State) where
  pub start-refused : (edition level n : ℕ) {r : ℕ} → r ≡ start_reply edition f level n → (r ≡ 0 → ⊥) → answered r s ≡ start_in edition f s level n
  unfolding start_in
  start-refused edition level n e h = rw (e, ne_eqb (start_reply edition f level n) 0 (λ z. h (e ∙ z)))

  pub start-done : (edition level n : ℕ) {a : State} → start_reply edition f level n ≡ 0 → a ≡ state_of f level n [] → answered 0 a ≡ start_in edition f s level n
  unfolding start_in
  start-done edition level n e h = rw (h, eq-eqb (start_reply edition f level n) 0 e)

  pub feed-unusable : (piece : List ℕ) → usable f s ≡ false → answered 7 s ≡ feed_in f s piece
  unfolding feed_in number
  feed-unusable piece h = rw h

  pub feed-past : (piece : List ℕ) → usable f s ≡ true → s.size < s.fed + length piece → answered 6 s ≡ feed_in f s piece
  unfolding feed_in number
  feed-past piece h l = rw (h, lt-leb (s.fed + length piece) s.size l)

  pub feed-taken : (piece : List ℕ) {a : State} → usable f s ≡ true → s.fed + length piece ≤ s.size → a ≡ after f s piece → answered 0 a ≡ feed_in f s piece
  unfolding feed_in number
  feed-taken piece h l e = rw (h, le-leb (s.fed + length piece) s.size l, e)

  pub finish-refused : (buffer : List ℕ) {r : ℕ} → r ≡ finish_reply f s (length buffer) → (r ≡ 0 → ⊥) → finished (answered r s) buffer ≡ finish_in f s buffer
  unfolding finish_in
  finish-refused buffer e h = rw (e, ne_eqb (finish_reply f s (length buffer)) 0 (λ z. h (e ∙ z)))

  pub finish-done : (buffer : List ℕ) {b : List ℕ} → finish_reply f s (length buffer) ≡ 0 → b ≡ bytes_of (length buffer) (register s.words)
      → finished (answered 0 s) b ≡ finish_in f s buffer
  unfolding finish_in
  finish-done buffer e h = rw (h, eq-eqb (finish_reply f s (length buffer)) 0 e)

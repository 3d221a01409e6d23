-- The three calls reply as their lists of rules say, so each reply is given exactly if its rule applies and none before it does.
use mathlib.Core.Path.{◌≡◌, refl, ◌∙◌}
use mathlib.Core.Bool.{Bool, true, false, cond, not}
use mathlib.Core.List.{List, [], ◌∷◌}
use Prim.Native.Nat.{ℕ, zero, suc, ◌+◌, ◌*◌, ◌<◌}
use native.Mathlib.Decide.{dec_lt}
use native.Mathlib.Omega.{arith}
use lib.ListN.{length, drop}
use lib.Dec.{eqb, ltb, leb, eqb-suc-zero}
use borrow.Author.Tests.{eq-eqb, ne_eqb, lt-ltb, le-ltb}
use Rattle.replies.specs.declared.Refusal.TheVariants.{BufferLength, OutOfRange}
use Rattle.replies.specs.Replies.{number, block, verdict_number, verdict_block, unequal, rule, verdict, reply, reply_block}
use Rattle.replies.specs.Edition.{offered, highest}
use Rattle.replies.specs.Given.{Follows, Exactly, turn, at_most, ascending}
use Rattle.replies.proofs.Tests.{ltb-not}
use Rattle.replies.proofs.Given.{follows-done, follows_next, follows-here, exactly}
use Rattle.field.specs.declared.Field.{Field}
use Rattle.field.specs.declared.Field.TheVariants.{Thirteen, Fourteen}
use Rattle.std.specs.Prelude.{Some, None}
use Rattle.field.specs.Field.{degree, longest, chosen}
use Rattle.layout_plan.specs.Record.{field_of}
use Rattle.layout_plan.specs.Plan.{shape_with}
use Rattle.layout_replies.specs.ReplyRules.{too_long}
use Rattle.piece_rules.specs.declared.State.{State}
use Rattle.piece_states.specs.State.{state_of, after}
use Rattle.code.specs.Register.{register}
use Rattle.remainder.specs.Remainder.{bytes_for, bytes_of}
use Rattle.piece_rules.specs.Rules.{shape_for, start_reply, usable, finish_reply}
use Rattle.piece_states.specs.Calls.{Finished, answered, finished, start_in, start_for, start_of, feed_in, feed_for, feed_of, finish_in, finish_for, finish_of}
use Rattle.pieces.specs.ReplyRules.{block_rules, start_rules, goes_on, feed_rules, finish_rules}
use Rattle.piece_rules.proofs.Replies.{reply-level, reply-empty, reply-plain, reply-long, reply-right}

-- what a number chooses
data Chose (c : ℕ) : Type 0 where
  known : (f : Field) → chosen c ≡ Some f → ltb 1 c ≡ false → field_of c ≡ f → Chose c
  unknown : chosen c ≡ None → ltb 1 c ≡ true → Chose c

chose : (c : ℕ) → Chose c
unfolding chosen field_of
chose zero = known Thirteen refl refl refl
chose (suc zero) = known Fourteen refl refl refl
chose (suc (suc c)) = unknown refl (lt-ltb 1 (suc (suc c)) (omega arith))

-- ---- starting

module _ (f : Field) (level n : ℕ) where
  long-plain : level ≡ 0 → too_long (shape_for f level n) ≡ false
  unfolding too_long shape_for shape_with
  long-plain e = rw (eq-eqb (2 * level) 0 (omega arith))

  long-coded : 0 < level → too_long (shape_for f level n) ≡ ltb (longest f) (8 * n + degree f * (2 * level))
  unfolding too_long shape_for shape_with
  long-coded h = rw (ne_eqb (2 * level) 0 (λ e. omega arith))

module _ (edition : ℕ) (f : Field) (level n : ℕ) where
  block-follows : Follows (block_rules edition f level n) (start_reply edition f level n) 0
  unfolding block_rules number block
  block-follows = elim (dec_lt (highest edition) level) [
    | yes h ↦ rw (← reply-level edition f level n h) (follows-here _ (lt-ltb (highest edition) level h))
    | no h ↦ elim (dec_lt 0 n) [
      | no k ↦ rw (← reply-empty edition f level n (omega arith) (omega arith))
          (follows_next _ (le-ltb (highest edition) level (omega arith)) (follows-here _ (eq-eqb n 0 (omega arith))))
      | yes k ↦ elim (dec_lt 0 level) [
        | no c ↦ rw (← reply-plain edition f level n (omega arith) k (omega arith))
            (follows_next _ (le-ltb (highest edition) level (omega arith)) (follows_next _ (ne_eqb n 0 (λ e. omega arith)) (follows_next _ (long-plain f level n (omega arith)) follows-done)))
        | yes c ↦ elim (dec_lt (longest f) (8 * n + degree f * (2 * level))) [
          | yes l ↦ rw (← reply-long edition f level n (omega arith) k c l)
              (follows_next _ (le-ltb (highest edition) level (omega arith)) (follows_next _ (ne_eqb n 0 (λ e. omega arith)) (follows-here _ (long-coded f level n c ∙ lt-ltb (longest f) (8 * n + degree f * (2 * level)) l))))
          | no l ↦ rw (← reply-right edition f level n (omega arith) k c (omega arith))
              (follows_next _ (le-ltb (highest edition) level (omega arith)) (follows_next _ (ne_eqb n 0 (λ e. omega arith))
              (follows_next _ (long-coded f level n c ∙ le-ltb (longest f) (8 * n + degree f * (2 * level)) (omega arith)) follows-done)))
        ]
      ]
    ]
  ]

  start-reply : (s : State) → (start_in edition f s level n).reply ≡ start_reply edition f level n
  unfolding start_in
  start-reply s = go (start_reply edition f level n)
    where
      go : (r : ℕ) → (cond (eqb r 0) (answered 0 (state_of f level n [])) (answered r s)).reply ≡ r
      go zero = refl
      go (suc r) = rw (eqb-suc-zero r)

module _ (s : State) (edition level choice n : ℕ) where
  for-follows : Follows (drop 1 (start_rules edition level choice n)) (start_for edition (chosen choice) s level n).reply 0
  unfolding start_rules start_for number block
  for-follows = elim (chose choice) [
    | known f e l k ↦ rw (e, k, start-reply edition f level n s) (follows_next _ l (block-follows edition f level n))
    | unknown e l ↦ rw e (follows-here _ l)
  ]

  pub start-replies : Follows (start_rules edition level choice n) (start_of s edition level choice n).reply 0
  unfolding start_rules start_of number block
  start-replies = go (offered edition) refl
    where
      go : (o : Bool) → offered edition ≡ o → Follows (start_rules edition level choice n)
          (cond o (start_for edition (chosen choice) s level n) (answered 7 s)).reply 0
      go true e = follows_next _ (rw e) for-follows
      go false e = follows-here _ (rw e)

  pub start-exactly : Exactly (start_rules edition level choice n) (start_of s edition level choice n).reply 0
  start-exactly = exactly (start_rules edition level choice n) start-replies

  -- After the edition and the field choice, which are looked at first, the turns never fall.
  pub start-ascending : ascending (drop 2 (start_rules edition level choice n)) ≡ true
  unfolding start_rules block_rules ascending at_most turn number
  start-ascending = refl

-- ---- feeding and finishing

module _ (s : State) (piece : List ℕ) where
  feed-in : (f : Field) → Follows (rule (not (usable f s)) OutOfRange ∷ rule (ltb s.size (s.fed + length piece)) BufferLength ∷ []) (feed_in f s piece).reply 0
  unfolding feed_in reply reply_block verdict verdict_number verdict_block number block
  feed-in f = rw (ltb-not s.size (s.fed + length piece)) (go (usable f s) (leb (s.fed + length piece) s.size))
    where
      go : (a b : Bool) → Follows (rule (not a) OutOfRange ∷ rule (cond b false true) BufferLength ∷ [])
          (cond a (cond b (answered 0 (after f s piece)) (answered 6 s)) (answered 7 s)).reply 0
      go true true = record { number = refl; beside = refl }
      go true false = record { number = refl; beside = refl }
      go false b = record { number = refl; beside = refl }

  pub feed-replies : Follows (feed_rules s piece) (feed_of s piece).reply 0
  unfolding feed_rules goes_on feed_of feed_for number block
  feed-replies = elim (chose s.choice) [
    | known f e l k ↦ rw (e, l, k) (feed-in f)
    | unknown e l ↦ rw (e, l) (follows-here _ refl)
  ]

  pub feed-exactly : Exactly (feed_rules s piece) (feed_of s piece).reply 0
  feed-exactly = exactly (feed_rules s piece) feed-replies

module _ (s : State) (buffer : List ℕ) where
  finish-in : (f : Field) → Follows
      (rule (not (usable f s)) OutOfRange ∷ rule (unequal s.fed s.size) BufferLength ∷ rule (unequal (length buffer) (bytes_for (degree f * (2 * s.level)))) BufferLength ∷ [])
      (finish_in f s buffer).reply 0
  unfolding finish_in finish_reply finished unequal reply reply_block verdict verdict_number verdict_block number block
  finish-in f = go (usable f s) (eqb s.fed s.size) (eqb (length buffer) (bytes_for (degree f * (2 * s.level))))
    where
      replied : (a b c : Bool) → Finished
      replied a b c = cond (eqb (cond a (cond b (cond c 0 6) 6) 7) 0)
          (finished (answered 0 s) (bytes_of (length buffer) (register s.words))) (finished (answered (cond a (cond b (cond c 0 6) 6) 7) s) buffer)

      go : (a b c : Bool) → Follows (rule (not a) OutOfRange ∷ rule (cond b false true) BufferLength ∷ rule (cond c false true) BufferLength ∷ []) (replied a b c).reply 0
      go true true true = record { number = refl; beside = refl }
      go true true false = record { number = refl; beside = refl }
      go true false c = record { number = refl; beside = refl }
      go false b c = record { number = refl; beside = refl }

  pub finish-replies : Follows (finish_rules s buffer) (finish_of s buffer).reply 0
  unfolding finish_rules goes_on finish_of finish_for finished number block
  finish-replies = elim (chose s.choice) [
    | known f e l k ↦ rw (e, l, k) (finish-in f)
    | unknown e l ↦ rw (e, l) (follows-here _ refl)
  ]

  pub finish-exactly : Exactly (finish_rules s buffer) (finish_of s buffer).reply 0
  finish-exactly = exactly (finish_rules s buffer) finish-replies

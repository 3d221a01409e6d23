-- Locating replies as its list of rules says, so each reply is given exactly if its rule applies and none before it does; and how it ends.
use mathlib.Core.Path.{◌≡◌, refl}
use mathlib.Core.Bool.{Bool, true, false, cond}
use mathlib.Core.List.{List, [], ◌∷◌}
use Prim.Native.Nat.{ℕ, zero, suc, ◌*◌, ◌^◌}
use native.Mathlib.Omega.{arith}
use lib.ListN.{length, drop}
use lib.Dec.{eqb, ltb, leb}
use borrow.Author.Tests.{lt-ltb}
use Rattle.replies.specs.declared.Refusal.TheVariants.{LevelTooHigh, EmptyMessage, BlockTooLong, BufferLength, RemainderTooWide, Uncorrectable}
use Rattle.replies.specs.Replies.{number, block, verdict_number, verdict_block, among, unless, unequal, rule, verdict, reply, reply_block}
use Rattle.replies.specs.Edition.{offered, highest}
use Rattle.replies.specs.Given.{Follows, Exactly, turn, at_most, ascending}
use Rattle.replies.proofs.Tests.{leb-not, ltb-not, zero-not}
use Rattle.replies.proofs.Given.{follows_next, follows-here, exactly}
use Rattle.field.specs.declared.Field.{Field}
use Rattle.field.specs.declared.Field.TheVariants.{Thirteen, Fourteen}
use Rattle.std.specs.Prelude.{Option, Some, None}
use Rattle.field.specs.Field.{degree, longest, chosen}
use Rattle.code.specs.Locations.{Locations, exponents, nowhere, locate}
use Rattle.remainder.specs.Remainder.{bytes_for, number_of}
use Rattle.bch.specs.Answers.{Ended, refused, level_of, request_reply, list_in, remainder_in, locate_in, locate_for, locate_of}
use Rattle.bch_replies.specs.ReplyRules.{is_nowhere, rules_in, locate_rules, LocateEnds}

-- How the call ends by its tests, in their order.
module _ (places : List ℕ) where
  replied : (a b c d e g h : Bool) → Locations → Ended
  replied a b c d e g h l =
      cond (eqb (unless a 1 (unless b 2 (unless c 2 (unless d 3 (unless e 6 (unless g 6 0)))))) 0)
      (cond h (list_in l places) (refused 8 places))
      (refused (unless a 1 (unless b 2 (unless c 2 (unless d 3 (unless e 6 (unless g 6 0)))))) places)

  replied-follows : (a b c d e g h : Bool) (l : Locations) → Follows
      (rule (cond a false true) LevelTooHigh
      ∷ rule (cond b false true) EmptyMessage
      ∷ rule (cond c false true) EmptyMessage
      ∷ rule (cond d false true) BlockTooLong
      ∷ rule (cond e false true) BufferLength
      ∷ rule (cond g false true) BufferLength
      ∷ rule (cond h false true) RemainderTooWide
      ∷ rule (is_nowhere l) (Uncorrectable 0)
      ∷ []) (replied a b c d e g h l).reply (replied a b c d e g h l).block
  unfolding replied list_in is_nowhere reply reply_block verdict verdict_number verdict_block number block
  replied-follows true true true true true true true (exponents ps) = record { number = refl; beside = refl }
  replied-follows true true true true true true true nowhere = record { number = refl; beside = refl }
  replied-follows true true true true true true false l = record { number = refl; beside = refl }
  replied-follows true true true true true false h l = record { number = refl; beside = refl }
  replied-follows true true true true false g h l = record { number = refl; beside = refl }
  replied-follows true true true false e g h l = record { number = refl; beside = refl }
  replied-follows true true false d e g h l = record { number = refl; beside = refl }
  replied-follows true false c d e g h l = record { number = refl; beside = refl }
  replied-follows false b c d e g h l = record { number = refl; beside = refl }

  replied-ends : (a b c d e g h : Bool) (l : Locations) → LocateEnds places (replied a b c d e g h l)
  unfolding replied list_in among
  replied-ends true true true true true true true (exponents ps) = record { table = refl; kept = λ n. absurd (n refl); block = refl }
  replied-ends true true true true true true true nowhere = record { table = refl; kept = λ n. refl; block = refl }
  replied-ends true true true true true true false l = record { table = refl; kept = λ n. refl; block = refl }
  replied-ends true true true true true false h l = record { table = refl; kept = λ n. refl; block = refl }
  replied-ends true true true true false g h l = record { table = refl; kept = λ n. refl; block = refl }
  replied-ends true true true false e g h l = record { table = refl; kept = λ n. refl; block = refl }
  replied-ends true true false d e g h l = record { table = refl; kept = λ n. refl; block = refl }
  replied-ends true false c d e g h l = record { table = refl; kept = λ n. refl; block = refl }
  replied-ends false b c d e g h l = record { table = refl; kept = λ n. refl; block = refl }

module _ (edition field n : ℕ) (remainder places : List ℕ) where
  -- the call in a field goes by these tests
  in-replied : (f : Field) → locate_in edition f field n remainder places
      ≡ replied places (leb field (highest edition)) (ltb 0 field) (ltb (degree f * level_of field) n) (leb n (longest f))
      (eqb (length remainder) (bytes_for (degree f * level_of field))) (leb (level_of field) (length places))
      (ltb (number_of remainder) (2 ^ (degree f * level_of field))) (locate f (level_of field) n (number_of remainder))
  unfolding locate_in request_reply remainder_in replied number
  in-replied f = refl

  in-follows : (f : Field) → Follows (rules_in edition f field n remainder places) (locate_in edition f field n remainder places).reply (locate_in edition f field n remainder places).block
  unfolding rules_in unequal
  in-follows f =
      rw (
        in-replied f,
        ltb-not (highest edition) field,
        zero-not field,
        leb-not n (degree f * level_of field),
        ltb-not (longest f) n,
        ltb-not (length places) (level_of field),
        leb-not (2 ^ (degree f * level_of field)) (number_of remainder),
      )
      (replied-follows places (leb field (highest edition)) (ltb 0 field) (ltb (degree f * level_of field) n) (leb n (longest f))
      (eqb (length remainder) (bytes_for (degree f * level_of field))) (leb (level_of field) (length places))
      (ltb (number_of remainder) (2 ^ (degree f * level_of field))) (locate f (level_of field) n (number_of remainder)))

  in-ends : (f : Field) → LocateEnds places (locate_in edition f field n remainder places)
  in-ends f = rw (in-replied f) (replied-ends places _ _ _ _ _ _ _ _)

  -- the call under an edition that is offered, after the rule of the edition
  for-follows : (choice : ℕ) → Follows (drop 1 (locate_rules edition field choice n remainder places))
      (locate_for edition (chosen choice) field n remainder places).reply (locate_for edition (chosen choice) field n remainder places).block
  unfolding locate_rules locate_for chosen number block
  for-follows zero = follows_next _ refl (in-follows Thirteen)
  for-follows (suc zero) = follows_next _ refl (in-follows Fourteen)
  for-follows (suc (suc c)) = follows-here _ (lt-ltb 1 (suc (suc c)) (omega arith))

  pub locate-replies : (choice : ℕ)
      → Follows (locate_rules edition field choice n remainder places) (locate_of edition field choice n remainder places).reply (locate_of edition field choice n remainder places).block
  unfolding locate_rules locate_of number block
  locate-replies choice = go (offered edition) refl
    where
      go : (o : Bool) → offered edition ≡ o → Follows (locate_rules edition field choice n remainder places)
          (cond o (locate_for edition (chosen choice) field n remainder places) (refused 7 places)).reply
          (cond o (locate_for edition (chosen choice) field n remainder places) (refused 7 places)).block
      go true e = follows_next _ (rw e) (for-follows choice)
      go false e = follows-here _ (rw e)

  module _ (choice : ℕ) where
    pub locate-exactly : Exactly (locate_rules edition field choice n remainder places) (locate_of edition field choice n remainder places).reply (locate_of edition field choice n remainder places).block
    locate-exactly = exactly (locate_rules edition field choice n remainder places) (locate-replies choice)

    -- After the edition and the field choice, which are looked at first, the turns never fall: the smallest of those that apply wins.
    pub locate-ascending : ascending (drop 2 (locate_rules edition field choice n remainder places)) ≡ true
    unfolding locate_rules rules_in ascending at_most turn number
    locate-ascending = refl

    pub locate-ends : LocateEnds places (locate_of edition field choice n remainder places)
    unfolding locate_of locate_for among
    locate-ends = known (offered edition)
      where
        go : (c : Option Field) → LocateEnds places (locate_for edition c field n remainder places)
        go (Some f) = in-ends f
        go None = record { table = refl; kept = λ n. refl; block = refl }

        known : (o : Bool) → LocateEnds places (cond o (locate_for edition (chosen choice) field n remainder places) (refused 7 places))
        known true = go (chosen choice)
        known false = record { table = refl; kept = λ n. refl; block = refl }

-- The two calls reply as their lists of rules say, so each reply is given exactly if its rule applies and none before it does; and how they end.
use mathlib.Core.Path.{◌≡◌, refl}
use mathlib.Core.Bool.{Bool, true, false, cond, not}
use mathlib.Core.List.{List, [], ◌∷◌}
use Prim.Native.Nat.{ℕ, ◌^◌}
use lib.ListN.{length}
use lib.Dec.{eqb, ltb}
use Rattle.replies.specs.declared.Refusal.TheVariants.{LevelTooHigh, BufferLength, RemainderTooWide}
use Rattle.replies.specs.Replies.{number, block, verdict_number, verdict_block, among, unequal, rule, verdict, reply_block}
use Rattle.replies.specs.Replies as table
use Rattle.replies.specs.Given.{Follows, Exactly, turn, at_most, ascending}
use Rattle.replies.proofs.Tests.{leb-not}
use Rattle.replies.proofs.Given.{exactly}
use Rattle.remainder.specs.Remainder.{bytes_for, number_of}
use Rattle.register_fragments.specs.Fragments.{joined}
use Rattle.fragments.specs.Calls.{offered, coefficients, fitting, ending, reply, export_of, import_of}
use Rattle.fragment_replies.specs.ReplyRules.{request_rules, export_rules, import_rules, FragmentsEnds}
use Rattle.fragments.proofs.Meaning.{export-keeps, import-keeps}

module _ (field bytes count x : ℕ) where
  request-follows : Follows (request_rules field bytes count x) (reply field bytes count x) 0
  unfolding request_rules reply fitting unequal table.reply reply_block verdict verdict_number verdict_block number block
  request-follows = rw (leb-not (2 ^ coefficients field) x)
      (go (offered field) (eqb bytes (bytes_for (coefficients field))) (eqb count 7) (ltb x (2 ^ coefficients field)))
    where
      go : (a b c d : Bool) → Follows
          (rule (not a) LevelTooHigh ∷ rule (cond b false true) BufferLength ∷ rule (cond c false true) BufferLength ∷ rule (cond d false true) RemainderTooWide ∷ [])
          (cond a (cond (cond b c false) (cond d 0 8) 6) 1) 0
      go true true true true = record { number = refl; beside = refl }
      go true true true false = record { number = refl; beside = refl }
      go true true false d = record { number = refl; beside = refl }
      go true false c d = record { number = refl; beside = refl }
      go false b c d = record { number = refl; beside = refl }

  request-table : among (reply field bytes count x) (0 ∷ 1 ∷ 6 ∷ 8 ∷ []) ≡ true
  unfolding reply among number
  request-table = go (offered field) (fitting (coefficients field) bytes count) (ltb x (2 ^ coefficients field))
    where
      go : (a b c : Bool) → among (cond a (cond b (cond c 0 8) 6) 1) (0 ∷ 1 ∷ 6 ∷ 8 ∷ []) ≡ true
      go true true true = refl
      go true true false = refl
      go true false c = refl
      go false b c = refl

  -- where several rules apply the smallest number wins
  pub request-ascending : ascending (request_rules field bytes count x) ≡ true
  unfolding request_rules ascending at_most turn number
  request-ascending = refl

module _ (field : ℕ) (remainder fragments : List ℕ) where
  pub export-replies : Follows (export_rules field remainder fragments) (export_of field remainder fragments).reply (export_of field remainder fragments).block
  unfolding export_rules export_of ending
  export-replies = request-follows field (length remainder) (length fragments) (number_of remainder)

  pub export-exactly : Exactly (export_rules field remainder fragments) (export_of field remainder fragments).reply (export_of field remainder fragments).block
  export-exactly = exactly (export_rules field remainder fragments) export-replies

  pub export-ends : FragmentsEnds fragments (export_of field remainder fragments)
  export-ends = record {
    table = unfold export_of ending in request-table field (length remainder) (length fragments) (number_of remainder);
    kept = export-keeps field remainder fragments;
    block = unfold export_of ending in refl;
  }

  pub import-replies : Follows (import_rules field fragments remainder) (import_of field fragments remainder).reply (import_of field fragments remainder).block
  unfolding import_rules import_of ending
  import-replies = request-follows field (length remainder) (length fragments) (joined fragments)

  pub import-exactly : Exactly (import_rules field fragments remainder) (import_of field fragments remainder).reply (import_of field fragments remainder).block
  import-exactly = exactly (import_rules field fragments remainder) import-replies

  pub import-ends : FragmentsEnds remainder (import_of field fragments remainder)
  import-ends = record {
    table = unfold import_of ending in request-table field (length remainder) (length fragments) (joined fragments);
    kept = import-keeps field remainder fragments;
    block = unfold import_of ending in refl;
  }

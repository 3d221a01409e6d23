-- The replies of locating from a remainder as one list of rules in the order in which they are looked at (document 01, "Replies" and "Remainder"),
-- and how the call ends (demand 1). The first rule that applies is given (replies/Given).
--
-- is_nowhere l                        no set was located
-- rules_in edition f field n remainder places     1, 2, 3, 6, 8 and 9 in the field f
-- locate_rules edition field choice n remainder places     7 for the edition and for the field choice, then those in its field
-- LocateEnds places r                a reply of the table, about block 0; after a refusal the lent list is as it was, and no size is given
use Rattle.std.specs.Prelude.{◌≡◌, Bool, true, false, not, cond, List, [], ◌∷◌, ℕ, ◌*◌, ◌^◌, length, eqb, ltb, leb}
use Rattle.replies.specs.declared.Refusal.TheVariants.{LevelTooHigh, EmptyMessage, BlockTooLong, BufferLength, OutOfRange, RemainderTooWide, Uncorrectable}
use Rattle.replies.specs.Replies.{among, unequal, Rule, rule}
use Rattle.replies.specs.Edition.{offered, highest}
use Rattle.field.specs.declared.Field.{Field}
use Rattle.field.specs.declared.Field.TheVariants.{Thirteen, Fourteen}
use Rattle.field.specs.Field.{degree, longest}
use Rattle.code.specs.Locations.{Locations, exponents, nowhere, locate}
use Rattle.remainder.specs.Remainder.{bytes_for, number_of}
use Rattle.bch.specs.Answers.{Ended, refused, level_of}

unfoldable pub is_nowhere : Locations → Bool
is_nowhere (exponents ps) = false
is_nowhere nowhere = true

-- 2 also where t = 0 or n is at most mt; 6 for the remainder and for the list.
unfoldable pub rules_in : ℕ → Field → ℕ → ℕ → List ℕ → List ℕ → List Rule
rules_in edition f field n remainder places =
    rule (ltb (highest edition) field) LevelTooHigh
    ∷ rule (eqb field 0) EmptyMessage
    ∷ rule (leb n (degree f * level_of field)) EmptyMessage
    ∷ rule (ltb (longest f) n) BlockTooLong
    ∷ rule (unequal (length remainder) (bytes_for (degree f * level_of field))) BufferLength
    ∷ rule (ltb (length places) (level_of field)) BufferLength
    ∷ rule (leb (2 ^ (degree f * level_of field)) (number_of remainder)) RemainderTooWide
    ∷ rule (is_nowhere (locate f (level_of field) n (number_of remainder))) (Uncorrectable 0)
    ∷ []

unfoldable pub locate_rules : ℕ → ℕ → ℕ → ℕ → List ℕ → List ℕ → List Rule
locate_rules edition field choice n remainder places =
    rule (not (offered edition)) OutOfRange
    ∷ rule (ltb 1 choice) OutOfRange
    ∷ rules_in edition (cond (eqb choice 0) Thirteen Fourteen) field n remainder places

pub record LocateEnds (places : List ℕ) (r : Ended) : Type 0 where
  pub table : among r.reply (0 ∷ 1 ∷ 2 ∷ 3 ∷ 6 ∷ 7 ∷ 8 ∷ 9 ∷ []) ≡ true
  pub kept : (r.reply ≡ 0 → ⊥) → r ≡ refused r.reply places
  pub block : r.block ≡ 0

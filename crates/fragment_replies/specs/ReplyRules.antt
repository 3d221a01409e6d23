-- The replies of the two calls as one list of rules in the order in which they are looked at (document 02, E9), and how a call ends (demand 1).
-- The first rule that applies is given (replies/Given).
--
-- request_rules field bytes count x     1 for the level, 6 for each length, 8 for the number x
-- export_rules, import_rules             the calls
-- FragmentsEnds lent r                 a reply of the table, about block 0; after a refusal the lent list is as it was
use Rattle.std.specs.Prelude.{◌≡◌, true, not, List, [], ◌∷◌, ℕ, ◌^◌, length, leb}
use Rattle.replies.specs.declared.Refusal.TheVariants.{LevelTooHigh, BufferLength, RemainderTooWide}
use Rattle.replies.specs.Replies.{among, unequal, Rule, rule}
use Rattle.remainder.specs.Remainder.{bytes_for, number_of}
use Rattle.register_fragments.specs.Fragments.{joined}
use Rattle.fragments.specs.Calls.{offered, coefficients, Ended}

unfoldable pub request_rules : ℕ → ℕ → ℕ → ℕ → List Rule
request_rules field bytes count x =
    rule (not (offered field)) LevelTooHigh
    ∷ rule (unequal bytes (bytes_for (coefficients field))) BufferLength
    ∷ rule (unequal count 7) BufferLength
    ∷ rule (leb (2 ^ coefficients field) x) RemainderTooWide
    ∷ []

unfoldable pub export_rules : ℕ → List ℕ → List ℕ → List Rule
export_rules field remainder fragments = request_rules field (length remainder) (length fragments) (number_of remainder)

unfoldable pub import_rules : ℕ → List ℕ → List ℕ → List Rule
import_rules field fragments remainder = request_rules field (length remainder) (length fragments) (joined fragments)

pub record FragmentsEnds (lent : List ℕ) (r : Ended) : Type 0 where
  pub table : among r.reply (0 ∷ 1 ∷ 6 ∷ 8 ∷ []) ≡ true
  pub kept : (r.reply ≡ 0 → ⊥) → r.lent ≡ lent
  pub block : r.block ≡ 0

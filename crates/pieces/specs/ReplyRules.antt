-- The replies of starting, feeding and finishing, each as one list of rules in the order in which they are looked at (document 02, E4). The first that
-- applies is given (replies/Given). The block beside the reply is always 0.
--
-- block_rules edition f level n     1, 2 and 3 as a block of a page gets them
-- goes_on s                 the state can be gone on with: its field choice is offered, and it is usable in that field
-- start_rules, feed_rules, finish_rules     the calls
use Rattle.std.specs.Prelude.{Bool, false, cond, not, List, [], ◌∷◌, ℕ, ◌+◌, ◌*◌, length, eqb, ltb}
use Rattle.replies.specs.declared.Refusal.TheVariants.{LevelTooHigh, EmptyMessage, BlockTooLong, BufferLength, OutOfRange}
use Rattle.replies.specs.Replies.{unequal, Rule, rule}
use Rattle.replies.specs.Edition.{offered, highest}
use Rattle.field.specs.declared.Field.{Field}
use Rattle.field.specs.Field.{degree}
use Rattle.layout_plan.specs.Record.{field_of}
use Rattle.layout_replies.specs.ReplyRules.{too_long}
use Rattle.remainder.specs.Remainder.{bytes_for}
use Rattle.piece_rules.specs.declared.State.{State}
use Rattle.piece_rules.specs.Rules.{shape_for, usable}

unfoldable pub block_rules : ℕ → Field → ℕ → ℕ → List Rule
block_rules edition f level n =
    rule (ltb (highest edition) level) LevelTooHigh
    ∷ rule (eqb n 0) EmptyMessage
    ∷ rule (too_long (shape_for f level n)) BlockTooLong
    ∷ []

-- 7 first: an edition that is not offered, and then a field choice.
unfoldable pub start_rules : ℕ → ℕ → ℕ → ℕ → List Rule
start_rules edition level choice n =
    rule (not (offered edition)) OutOfRange
    ∷ rule (ltb 1 choice) OutOfRange
    ∷ block_rules edition (field_of choice) level n

unfoldable pub goes_on : State → Bool
goes_on s = cond (ltb 1 s.choice) false (usable (field_of s.choice) s)

-- 6: a piece that would pass the length stated at the start.
unfoldable pub feed_rules : State → List ℕ → List Rule
feed_rules s piece = rule (not (goes_on s)) OutOfRange ∷ rule (ltb s.size (s.fed + length piece)) BufferLength ∷ []

-- 6: a message that is not whole, or a buffer of another length than a parity's.
unfoldable pub finish_rules : State → List ℕ → List Rule
finish_rules s buffer =
    rule (not (goes_on s)) OutOfRange
    ∷ rule (unequal s.fed s.size) BufferLength
    ∷ rule (unequal (length buffer) (bytes_for (degree (field_of s.choice) * (2 * s.level)))) BufferLength
    ∷ []

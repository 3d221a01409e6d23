-- The rules of a block whose message arrives in pieces (document 02, E4): which can be started, which states can be gone on with and finished.
--
-- shape_for f level n        the shape of a block with a message of n bytes (layout_plan/Plan)
-- start_reply edition f level n      1, 2 or 3 where a block of a page would get it (layout/Acceptance), else 0
-- usable f s                a start in the field f under some edition accepts the numbers of the state, no more is fed than the message has, and what is carried is below 2^(mt)
-- finish_reply f s n         the reply about finishing into a buffer of n bytes
use Rattle.std.specs.Prelude.{Bool, false, cond, ℕ, ◌*◌, ◌^◌, eqb, leb, ltb, ⊤, Result, Ok, Err}
use Rattle.field.specs.declared.Field.{Field}
use Rattle.field.specs.Field.{degree}
use Rattle.replies.specs.declared.Refusal.TheVariants as refusal
use Rattle.replies.specs.Replies.{number, unless}
use Rattle.layout_plan.specs.declared.Shape.{Shape}
use Rattle.layout.specs.declared.Reason.{Reason}
use Rattle.layout.specs.declared.Kind.TheVariants.{First}
use Rattle.layout_plan.specs.Plan.{shape_with}
use Rattle.layout.specs.Acceptance.{either, level_rule, message_rule, length_rule, rule_number}
use Rattle.code.specs.Register.{register}
use Rattle.remainder.specs.Remainder.{bytes_for}
use Rattle.piece_rules.specs.declared.State.{State}

-- t is twice the level field, 0 where there is no ECC.
unfoldable pub shape_for : Field → ℕ → ℕ → Shape
shape_for f level n = shape_with (8 * n) f (2 * level)

unfoldable pub finding_reply : Result ⊤ Reason → ℕ
finding_reply (Ok _) = 0
finding_reply (Err reason) = rule_number reason.rule

-- The rules of one block, in their order.
unfoldable pub start_reply : ℕ → Field → ℕ → ℕ → ℕ
start_reply edition f level n =
    finding_reply
    (either (level_rule edition First (record { ecc = level; gf = f; units = 0 }))
    (either (message_rule First (shape_for f level n)) (length_rule First (shape_for f level n))))

-- A state does not say under which edition it was started. What edition 1 accepts edition 2 accepts too (proofs/Replies `right-second`), so the
-- editions together accept what edition 2 does.
unfoldable pub usable : Field → State → Bool
usable f s =
    cond (eqb (start_reply 2 f s.level s.size) 0)
    (cond (leb s.fed s.size) (ltb (register s.words) (2 ^ (degree f * (2 * s.level)))) false)
    false

-- 7: a state that cannot be gone on with. 6: a message that is not whole, or a buffer of another length than a parity's.
unfoldable pub finish_reply : Field → State → ℕ → ℕ
finish_reply f s n =
    unless (usable f s) (number refusal.OutOfRange)
    (unless (eqb s.fed s.size) (number refusal.BufferLength)
    (unless (eqb n (bytes_for (degree f * (2 * s.level)))) (number refusal.BufferLength)
    0))

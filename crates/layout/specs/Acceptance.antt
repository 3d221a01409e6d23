-- Whether a layout is accepted, and the reason where it is not (document 01, "Replies", 1 to 4, 6 and 7; document 02, E7, 11, and E13).
--
-- test broken r           the finding of one rule
-- level_rule, message_rule, length_rule, mark_rule, room_rule    what the rules of the replies 1, 2, 3, 11 and 4 find
-- either f g              the finding f, or g where f found nothing
-- of_blocks n f g          the finding f about block 0, then g about the n later blocks
-- finding_of f q           the first broken rule of a layout of the fields f and the plan q
-- judged l f              the answer to a layout by the finding f
-- acceptance words        the answer to a layout record and the edition beside it
-- rule_refusal, refusal_of  what a broken rule and a refusal are in document 01's table (replies/Replies)
-- rule_number, refusal_reply   its number there
use Rattle.std.specs.Prelude.{ℕ, ◌+◌, Bool, false, cond, length, eqb, ltb, ⊤, Result, Ok, Err}
use Rattle.field.specs.Field.{longest}
use Rattle.replies.specs.declared.Refusal as table
use Rattle.replies.specs.declared.Refusal.TheVariants as row
use Rattle.replies.specs.Replies.{number}
use Rattle.replies.specs.Edition.{offered, highest}
use Rattle.layout_plan.specs.declared.BlockFields.{BlockFields}
use Rattle.layout_plan.specs.declared.Fields.{Fields}
use Rattle.layout_plan.specs.declared.Layout.{Layout}
use Rattle.layout_plan.specs.declared.Shape.{Shape}
use Rattle.layout_plan.specs.declared.Plan.{Plan}
use Rattle.layout.specs.declared.Rule.{Rule}
use Rattle.layout.specs.declared.Rule.TheVariants.{Level, Message, Length, Outside, Room}
use Rattle.layout.specs.declared.Kind.{Kind}
use Rattle.layout.specs.declared.Kind.TheVariants.{First, Later, Page}
use Rattle.layout.specs.declared.Reason.{Reason}
use Rattle.layout.specs.declared.Refusal.{Refusal}
use Rattle.layout.specs.declared.Refusal.TheVariants as refusal
use Rattle.layout_plan.specs.Record.{Words, record_length, fields_in, layout_of}
use Rattle.layout_plan.specs.Plan.{plan_of, used, room}

-- A rule that is broken gives its reason.
unfoldable pub test : Bool → Reason → Result ⊤ Reason
test broken r = cond broken (Err r) (Ok _)

-- 1: a level field above the highest of the edition
unfoldable pub level_rule : ℕ → Kind → BlockFields → Result ⊤ Reason
level_rule e kind fields =
    test (ltb (highest e) fields.ecc) (record { rule = Level; kind = kind; found = fields.ecc; limit = highest e })

-- 2: an empty message
unfoldable pub message_rule : Kind → Shape → Result ⊤ Reason
message_rule kind s = test (ltb s.message 1) (record { rule = Message; kind = kind; found = s.message; limit = 1 })

-- 3: a block with t > 0 longer than 2^m - 1 bits
unfoldable pub length_rule : Kind → Shape → Result ⊤ Reason
length_rule kind s =
    test (cond (eqb s.level 0) false (ltb (longest s.field) s.covered))
    (record { rule = Length; kind = kind; found = s.covered; limit = longest s.field })

-- The first finding decides where it is a broken rule.
unfoldable pub either : Result ⊤ Reason → Result ⊤ Reason → Result ⊤ Reason
either (Ok _) g = g
either (Err r) g = Err r

-- 11: offset plus length of the mark beyond PAGE_SIZE, or zero bits that are not zero (document 02, E7)
unfoldable pub mark_rule : Fields → Result ⊤ Reason
mark_rule f =
    either
    (test (ltb f.page (f.mark.offset + f.mark.length))
    (record { rule = Outside; kind = Page; found = f.mark.offset + f.mark.length; limit = f.page }))
    (test (ltb 0 f.zeros) (record { rule = Outside; kind = Page; found = f.zeros; limit = 0 }))

-- 4: the blocks need more than 8 times (PAGE_SIZE - length) bits
unfoldable pub room_rule : Plan → Result ⊤ Reason
room_rule q = test (ltb (room q) (used q)) (record { rule = Room; kind = Page; found = used q; limit = room q })

-- Where NBLOCKS is 0 the fields of later blocks are not examined.
unfoldable pub of_blocks : ℕ → Result ⊤ Reason → Result ⊤ Reason → Result ⊤ Reason
of_blocks n f g = cond (eqb n 0) f (either f g)

-- The smallest number wins, but that 11 is looked at after 3 and before 4; of two kinds of block that break one rule, block 0 is named.
unfoldable pub finding_of : Fields → Plan → Result ⊤ Reason
finding_of f q =
    either (of_blocks f.nblocks (level_rule f.edition First f.first) (level_rule f.edition Later f.later))
    (either (of_blocks f.nblocks (message_rule First q.first) (message_rule Later q.later))
    (either (of_blocks f.nblocks (length_rule First q.first) (length_rule Later q.later))
    (either (mark_rule f)
    (room_rule q))))

-- A layout that breaks no rule is accepted.
unfoldable pub judged : Layout → Result ⊤ Reason → Result Layout Refusal
judged l (Ok _) = Ok l
judged l (Err r) = Err (refusal.Rule r)

-- Another edition is refused before anything is looked at, and then a record of another length.
unfoldable pub acceptance : Words → Result Layout Refusal
acceptance w =
    cond (offered w.edition)
    (cond (record_length (length w.bytes))
    (judged (layout_of w) (finding_of (fields_in w) (plan_of (layout_of w))))
    (Err refusal.RecordLength))
    (Err refusal.Edition)

-- The replies 1 to 4 of document 01's table, and 11 of document 02, E7.
unfoldable pub rule_refusal : Rule → table.Refusal
rule_refusal Level = row.LevelTooHigh
rule_refusal Message = row.EmptyMessage
rule_refusal Length = row.BlockTooLong
rule_refusal Outside = row.MarkOutside
rule_refusal Room = row.PageTooSmall

-- A record of another length is a lent buffer of another length, 6; a number outside its range is 7, and so is another edition.
unfoldable pub refusal_of : Refusal → table.Refusal
refusal_of refusal.Edition = row.OutOfRange
refusal_of refusal.RecordLength = row.BufferLength
refusal_of (refusal.Rule r) = rule_refusal r.rule
refusal_of refusal.Range = row.OutOfRange

unfoldable pub rule_number : Rule → ℕ
rule_number r = number (rule_refusal r)

unfoldable pub refusal_reply : Refusal → ℕ
refusal_reply r = number (refusal_of r)

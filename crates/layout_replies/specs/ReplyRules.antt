-- The replies of the calls about a layout, each as one list of rules in the order in which they are looked at (document 01, "Replies",
-- "Layout words" and "Bits"). The first that applies is given (replies/Given). What a layout is refused for comes first in every call that takes one:
-- `before`, a list of its own for whatever names the layout; q is the plan of the layout.
--
-- Ruled before q a        the answer a follows the rules `before`: it accepts a layout with the plan q if none of them applies, and refuses for the first
--                         that does
-- Ascends n before        after the first n of these rules, which are looked at first of all, the turns never fall, and all come before 5
-- too_long s               a block with t > 0 longer than 2^m - 1 bits
-- of_later f broken        a later block breaks a rule: only where there is one
-- layout_rules words       7 for the edition, 6 for the record's length, then 1, 2, 3, 11 and 4, the first three about block 0 and about the later blocks
-- bit_rules before q p     those of the layout, then 7 for a position
-- position_rules before q b e  those of the layout, then 7 for a block and for an exponent
use Rattle.std.specs.Prelude.{ℕ, ◌+◌, ◌*◌, ◌≤◌, ◌≡◌, List, [], ◌∷◌, ◌++◌, Bool, true, false, not, cond, length, drop, eqb, ltb, leb, Result, Ok, Err}
use Rattle.field.specs.Field.{longest}
use Rattle.replies.specs.declared.Refusal.TheVariants.{LevelTooHigh, EmptyMessage, BlockTooLong, MarkOutside, PageTooSmall, PageLength, BufferLength, OutOfRange}
use Rattle.replies.specs.Replies as replies
use Rattle.replies.specs.Replies.{rule, verdict}
use Rattle.replies.specs.Given.{None, ascending}
use Rattle.replies.specs.Edition.{offered, highest}
use Rattle.layout_plan.specs.declared.Fields.{Fields}
use Rattle.layout_plan.specs.declared.Shape.{Shape}
use Rattle.layout_plan.specs.declared.Plan.{Plan}
use Rattle.layout_plan.specs.declared.Layout.{Layout}
use Rattle.layout.specs.declared.Refusal.{Refusal}
use Rattle.layout_plan.specs.Record.{Words, fields_in, layout_of, record_length}
use Rattle.layout_plan.specs.Plan.{plan_of, covered, used, room}
use Rattle.layout.specs.Acceptance.{refusal_of}

pub data Ruled (before : List replies.Rule) : Plan → Result Layout Refusal → Type 0 where
  accepts : (l : Layout) → None before → Ruled before (plan_of l) (Ok l)
  refuses : (q : Plan) (r : Refusal) → verdict before ≡ Err (refusal_of r) → Ruled before q (Err r)

pub record Ascends (n : ℕ) (before : List replies.Rule) : Type 0 where
  pub first : n ≤ length before
  pub rest : ascending (drop n before ++ (rule true PageLength ∷ [])) ≡ true

unfoldable pub too_long : Shape → Bool
too_long s = cond (eqb s.level 0) false (ltb (longest s.field) s.covered)

-- Where NBLOCKS is 0 the fields of later blocks are not examined.
unfoldable pub of_later : Fields → Bool → Bool
of_later f broken = cond (eqb f.nblocks 0) false broken

unfoldable pub field_rules : Fields → Plan → List replies.Rule
field_rules f q =
    rule (ltb (highest f.edition) f.first.ecc) LevelTooHigh
    ∷ rule (of_later f (ltb (highest f.edition) f.later.ecc)) LevelTooHigh
    ∷ rule (eqb q.first.message 0) EmptyMessage
    ∷ rule (of_later f (eqb q.later.message 0)) EmptyMessage
    ∷ rule (too_long q.first) BlockTooLong
    ∷ rule (of_later f (too_long q.later)) BlockTooLong
    ∷ rule (ltb f.page (f.mark.offset + f.mark.length)) MarkOutside
    ∷ rule (ltb 0 f.zeros) MarkOutside
    ∷ rule (ltb (room q) (used q)) PageTooSmall
    ∷ []

unfoldable pub layout_rules : Words → List replies.Rule
layout_rules w =
    rule (not (offered w.edition)) OutOfRange
    ∷ rule (not (record_length (length w.bytes))) BufferLength
    ∷ field_rules (fields_in w) (plan_of (layout_of w))

unfoldable pub bit_rules : List replies.Rule → Plan → ℕ → List replies.Rule
bit_rules before q p = before ++ (rule (leb (8 * q.size) p) OutOfRange ∷ [])

unfoldable pub position_rules : List replies.Rule → Plan → ℕ → ℕ → List replies.Rule
position_rules before q b e = before ++ (rule (leb q.blocks b) OutOfRange ∷ rule (leb (covered q b) e) OutOfRange ∷ [])

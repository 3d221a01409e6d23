-- The replies of the two calls on two pages, each as one list of rules in the order in which they are looked at (document 02, E10; replies/Given).
-- What an edition and a layout record are refused for comes first (layout_replies/ReplyRules `layout_rules`); q is the plan of the record.
--
-- too_large q                            PAGE_SIZE is above 16,384
-- compare_in, compare_rules               comparing two pages
-- difference_in, difference_rules         the next position at which they differ
use Rattle.std.specs.Prelude.{Bool, true, false, cond, List, [], ◌∷◌, ◌++◌, ℕ, length, leb}
use Rattle.replies.specs.declared.Refusal.TheVariants.{BufferLength}
use Rattle.replies.specs.Replies.{unequal, Rule, rule}
use Rattle.layout_plan.specs.declared.Plan.{Plan}
use Rattle.layout_plan.specs.Record.{Words, layout_of}
use Rattle.layout_plan.specs.Plan.{plan_of}
use Rattle.layout_replies.specs.ReplyRules.{layout_rules}
use Rattle.page_theory.specs.ReplyRules.{page_rule}

unfoldable pub too_large : Plan → Bool
too_large q = cond (leb q.size 16384) false true

unfoldable pub compare_in : Plan → List ℕ → List ℕ → List ℕ → List ℕ → List Rule
compare_in q first second lent other =
    page_rule q first
    ∷ page_rule q second
    ∷ rule (too_large q) BufferLength
    ∷ rule (unequal (length lent) q.blocks) BufferLength
    ∷ rule (unequal (length other) q.blocks) BufferLength
    ∷ []

unfoldable pub compare_rules : Words → List ℕ → List ℕ → List ℕ → List ℕ → List Rule
compare_rules rec first second lent other = layout_rules rec ++ compare_in (plan_of (layout_of rec)) first second lent other

unfoldable pub difference_in : Plan → List ℕ → List ℕ → List Rule
difference_in q first second = page_rule q first ∷ page_rule q second ∷ rule (too_large q) BufferLength ∷ []

unfoldable pub difference_rules : Words → List ℕ → List ℕ → List Rule
difference_rules rec first second = layout_rules rec ++ difference_in (plan_of (layout_of rec)) first second

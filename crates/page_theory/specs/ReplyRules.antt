-- The replies of the five page calls, each as one list of rules in the order in which they are looked at (document 01, "Replies"). The first that
-- applies is given (replies/Given). What a layout is refused for comes first: `before`, a list of its own for whatever names the layout (layout_replies/ReplyRules
-- `Ruled`; for layout words `layout_rules`); q is the plan of the layout.
--
-- is_ruined o               an outcome is that the block has no codeword within t flips and more than t zeros
-- is_wrong d                what is decided does not hold
-- page_rule q page          5: the lent page
-- ruined_rules q page n     9 for each of the first n blocks, the lowest first
-- write_rules, look_rules, take_rules, judge_rules, claim_rules     the calls
use Rattle.std.specs.Prelude.{Bool, true, false, List, [], ◌∷◌, ◌++◌, ℕ, zero, suc, length, leb}
use Rattle.replies.specs.declared.Refusal.TheVariants.{PageLength, BufferLength, OutOfRange, Uncorrectable, ClaimWrong}
use Rattle.replies.specs.Replies.{unequal, Rule, rule}
use Rattle.layout_plan.specs.declared.Plan.{Plan}
use Rattle.layout_plan.specs.Plan.{field, level}
use Rattle.code.specs.Outcome.{Outcome, good, erased, ruined}
use Rattle.page_theory.specs.Page.{block_word}
use Rattle.page_theory.specs.Reading.{outcome}
use Rattle.page_theory.specs.Claim.{right?}

unfoldable pub is_ruined : Outcome → Bool
is_ruined (good m n) = false
is_ruined (erased m z) = false
is_ruined ruined = true

unfoldable pub is_wrong : {P : Type 0} → Dec P → Bool
is_wrong (yes p) = false
is_wrong (no n) = true

abbrev pub page_rule : Plan → List ℕ → Rule
page_rule q page = rule (unequal (length page) q.size) PageLength

-- The lowest ruined block is named.
unfoldable pub ruined_rules : Plan → List ℕ → ℕ → List Rule
ruined_rules q page zero = []
ruined_rules q page (suc b) = ruined_rules q page b ++ (rule (is_ruined (outcome q page b)) (Uncorrectable b) ∷ [])

unfoldable pub write_in : Plan → List ℕ → List ℕ → List ℕ → List Rule
write_in q metadata «data» page =
    page_rule q page
    ∷ rule (unequal (length metadata) q.metadata) BufferLength
    ∷ rule (unequal (length «data») q.«data») BufferLength
    ∷ []

unfoldable pub write_rules : List Rule → Plan → List ℕ → List ℕ → List ℕ → List Rule
write_rules before q metadata «data» page = before ++ write_in q metadata «data» page

unfoldable pub look_in : Plan → List ℕ → List ℕ → List Rule
look_in q page counts =
    page_rule q page
    ∷ rule (unequal (length counts) q.blocks) BufferLength
    ∷ ruined_rules q page q.blocks

unfoldable pub look_rules : List Rule → Plan → List ℕ → List ℕ → List Rule
look_rules before q page counts = before ++ look_in q page counts

unfoldable pub take_in : Plan → List ℕ → List ℕ → List ℕ → List Rule
take_in q page metadata «data» =
    page_rule q page
    ∷ rule (unequal (length metadata) q.metadata) BufferLength
    ∷ rule (unequal (length «data») q.«data») BufferLength
    ∷ ruined_rules q page q.blocks

unfoldable pub take_rules : List Rule → Plan → List ℕ → List ℕ → List ℕ → List Rule
take_rules before q page metadata «data» = before ++ take_in q page metadata «data»

unfoldable pub judge_in : Plan → List ℕ → ℕ → List Rule
judge_in q page b =
    page_rule q page
    ∷ rule (leb q.blocks b) OutOfRange
    ∷ rule (is_ruined (outcome q page b)) (Uncorrectable b)
    ∷ []

unfoldable pub judge_rules : List Rule → Plan → List ℕ → ℕ → List Rule
judge_rules before q page b = before ++ judge_in q page b

unfoldable pub claim_in : Plan → List ℕ → ℕ → List ℕ → List Rule
claim_in q page b claims =
    page_rule q page
    ∷ rule (leb q.blocks b) OutOfRange
    ∷ rule (is_wrong (right? (field q b) (level q b) (block_word q page b) claims)) ClaimWrong
    ∷ []

unfoldable pub claim_rules : List Rule → Plan → List ℕ → ℕ → List ℕ → List Rule
claim_rules before q page b claims = before ++ claim_in q page b claims

-- Whether a layout of sectors is accepted, and the reason where it is not (document 02, E12). The plan of a page of sectors is layout_plan/SectorPlan.
--
-- in_count n               a page may have n sectors
-- sector_fields s          the fields that the rules of layout words look at: no metadata, no mark, one level field and one field choice for all
-- sector_found s           the answer by the rules of layout words, of the plan of the sectors
-- sector_acceptance s      the answer to the six numbers and the edition
-- sector_rules s           the same as a list of rules: 7 for the count, for the field choice and for the edition, then 1, 2, 3 and 4
use Rattle.layout.specs.declared.Refusal.{Refusal}
use Rattle.layout_plan.specs.declared.Layout.{Layout}
use Rattle.std.specs.Prelude.{ℕ, ◌-◌, List, ◌∷◌, Bool, false, not, cond, eqb, leb, Result, Err}
use Rattle.replies.specs.declared.Refusal.TheVariants as row
use Rattle.replies.specs.Replies.{Rule, rule}
use Rattle.replies.specs.Edition.{offered}
use Rattle.layout_plan.specs.declared.Sectors.{Sectors}
use Rattle.layout_plan.specs.declared.BlockFields.{BlockFields}
use Rattle.layout_plan.specs.declared.Fields.{Fields}
use Rattle.layout.specs.declared.Refusal.TheVariants as refusal
use Rattle.layout_plan.specs.Record.{field_of}
use Rattle.layout_plan.specs.SectorPlan.{sector_plan, sector_layout}
use Rattle.layout.specs.Acceptance.{finding_of, judged}
use Rattle.layout_replies.specs.ReplyRules.{field_rules}

-- 1 to 16
unfoldable pub in_count : ℕ → Bool
in_count n = cond (eqb n 0) false (leb n 16)

unfoldable pub block_fields : Sectors → BlockFields
block_fields s = record { ecc = s.level; gf = field_of s.choice; units = 0 }

-- Where there is one sector, the sector size is not examined: there are no later blocks.
unfoldable pub sector_fields : Sectors → Fields
sector_fields s = record {
  nblocks = s.count - 1;
  metadata = 0;
  first = block_fields s;
  page = s.page;
  later = block_fields s;
  mark = record { offset = 0; length = 0 };
  zeros = 0;
  edition = s.edition;
}

unfoldable pub sector_found : Sectors → Result Layout Refusal
sector_found s = judged (sector_layout s) (finding_of (sector_fields s) (sector_plan s))

-- The count is looked at first, then the field choice and the edition.
unfoldable pub sector_acceptance : Sectors → Result Layout Refusal
sector_acceptance s =
    cond (in_count s.count)
    (cond (leb s.choice 1)
    (cond (offered s.edition)
    (sector_found s)
    (Err refusal.Edition))
    (Err refusal.Range))
    (Err refusal.Range)

unfoldable pub sector_rules : Sectors → List Rule
sector_rules s =
    rule (not (in_count s.count)) row.OutOfRange
    ∷ rule (not (leb s.choice 1)) row.OutOfRange
    ∷ rule (not (offered s.edition)) row.OutOfRange
    ∷ field_rules (sector_fields s) (sector_plan s)

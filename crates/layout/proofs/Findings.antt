-- The answer to a record by what was found of its rules.
use mathlib.Core.Path.{◌≡◌, sym, ◌∙◌}
use mathlib.Core.Bool.{true}
use lib.ListN.{length}
use Rattle.std.specs.Prelude.{⊤, Result, Ok, Err}
use Rattle.replies.specs.Edition.{offered}
use Rattle.layout_plan.specs.declared.Layout.{Layout}
use Rattle.layout.specs.declared.Reason.{Reason}
use Rattle.layout.specs.declared.Refusal.TheVariants as refusal
use Rattle.layout_plan.specs.Record.{Words, fields_in, layout_of, record_length}
use Rattle.layout_plan.specs.Plan.{plan_of}
use Rattle.layout.specs.Acceptance.{finding_of, judged, acceptance}

-- of a record
module _ (w : Words) (known : offered w.edition ≡ true) (right : record_length (length w.bytes) ≡ true)
    {x : Result ⊤ Reason} (found : x ≡ finding_of (fields_in w) (plan_of (layout_of w))) where
  pub kept-accepted : {l : Layout} → l ≡ layout_of w → x ≡ Ok _ → Ok l ≡ acceptance w
  unfolding acceptance judged
  kept-accepted e k = rw (known, right, sym found ∙ k, e)

  pub broken-refused : {r : Reason} → x ≡ Err r → Err (refusal.Rule r) ≡ acceptance w
  unfolding acceptance judged
  broken-refused k = rw (known, right, sym found ∙ k)

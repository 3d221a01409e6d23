use mathlib.Core.Path.{sym, ap, ap₂, ◌∙◌}
use Rattle.std.proofs.lemmas.Result.{err_from_is_err_and}
use Rattle.layout_plan.specs.Record.{layout_of}
use Rattle.layout_plan.specs.Plan.{layout_for, plan_of}
use Rattle.layout.specs.Acceptance.{finding_of, acceptance}
use Rattle.layout.proofs.Findings.{kept-accepted, broken-refused}
use Rattle.layout_record.proofs.Records.{record-long}
use Rattle.layout.proofs.check_layout.Goals as goal

pub returns-then-not-offered : goal.returns-then-not-offered
unfolding acceptance
returns-then-not-offered c = rw (sym c.offered.ensures ∙ c.if-not-offered.true)

pub returns-then-not-record_length : goal.returns-then-not-record_length
unfolding acceptance
returns-then-not-record_length c = rw (sym c.offered.ensures ∙ c.if-not-offered.false, sym c.record_length.ensures ∙ c.if-not-record_length.true)

pub fields_in-fields-requires : goal.fields_in-fields-requires
fields_in-fields-requires c = let right = sym c.record_length.ensures ∙ c.if-not-record_length.false in
    record { right = right; long = record-long _ right }

pub returns-in_err-finding_of : goal.returns-in_err-finding_of
unfolding layout_of
returns-in_err-finding_of c = let layout = c.layout_for-layout.ensures ∙ ap layout_for c.fields_in-fields.ensures in
    let finding = c.finding_of.ensures ∙ ap₂ finding_of c.fields_in-fields.ensures (c.plan_of.ensures ∙ ap plan_of layout) in
    let p = err_from_is_err_and c.from_residual.result c.from_residual.ensures.1 in
    rw (p.1, p.2) (broken-refused _ (sym c.offered.ensures ∙ c.if-not-offered.false)
    (sym c.record_length.ensures ∙ c.if-not-record_length.false) finding c.in_err-finding_of.was)

pub returns : goal.returns
unfolding layout_of
returns c = let layout = c.layout_for-layout.ensures ∙ ap layout_for c.fields_in-fields.ensures in
    let finding = c.finding_of.ensures ∙ ap₂ finding_of c.fields_in-fields.ensures (c.plan_of.ensures ∙ ap plan_of layout) in
    kept-accepted _ (sym c.offered.ensures ∙ c.if-not-offered.false)
    (sym c.record_length.ensures ∙ c.if-not-record_length.false) finding layout c.in_ok-finding_of.was

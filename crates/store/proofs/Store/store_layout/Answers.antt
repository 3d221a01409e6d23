use mathlib.Core.Path.{◌≡◌, refl, sym, ◌∙◌}
use Rattle.std.specs.Prelude.{Err}
use Rattle.std.proofs.Common.{rules}
use Rattle.layout.specs.Acceptance.{refusal_of}
use Rattle.store.specs.declared.Refusal.TheVariants.{Table}
use Rattle.store.specs.Answers.{refusal_number, verdict_reply, answer_version}
use Rattle.version_list.proofs.Steps.{store-accepted, store-refused}
use Rattle.store.proofs.Store.store_layout.Goals as goal

pub returns-in_err-layout : goal.returns-in_err-layout
unfolding verdict_reply answer_version refusal_number
returns-in_err-layout c = let w = c.in_err-layout in
    let e : c.from_residual.result ≡ Err (Table (refusal_of w.field-0.0)) = search rules in
    rw e (store-refused _ _ _ refl (sym c.check_layout.ensures ∙ w.was))

pub returns : goal.returns
returns c = c.add_layout.ensures ∙ rw c.plan_of.ensures (store-accepted _ _ _ (sym c.check_layout.ensures ∙ c.in_ok-layout.was))

use mathlib.Core.Path.{◌≡◌, sym, ap, ◌∙◌}
use Rattle.std.specs.Prelude.{Some, None, Err}
use Rattle.std.proofs.Common.{rules}
use Rattle.layout.specs.declared.Refusal.TheVariants.{Range}
use Rattle.store_pages.proofs.Versions.{found-known, found-refused, unknown-refused}
use Rattle.store_pages.proofs.find_plan.Goals as goal

pub returns-in_err-layout : goal.returns-in_err-layout
returns-in_err-layout c =
    let none : c.find_version.result ≡ None = search rules in
    let e : c.from_residual.result ≡ Err Range = search rules in
    rw e (record { eq = unknown-refused _ _ (sym c.find_version.ensures ∙ none); sound = search rules; range = search rules })

pub returns-then-holds_together : goal.returns-then-holds_together
returns-then-holds_together c =
    let some : c.find_version.result ≡ Some c.in_ok-layout.layout = search rules in
    let holds = sym c.holds_together.ensures.eq ∙ c.if-holds_together.true in
    record {
      eq = found-known _ _ _ (sym c.find_version.ensures ∙ some) holds;
      sound = c.holds_together.ensures.planned c.if-holds_together.true;
      range = search rules;
    }

pub returns : goal.returns
returns c =
    let some : c.find_version.result ≡ Some c.in_ok-layout.layout = search rules in
    record {
      eq = found-refused _ _ _ (sym c.find_version.ensures ∙ some) (sym c.holds_together.ensures.eq ∙ c.if-holds_together.false);
      sound = search rules;
      range = search rules;
    }

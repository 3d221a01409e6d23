use mathlib.Core.Path.{◌≡◌, sym, ◌∙◌}
use Rattle.std.specs.Prelude.{Err}
use Rattle.replies.specs.Replies.{number}
use Rattle.store.specs.Answers.{refusal_number, verdict_reply, listed}
use Rattle.version_list.specs.Plain.{with_uses}
use Rattle.version_list.proofs.Steps.{set-outside, set-unknown, set-done}
use Rattle.std.proofs.Common.{rules}
use Rattle.store.proofs.Searches.{usable-known, usable-unknown}
use Rattle.store.proofs.Store.use_version.Goals as goal

pub returns-then-chip-ge16 : goal.returns-then-chip-ge16
unfolding verdict_reply refusal_number number
returns-then-chip-ge16 c = set-outside _ _ _ c.if-chip-ge16.true

pub returns-in_err-self : goal.returns-in_err-self
unfolding verdict_reply refusal_number number listed
returns-in_err-self c = let w = c.in_err-self in
    let e : c.from_residual.result ≡ Err w.field-0.0 = search rules in
    let u = usable-unknown _ _ _ (sym c.usable.ensures ∙ w.was) in
    rw (e, u.1) (set-unknown _ _ _ c.if-chip-ge16.false u.0)

pub returns : goal.returns
unfolding verdict_reply listed with_uses
returns c = let w = c.in_ok-self in
    let u = usable-known _ _ _ (sym c.usable.ensures ∙ w.was) in
    rw (← u.1) (set-done _ _ _ c.if-chip-ge16.false u.0)

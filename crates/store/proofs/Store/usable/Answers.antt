use mathlib.Core.Path.{◌≡◌, sym, ◌∙◌}
use Rattle.std.specs.Prelude.{Err, Some, None}
use Rattle.std.proofs.Common.{rules}
use Rattle.replies.specs.declared.Refusal.TheVariants.{OutOfRange}
use Rattle.version_list.proofs.Lookups.{find-number, find-holds, find-unknown}
use Rattle.version_list.proofs.Steps.{known-zero, known-held}
use Rattle.store.specs.declared.Refusal.TheVariants.{Table}
use Rattle.store.specs.Answers.{usable}
use Rattle.store.proofs.Store.usable.Goals as goal

pub returns-then-version-eq0 : goal.returns-then-version-eq0
unfolding usable
returns-then-version-eq0 c = rw (known-zero _ _ c.if-version-eq0.true, c.if-version-eq0.true)

pub returns-in_err-layout : goal.returns-in_err-layout
unfolding usable
returns-in_err-layout c = let w = c.in_err-layout in
    let none : c.find_version.result ≡ None = search rules in
    let e : c.from_residual.result ≡ Err (Table OutOfRange) = search rules in
    rw (e, known-held _ _ c.if-version-eq0.false ∙ find-unknown _ _ (sym c.find_version.ensures ∙ none))

pub returns : goal.returns
unfolding usable
returns c = let w = c.in_ok-layout in
    let some : c.find_version.result ≡ Some w.layout = search rules in
    let found = sym c.find_version.ensures ∙ some in
    rw (known-held _ _ c.if-version-eq0.false ∙ find-holds _ _ _ found, find-number _ _ _ found)

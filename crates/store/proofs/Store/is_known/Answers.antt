use mathlib.Core.Path.{sym, ap, ◌∙◌}
use borrow.Author.Tests.{eq-eqb}
use Rattle.std.specs.Option.{is_some}
use Rattle.version_list.proofs.Steps.{known-zero, known-held}
use Rattle.store.proofs.Searches.{found-holds}
use Rattle.store.proofs.Store.is_known.Goals as goal

pub returns-then-version-eq0 : goal.returns-then-version-eq0
returns-then-version-eq0 c = eq-eqb _ 0 c.if-version-eq0.true ∙ sym (known-zero _ _ c.if-version-eq0.true)

pub returns-else-version-eq0 : goal.returns-else-version-eq0
returns-else-version-eq0 c = c.is_some.ensures ∙ ap is_some c.find_version.ensures ∙ found-holds _ _ ∙ sym (known-held _ _ c.if-version-eq0.false)

use mathlib.Core.Path.{ap, ◌∙◌}
use Rattle.std.specs.Prelude.{Some}
use Rattle.std.proofs.Common.{rules}
use mir.Syntax.{w16}
use mir.ValLaws.{to_z-of_z}
use Rattle.changes.specs.Lines.{change_of}
use Rattle.changes.proofs.change_of.Goals as goal

pub returns-in_err-first : goal.returns-in_err-first
unfolding change_of
returns-in_err-first c = search rules

pub returns-in_err-second : goal.returns-in_err-second
unfolding change_of
returns-in_err-second c = search rules

pub returns : goal.returns
unfolding change_of
returns c = ap Some (to_z-of_z w16 _ (record { sfits = c.difference.type_inv }) ∙ c.difference.ensures) ∙ search rules

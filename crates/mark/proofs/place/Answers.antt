use mathlib.Core.Path.{sym}
use Rattle.mark.proofs.Places.{place-before, place_after}
use Rattle.mark.proofs.place.Goals as goal

pub returns-then-position-mark : goal.returns-then-position-mark
returns-then-position-mark c = sym (place-before _ _ c.if-position-mark.true)

pub returns : goal.returns
returns c = sym (place_after _ _ c.if-position-mark.false)

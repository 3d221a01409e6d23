use native.Mathlib.Omega.{arith}
use Rattle.version_list.proofs.Lookups.{closed-copied}
use Rattle.version_list.proofs.places.close_gap.Goals as goal

pub returns : goal.returns
returns c = closed-copied _ _ _ _ c.requires.0 (grind arith)

use mathlib.Core.Path.{◌∙◌}
use native.Mathlib.Omega.{arith}
use native.Mathlib.Nat.{mod-eq_of_lt}
use Rattle.register_shifts.proofs.Shifts.{raise-fits}
use Rattle.register_shifts.proofs.shifted.Goals as goal

pub pushed-requires : goal.pushed-requires
pushed-requires c = let p = c.requires in
    (p.0, p.1, p.2, p.3, raise-fits _ c.args.k _ (omega arith))

pub returns : goal.returns
returns c = c.pushed.ensures ∙ mod-eq_of_lt c.requires.4

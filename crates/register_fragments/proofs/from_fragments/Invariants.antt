use mathlib.Core.Path.{◌≡◌}
use Prim.Native.Nat.{◌-◌}
use lib.ListN.{length, drop}
use Rattle.code.specs.Register.{register}
use Rattle.register_fragments.specs.Fragments.{joined}
use Rattle.register_fragments.proofs.from_fragments.Given as goal

abbrev pub invariant-loop-fragment : goal.invariant-loop-fragment
invariant-loop-fragment l = register l.r.words ≡ joined (drop (7 - length l.yielded) l.l)

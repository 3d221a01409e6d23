use mathlib.Core.Path.{◌≡◌}
use mathlib.Core.List.{◌++◌}
use Prim.Native.Nat.{◌-◌, ◌*◌}
use lib.ListN.{length, take}
use Rattle.version_bytes.specs.Saved.{bytes_from}
use Rattle.version_bytes.proofs.put_numbers.Given as goal

abbrev pub invariant-loop-chip : goal.invariant-loop-chip
invariant-loop-chip l = (length l.buffer ≡ 32) × (l.buffer ≡ take (32 - 2 * l.chip) l.initial.buffer ++ bytes_from l.numbers l.chip)

use Prim.Native.Nat.{◌<◌, ◌+◌, ◌*◌, ◌^◌}
use mathlib.Core.Path.{◌≡◌}
use Rattle.bits.specs.Bits.{bit_of, run}
use Rattle.code.specs.Register.{register}
use Rattle.remainder.specs.Parity.{parity_from}
use Rattle.partial.specs.Partial.{reduced}
use Rattle.division_table.specs.Table.{divisor_of}
use Rattle.division.proofs.feed.feed_wide.Given as goal

abbrev pub invariant-loop-fed : goal.invariant-loop-fed
invariant-loop-fed g l = (register l.r.words < 2 ^ (64 * g.row.USED + 64)) × (reduced (64 * g.row.USED) (divisor_of g.row.USED l.table) (register l.r.words) ≡ parity_from (64 * g.row.USED) (divisor_of g.row.USED l.table) (reduced (64 * g.row.USED) (divisor_of g.row.USED l.table) (register l.initial.r.words)) (run (bit_of l.bytes) l.at (64 * l.fed)))

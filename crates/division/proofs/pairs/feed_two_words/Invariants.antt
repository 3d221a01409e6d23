use Prim.Native.Nat.{◌≤◌, ◌<◌, ◌+◌, ◌-◌, ◌*◌, ◌%◌, ◌^◌}
use mathlib.Core.Path.{◌≡◌}
use Rattle.bits.specs.Bits.{bit_of, run}
use Rattle.code.specs.Register.{register}
use Rattle.remainder.specs.Parity.{parity_from}
use Rattle.partial.specs.Partial.{reduced}
use Rattle.division_table.specs.Table.{divisor_of}
use Rattle.division.proofs.pairs.feed_two_words.Given as goal

abbrev pub invariant-loop-fed : goal.invariant-loop-fed
invariant-loop-fed l = (l.initial.fed ≤ l.fed) × (l.fed ≤ l.count) × ((l.count - l.fed) % 16 ≡ 0)
    × ((register l.two.first.words < 2 ^ (64 * 4 + 64)) × (reduced (64 * 4) (divisor_of 4 l.table) (register l.two.first.words) ≡ parity_from (64 * 4) (divisor_of 4 l.table) (reduced (64 * 4) (divisor_of 4 l.table) (register l.initial.two.first.words)) (run (bit_of l.bytes) (l.at + 64 * l.initial.fed) (64 * (l.fed - l.initial.fed)))))
    × ((register l.two.second.words < 2 ^ (64 * 4 + 64)) × (reduced (64 * 4) (divisor_of 4 l.table) (register l.two.second.words) ≡ parity_from (64 * 4) (divisor_of 4 l.table) (reduced (64 * 4) (divisor_of 4 l.table) (register l.initial.two.second.words)) (run (bit_of l.bytes) (l.to + 64 * l.initial.fed) (64 * (l.fed - l.initial.fed)))))

abbrev pub decreases-loop-fed : goal.decreases-loop-fed
decreases-loop-fed l = l.count - l.fed

use Prim.Native.Nat.{ℕ, ◌<◌, ◌+◌, ◌*◌, ◌/◌, ◌^◌}
use mathlib.Core.Path.{◌≡◌}
use Rattle.code.specs.Register.{register}
use Rattle.partial.specs.Partial.{reduced}
use Rattle.partial.specs.Clearing.{row_words, Clearing}
use Rattle.partial.proofs.reduce.Given as goal

abbrev pub invariant-loop-b : goal.invariant-loop-b
invariant-loop-b l = (register l.r.words < 2 ^ (64 * l.used + 64))
    × ((g : ℕ) → Clearing (row_words l.used) (64 * l.used) g l.table → g / 2 ^ (64 * l.used) ≡ 1
    → (register l.r.words < 2 ^ (64 * l.used + 8 * l.b)) × (reduced (64 * l.used) g (register l.r.words) ≡ reduced (64 * l.used) g (register l.initial.r.words)))

use mathlib.Core.Path.{refl}
use Prim.Native.Nat.{◌+◌, ◌/◌}
use native.Mathlib.Omega.{arith}
use Rattle.bits.proofs.Steps.{word-joined}
use Rattle.bits.proofs.read.word_at.Goals as goal

pub returns-then-i-page : goal.returns-then-i-page
returns-then-i-page c = let a = c.args in
    word-joined _ _ c.word_of.ensures c.four_at-upper.ensures c.four_at-lower.ensures refl (c.shared_slice_known-then-i-page-1.given (a.p / 8 + 8)).fits

pub returns : goal.returns
returns c = word-joined _ _ c.word_of-2.ensures c.four_near_end-upper.ensures c.four_near_end-lower.ensures c.byte_or_zero-next.ensures (omega arith)

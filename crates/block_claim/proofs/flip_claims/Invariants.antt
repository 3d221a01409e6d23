use mathlib.Core.Path.{◌≡◌}
use lib.ListN.{take}
use Rattle.bits.specs.Bits.{bit_of, run}
use Rattle.code.specs.Word.{flipped}
use Rattle.block_claim.proofs.flip_claims.Given as goal

abbrev pub invariant-loop-i : goal.invariant-loop-i
invariant-loop-i l = run (bit_of l.bytes) 0 l.n ≡ flipped (run (bit_of l.initial.bytes) 0 l.n) (take l.i l.claims)

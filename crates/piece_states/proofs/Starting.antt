-- The state before the first byte.
use mathlib.Core.Path.{◌≡◌, refl}
use mathlib.Core.List.{[]}
use Prim.Native.Nat.{ℕ, ◌*◌}
use lib.ListN.{replicate}
use Rattle.bits.specs.Bits.{run}
use Rattle.field.specs.declared.Field.{Field}
use Rattle.piece_parity.specs.Carried.{bits_of}
use Rattle.piece_states.specs.State.{choice_of, state_of}
use Rattle.piece_states.proofs.Words.{words_of-zero}
use Rattle.piece_parity.proofs.Carrying.{parity-none}

pub bits_of-empty : bits_of [] ≡ []
unfolding bits_of run
bits_of-empty = refl

pub state-start : (f : Field) (level n : ℕ) {c : ℕ} → c ≡ choice_of f
    → record { level = level; choice = c; size = n; fed = 0; words = replicate 14 0 } ≡ state_of f level n []
unfolding state_of
state-start f level n e = rw (e, bits_of-empty, parity-none f (2 * level), ← words_of-zero)

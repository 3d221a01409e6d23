use mathlib.Core.Path.{refl}
use Prim.Native.Nat.{◌+◌}
use Rattle.bits.proofs.Steps.{four-joined}
use Rattle.bits.proofs.read.four_at.Goals as goal

pub returns : goal.returns
returns c = let i = c.args.i in
    let k = c.shared_slice_known-5-1.given in
    four-joined _ i c.four_of.ensures refl refl refl refl (k i).fits (k (i + 1)).fits (k (i + 2)).fits (k (i + 3)).fits

use mathlib.Core.Path.{refl}
use native.Mathlib.Omega.{arith}
use lib.ListN.{length-set}
use Rattle.bits.specs.Bits.{run}
use Rattle.version_bytes.specs.Saved.{number_at}
use Rattle.version_bytes.proofs.Saved.{read_next, read-end}
use Rattle.version_bytes.proofs.numbers_in.Goals as goal

pub loop-chip-init : goal.loop-chip-init
unfolding run
loop-chip-init c = (refl, refl)

pub loop-chip-preserved : goal.loop-chip-preserved
unfolding number_at
loop-chip-preserved c = let s = c.loop-chip in
    (simp length-set s.invariant.0, read_next c.args.buffer.now s.numbers s.chip _ (omega (arith, s.invariant.0)) s.invariant.1 refl)

pub returns : goal.returns
returns c = let s = c.loop-chip in read-end _ s.numbers s.chip (omega arith) s.invariant.0 s.invariant.1

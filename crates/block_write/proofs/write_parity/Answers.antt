use mathlib.Core.Path.{refl, ◌∙◌, ap}
use native.Mathlib.Omega.{arith}
use Rattle.mark.specs.Mark.{put}
use Rattle.remainder.proofs.Fold.{parity-bits-below, parity-digits}
use Rattle.block_write.proofs.Encoding.{parity-none}
use Rattle.block_write.proofs.write_parity.Goals as goal

pub returns-then-level-eq0 : goal.returns-then-level-eq0
returns-then-level-eq0 c = parity-none _ _ _ _ _ _ (record { count = refl; small = λ i. (c.slice_known-1.given i).fits }) c.if-level-eq0.true

pub parity_in-remainder-requires : goal.parity_in-remainder-requires
parity_in-remainder-requires c = (c.requires.0, record { inside = omega arith; ends = omega arith; fits = omega arith })

pub put_parity-requires : goal.put_parity-requires
put_parity-requires c = let s = c.args.shape in
    let l = parity-bits-below s.field s.level c.requires.0.level in
    (omega arith, record { inside = omega arith; ends = omega arith; fits = omega arith })

pub returns : goal.returns
returns c = let s = c.args.shape in
    c.put_parity.ensures
    ∙ ap (put _ _ _) (parity-digits s.field s.level _ c.parity_bits-degree.ensures c.parity_in-remainder.ensures)

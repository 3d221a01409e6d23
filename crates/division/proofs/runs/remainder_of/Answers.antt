use native.Mathlib.Omega.{arith}
use Rattle.remainder.proofs.Fold.{parity-bits-below}
use Rattle.division_steps.proofs.Level.{remainder-number, remainder-parts}
use Rattle.division.proofs.runs.remainder_of.Goals as goal

pub number_at-requires : goal.number_at-requires
number_at-requires c = let e = c.parity_bits-d.ensures in
    let m = parity-bits-below c.args.f c.args.t c.requires.0.level in
    (omega arith, c.requires.1)

pub returns-then-n-d : goal.returns-then-n-d
returns-then-n-d c = let ed = c.parity_bits-d.ensures in
    remainder-number c.args.f c.args.t _ c.args.at c.args.n (omega arith) c.number_at.ensures

pub number_at-last-requires : goal.number_at-last-requires
number_at-last-requires c = let e = c.parity_bits-d.ensures in
    let m = parity-bits-below c.args.f c.args.t c.requires.0.level in
    (omega arith, omega arith)

pub returns : goal.returns
returns c = remainder-parts c.args.f c.args.t _ c.args.at c.args.n c.parity_bits-d.ensures (omega arith) c.parity_of-parity.ensures c.number_at-last.ensures c.added.ensures

use native.Mathlib.Omega.{arith}
use Rattle.remainder.proofs.Fold.{parity-bits-below}
use Rattle.page_runs.proofs.Division.{remainder-few, remainder-added}
use Rattle.page_runs.proofs.divide.remainder_across.Goals as goal

pub number_in-requires : goal.number_in-requires
number_in-requires c = let m = parity-bits-below c.args.f c.args.t c.requires.0.level in
    let e = c.parity_bits-d.ensures in
    (c.requires.1, omega arith)

pub returns-then-n-d : goal.returns-then-n-d
returns-then-n-d c = remainder-few c.args.f c.args.t c.args.mark c.args.page.now c.args.at c.args.n c.requires.1 c.parity_bits-d.ensures
    c.if-n-d.true c.number_in.ensures

pub number_in-last-requires : goal.number_in-last-requires
number_in-last-requires c = let m = parity-bits-below c.args.f c.args.t c.requires.0.level in
    let e = c.parity_bits-d.ensures in
    (record { inside = c.requires.1.inside; ends = omega arith; fits = omega arith }, omega arith)

pub returns : goal.returns
returns c = remainder-added c.args.f c.args.t c.args.mark c.args.page.now c.args.at c.args.n c.requires.1 c.parity_bits-d.ensures
    (omega arith) c.parity_in-parity.ensures c.number_in-last.ensures c.added.ensures

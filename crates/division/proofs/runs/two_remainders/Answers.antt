use native.Mathlib.Omega.{arith}
use Rattle.remainder.proofs.Fold.{parity-bits-below}
use Rattle.division_steps.proofs.Level.{remainder-number, remainder-parts}
use Rattle.division.proofs.runs.two_remainders.Goals as goal

pub number_at-first-requires : goal.number_at-first-requires
number_at-first-requires c = let e = c.parity_bits-d.ensures in
    let m = parity-bits-below c.args.f c.args.t c.requires.0.level in
    (omega arith, omega arith)

pub number_at-second-requires : goal.number_at-second-requires
number_at-second-requires c = let e = c.parity_bits-d.ensures in
    let m = parity-bits-below c.args.f c.args.t c.requires.0.level in
    (omega arith, omega arith)

pub returns-then-n-d : goal.returns-then-n-d
returns-then-n-d c = let a = c.args in
    record { words_value = remainder-number a.f a.t _ a.at a.n (let e = c.parity_bits-d.ensures in omega arith) c.number_at-first.ensures; words_value_2 = remainder-number a.f a.t _ a.to a.n (let e = c.parity_bits-d.ensures in omega arith) c.number_at-second.ensures }

pub number_at-first-requires-2 : goal.number_at-first-requires-2
number_at-first-requires-2 c = let e = c.parity_bits-d.ensures in
    let m = parity-bits-below c.args.f c.args.t c.requires.0.level in
    (omega arith, omega arith)

pub number_at-second-requires-2 : goal.number_at-second-requires-2
number_at-second-requires-2 c = let e = c.parity_bits-d.ensures in
    let m = parity-bits-below c.args.f c.args.t c.requires.0.level in
    (omega arith, omega arith)

pub returns : goal.returns
returns c = let a = c.args in
    let e = c.parity_bits-d.ensures in
    record { words_value = remainder-parts a.f a.t _ a.at a.n e (omega arith) c.two_parities-parities.ensures.words_value c.number_at-first-2.ensures c.added.ensures; words_value_2 = remainder-parts a.f a.t _ a.to a.n e (omega arith) c.two_parities-parities.ensures.words_value_2 c.number_at-second-2.ensures c.added-2.ensures }

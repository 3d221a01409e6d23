use native.Mathlib.Omega.{arith}
use lib.Pow.{pow_pos}
use Rattle.division_steps.proofs.Level.{remainder-none, message-parity}
use Rattle.division.proofs.runs.parity_of.Goals as goal

pub returns-then-t-eq0 : goal.returns-then-t-eq0
returns-then-t-eq0 c = let a = c.args in
    remainder-none a.f a.t _ (omega arith) c.zero-start.ensures

pub parity_more-requires : goal.parity_more-requires
parity_more-requires c = (c.requires.0, omega arith, rw c.zero-start.ensures (pow_pos _), c.requires.1)

pub returns : goal.returns
returns c = message-parity c.args.f c.args.t (omega arith) _ c.zero-start.ensures c.parity_more.ensures

use Prim.Native.Nat.{◌-◌}
use native.Mathlib.Omega.{arith}
use borrow.Author.Tests.{ltb-true, ltb-false}
use Rattle.piece_states.proofs.passes_length.Goals as goal

pub returns : goal.returns
returns c = let left = c.args.state.size - c.args.state.fed in
    (λ e. omega (arith, c.requires, ltb-true left c.args.n e), λ e. omega (arith, c.requires, ltb-false left c.args.n e))

use mathlib.Core.Path.{◌≡◌, sym}
use native.Mathlib.Omega.{arith}
use lib.ListN.{length}
use Rattle.bits.specs.Bits.{bit}
use Rattle.remainder.proofs.Words.{register-bit}
use borrow.Author.Rules.{rules}
use Rattle.remainder.proofs.coefficients.coefficient.Goals as goal

pub returns : goal.returns
unfolding bit
returns c = let words = c.args.state.words in
    let l : length words ≡ 14 = search rules in
    sym (register-bit words (λ k. search rules) c.args.p (omega arith))

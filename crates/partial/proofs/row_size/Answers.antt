use mathlib.Core.Path.{◌≡◌, sym}
use native.Mathlib.Omega.{arith}
use Rattle.partial.proofs.Turns.{words-four, words-other}
use Rattle.partial.proofs.row_size.Goals as goal

pub returns-then-used-eq4 : goal.returns-then-used-eq4
returns-then-used-eq4 c = let u = c.args.used in
    let e : u ≡ 4 = omega arith in
    (sym (words-four u e), omega arith, omega arith)

pub returns-else-used-eq4 : goal.returns-else-used-eq4
returns-else-used-eq4 c = (sym (words-other c.args.used (λ e. omega arith)), omega arith, omega arith)

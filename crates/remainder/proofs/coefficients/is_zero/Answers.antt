use Rattle.std.proofs.Common.{◌≡◌, ◌≢◌, rules, tests}
use Rattle.std.proofs.lemmas.Iterator.{cases_from_all, YieldsList-from_slice}
use Rattle.remainder.proofs.Tests.{all-zero}
use Rattle.remainder.proofs.coefficients.is_zero.Goals as goal

pub returns : goal.returns
returns c = all-zero c.args.state.words _ (cases_from_all _ _ _ (λ w. w ≡ 0) (λ w. w ≢ 0) c.all.ensures.ran (YieldsList-from_slice c.args.state.words cc)
    (λ x q k. search (rules, tests)) (λ x q k. search (rules, tests)))

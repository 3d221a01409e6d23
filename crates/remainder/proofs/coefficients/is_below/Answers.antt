use Rattle.std.proofs.Common.{◌≡◌, ◌≢◌, ◌/◌, ◌<◌, ◌^◌, ◌+◌, length, sym, ◌∙◌, rules, arith, tests}
use borrow.Author.Tests.{le-ltb, ne_eqb}
use Rattle.std.proofs.lemmas.Iterator.{cases_from_all, YieldsList-from_slice}
use Rattle.code.specs.Register.{register}
use Rattle.remainder.proofs.Words.{low-beyond, low-register}
use Rattle.remainder.proofs.Tests.{all-below}
use Rattle.remainder.proofs.coefficients.is_below.Goals as goal

pub returns-then-words-k-eq0 : goal.returns-then-words-k-eq0
returns-then-words-k-eq0 c = let w = c.args.state.words in
    let d = c.args.degree in
    let l : length w ≡ 14 = search rules in
    let h : d / 64 < length w = omega arith in
    let r = c.iter.ensures.rest in
    all-below w (λ k. search rules) d h c.if-words-k-eq0.true _ (rw l (cases_from_all _ _ _ (λ w. w ≡ 0) (λ w. w ≢ 0) c.all.ensures.ran (YieldsList-from_slice _ r)
    (λ x q k. search (rules, tests)) (λ x q k. search (rules, tests))))

pub returns-else-words-k-eq0 : goal.returns-else-words-k-eq0
returns-else-words-k-eq0 c = let w = c.args.state.words in
    let d = c.args.degree in
    let l : length w ≡ 14 = search rules in
    let o = low-beyond w d c.if-words-k-eq0.false in
    let r = low-register w (d / 64 + 1) (omega arith) in
    ne_eqb _ 0 c.if-words-k-eq0.false ∙ sym (le-ltb (register w) (2 ^ d) (omega arith))

use mathlib.Core.Path.{◌≡◌, ◌∙◌}
use native.Mathlib.Omega.{arith}
use borrow.Author.Rules.{rules}
use lib.ListN.{length, length-set}
use Rattle.code.specs.Register.{register}
use Rattle.register_fragments.proofs.Numbers.{word-fragment, last_word, fragments-next, fragments-end}
use Rattle.register_fragments.proofs.to_fragments.Goals as goal

pub loop-i-init : goal.loop-i-init
loop-i-init c = (search rules, λ j h. absurd (omega arith))

pub loop-i-preserved : goal.loop-i-preserved
loop-i-preserved c = let s = c.loop-i in
    let w = c.args.state.words in
    let n : length w ≡ 14 = search rules in
    let e = c.lowest_of-at.ensures in
    (search rules, fragments-next (register w) s.l s.i _ (omega (arith, s.invariant.0, c.requires)) s.invariant.1 (word-fragment w (λ k. search rules) s.i _ e (omega arith)))

pub returns : goal.returns
returns c = let s = c.loop-i in
    let w = c.args.state.words in
    let n : length w ≡ 14 = search rules in
    let l : length s.l ≡ 7 = s.invariant.0 ∙ c.requires in
    let e : s.i ≡ 6 = omega arith in
    fragments-end _ _ (length-set s.l 6 _ ∙ l)
    (λ j h. fragments-next (register w) s.l 6 _ (omega arith) (λ k m. s.invariant.1 k (omega arith)) (c.last_fragment.ensures ∙ last_word w (λ k. search rules) n) j (omega arith))

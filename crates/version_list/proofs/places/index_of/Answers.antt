use Rattle.std.proofs.Common.{◌≡◌, List, length, take, arith, rules, tests, sym, ap, ◌∙◌}
use Rattle.std.specs.Option.{unwrap_or}
use Rattle.std.proofs.lemmas.Iterator.{IsFirst-from_position, YieldsList-from_slice, index_from_first}
use lib.Seq.{length-take-le}
use Rattle.version_list.specs.declared.Numbered.{Numbered}
use Rattle.version_list.specs.Places.{index_of}
use Rattle.version_list.proofs.Lookups.{index-nil, index-here, index-next}
use Rattle.version_list.proofs.places.index_of.Goals as goal

pub returns : goal.returns
returns c = let n = c.args.version in
    let whole : length c.args.layouts ≡ 32 = search rules in
    let l = take c.args.count c.args.layouts in
    let first = IsFirst-from_position _ _ _ (λ (e : Numbered). e.number ≡ n) (λ (e : Numbered). e.number ≡ n → ⊥) c.position.ensures.ran
    (YieldsList-from_slice l c.iter.ensures.rest) (λ x q k. search (rules, tests)) (λ x q k. search (rules, tests)) in
    c.unwrap_or.ensures
    ∙ ap (unwrap_or c.position.result) (sym (length-take-le c.args.count c.args.layouts (omega (arith, c.requires))))
    ∙ sym (index_from_first (λ (k : List Numbered). index_of k n) (λ (e : Numbered). e.number ≡ n) (λ (e : Numbered). e.number ≡ n → ⊥)
    (index-nil n) (index-here n) (index-next n) l c.position.result first)

use native.Mathlib.Numerals.{add-one}
use Rattle.split_test.proofs.Splitting.{squared-made}
use Rattle.split_test.proofs.squared.Goals as goal

pub reduced-rest-requires : goal.reduced-rest-requires
reduced-rest-requires c = let p = c.requires in
    record { tables = p.tables; n_bound = (p.n_bound.0, p.n_bound.1, c.spread-square.ensures.elements) }

pub returns : goal.returns
returns c = let n = c.args.n in
    squared-made _ (rw (add-one n) at c.spread-square.ensures) c.reduced-rest.ensures (rw (add-one n) at c.lowered.ensures)

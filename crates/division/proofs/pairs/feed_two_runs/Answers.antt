use Prim.Native.Nat.{◌+◌, ◌*◌, ◌/◌, ◌%◌}
use mathlib.Core.Path.{◌≡◌, refl, ◌∙◌}
use native.Mathlib.Omega.{arith}
use Rattle.division_table.specs.Table.{four}
use Rattle.division_steps.proofs.Steps.{parity-parts}
use Rattle.division.proofs.pairs.feed_two_runs.Goals as goal

pub start_run-a-requires : goal.start_run-a-requires
start_run-a-requires c = (four, c.requires.rests.1, omega arith)

pub start_run-b-requires : goal.start_run-b-requires
start_run-b-requires c = (four, c.requires.rests.1, omega arith)

pub feed_two_words-all-requires : goal.feed_two_words-all-requires
feed_two_words-all-requires c = let p = c.requires in
    record { rests = (p.rests.0, c.start_run-a.ensures.0, c.start_run-b.ensures.0); count_bound = (omega arith, omega arith) }

pub finish-r-requires : goal.finish-r-requires
finish-r-requires c = (c.requires.rests.0, c.feed_two_words-all.ensures.words_bound.0)

pub finish-s-requires : goal.finish-s-requires
finish-s-requires c = (c.requires.rests.0, c.feed_two_words-all.ensures.words_bound_2.0)

pub returns : goal.returns
returns c = let n = c.args.n in
    let f : n ≡ n % 64 + 64 * (n / 64) = omega arith in
    let e = c.feed_two_words-all.ensures in
    record { words_value = c.finish-r.ensures ∙ parity-parts _ _ _ _ _ (n % 64) (64 * (n / 64)) f refl (c.start_run-a.ensures.1 _) e.words_bound.1; words_value_2 = c.finish-s.ensures ∙ parity-parts _ _ _ _ _ (n % 64) (64 * (n / 64)) f refl (c.start_run-b.ensures.1 _) e.words_bound_2.1 }

use Prim.Native.Nat.{◌*◌, ◌/◌}
use mathlib.Core.Path.{◌≡◌, ◌∙◌, ap}
use native.Mathlib.Omega.{arith}
use borrow.Author.Rules.{rules}
use lib.ListN.{length}
use Rattle.code.specs.Generator.{generator}
use Rattle.division_table.proofs.Level.{level-words, level-room, divisor-made}
use Rattle.division_table.proofs.divisor_row.Goals as goal

pub overflow_mul-used : goal.overflow_mul-used
overflow_mul-used c = let w = level-words c.args.f c.args.t (omega arith) c.parity_bits-degree.ensures c.row_words-used.ensures in
    record { fits = omega arith }

pub overflow_sub-used : goal.overflow_sub-used
overflow_sub-used c = level-room c.args.f c.args.t (omega arith) c.parity_bits-degree.ensures c.row_words-used.ensures

pub returns : goal.returns
returns c = let l : length c.raised-moved.result.words ≡ 14 = search rules in
    let x = c.args in
    let e : 2 * (x.t / 2) ≡ x.t = omega arith in
    divisor-made x.f x.t (omega arith) c.parity_bits-degree.ensures c.row_words-used.ensures _ (λ k. search rules) l
    (c.generator_row-words.ensures ∙ ap (generator x.f) e) c.raised-moved.ensures

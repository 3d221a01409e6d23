use mathlib.Core.Path.{◌≡◌}
use native.Mathlib.Omega.{arith}
use native.Mathlib.Nat.{mod-lt}
use lib.ListN.{length}
use lib.Pow.{pow_pos}
use Rattle.division_table.proofs.Filling.{wide-some, wide-most}
use Rattle.bitwise_division.proofs.Single.{bit_kept, bit_added}
use borrow.Author.Rules.{rules}
use Rattle.bitwise_division.proofs.bit_taken.Goals as goal

pub overflow_mul-used : goal.overflow_mul-used
overflow_mul-used c = let m = wide-most c.requires.0 in record { fits = omega arith }

pub overflow_sub-used : goal.overflow_sub-used
overflow_sub-used c = let s = wide-some c.requires.0 in omega arith

pub coefficient-highest-requires : goal.coefficient-highest-requires
coefficient-highest-requires c = let m = wide-most c.requires.0 in omega arith

pub pushed-next-requires : goal.pushed-next-requires
pushed-next-requires c = (wide-most c.requires.0, search rules, search rules, search rules, c.requires.1)

pub returns-then-highest-b : goal.returns-then-highest-b
returns-then-highest-b c = bit_kept _ c.args.row c.requires.0 (λ k. search rules) _ _ c.requires.1 c.requires.2 c.coefficient-highest.ensures c.pushed-next.ensures c.if-highest-b.true

pub row_added-requires : goal.row_added-requires
row_added-requires c = let len : length c.args.row ≡ 14 = search rules in
    let room = wide-most c.requires.0 in
    (room, omega arith, rw c.pushed-next.ensures (mod-lt _ (pow_pos _)))

pub returns : goal.returns
returns c = bit_added _ c.args.row c.requires.0 (λ k. search rules) _ _ c.requires.1 c.requires.2 c.coefficient-highest.ensures c.pushed-next.ensures c.if-highest-b.false c.row_added.ensures

use Prim.Native.Nat.{◌+◌, ◌≤◌, ◌-◌, ◌^◌}
use mathlib.Core.Path.{◌≡◌, refl, ◌∙◌}
use native.Mathlib.Omega.{arith}
use lib.ListN.{length}
use Rattle.table_rows.proofs.Rows.{rows_none, rows_both}
use lib.Pow.{pow_pos, pow_mono}
use Rattle.division_table.proofs.Filling.{power-twice, powers-sums, sums-less, all_first}
use Rattle.division_table.proofs.fill.fill_sums.Goals as goal

pub loop-i-init : goal.loop-i-init
loop-i-init c = let a = c.args in
    (refl, λ X sums powers. (powers, all_first a.n a.bits a.first (omega arith) powers), rows_none a.n a.first (2 ^ a.bits) a.table.now)

pub add_power-requires : goal.add_power-requires
add_power-requires c = let s = c.loop-i in
    let a = c.args in
    let p = power-twice s.i in
    let m : 2 ^ (s.i + 1) ≤ 2 ^ a.bits = pow_mono (omega arith) in
    let l : 36864 ≤ length s.table = omega arith in
    (omega arith, omega arith, omega arith, l)

pub loop-i-preserved : goal.loop-i-preserved
loop-i-preserved c = let r = c.add_power in
    let s = c.loop-i in
    let a = c.args in
    let p = power-twice s.i in
    let z = pow_pos s.i in
    let m : 2 ^ (s.i + 1) ≤ 2 ^ a.bits = pow_mono (omega arith) in (
      r.auto.table ∙ s.invariant.0,
      λ X sums powers.
          let o = s.invariant.1 X sums powers in (
            powers-sums a.n a.bits a.first s.i o.0 r.ensures.1,
            r.ensures.0 X (sums-less (s.i + 1) a.bits sums (omega arith)) o.1 (o.0.power s.i (omega arith)),
          ),
      rows_both a.n a.first (2 ^ a.bits) (a.first + 2 ^ s.i + 1) (2 ^ s.i - 1) a.first (2 ^ a.bits) s.invariant.2 r.ensures.1 (omega arith) (omega arith) (omega arith) (omega arith),
    )

pub returns : goal.returns
returns c = let s = c.loop-i in
    let a = c.args in
    let e : s.i ≡ a.bits = omega arith in
    (λ X sums powers. rw e at (s.invariant.1 X sums powers).1, s.invariant.2)

use Prim.Native.Nat.{◌+◌, ◌-◌, ◌^◌}
use mathlib.Core.Path.{◌≡◌, refl, sym, ◌∙◌}
use native.Mathlib.Omega.{arith}
use native.Mathlib.Decide.{ℕ_discrete}
use Rattle.table_rows.proofs.Rows.{rows_none, rows_both}
use Rattle.division_table.proofs.Filling.{power_small, power-twice, row_room, sum-next}
use Rattle.division_table.proofs.fill.add_power.Goals as goal

pub loop-v-init : goal.loop-v-init
loop-v-init c = let a = c.args in
    let p = power_small a.i (omega arith) c.power-count.ensures in
    let size = c.power-count.result in (
      refl,
      λ X sums all row. record { row = λ v h. elim (ℕ_discrete v size) [ yes e ↦ rw e row | no e ↦ all.row v (omega arith) ] },
      rows_none a.n (a.first + size + 1) (1 - 1) a.table.now,
    )

pub add_row-requires : goal.add_row-requires
add_row-requires c = let s = c.loop-v in
    (c.requires.0, omega arith, omega arith, row_room c.args.n c.requires.0 (omega arith) (omega arith))

pub loop-v-preserved : goal.loop-v-preserved
loop-v-preserved c = let r = c.add_row in
    let s = c.loop-v in
    let a = c.args in
    let size = c.power-count.result in (
      r.auto.rows ∙ s.invariant.0,
      λ X sums all row. sum-next a.n a.first a.i s.v sums c.power-count.ensures (omega arith) (s.invariant.1 X sums all row) r.ensures.0 r.ensures.1 (omega arith),
      rows_both a.n (a.first + size + 1) (s.v - 1) (a.first + size + s.v) 1 (a.first + size + 1) (s.v + 1 - 1) s.invariant.2 r.ensures.1 (omega arith) (omega arith) (omega arith) (omega arith),
    )

pub returns : goal.returns
returns c = let s = c.loop-v in
    let a = c.args in
    let p = power_small a.i (omega arith) c.power-count.ensures in
    let e : s.v ≡ c.power-count.result = omega arith in
    let es = c.power-count.ensures in
    let t : c.power-count.result + c.power-count.result ≡ 2 ^ (a.i + 1) = rw es (sym (power-twice a.i)) in (
      λ X sums all row. rw (e, t) at (s.invariant.1 X sums (rw es all) (rw es row)),
      rw (e, es) at s.invariant.2,
    )

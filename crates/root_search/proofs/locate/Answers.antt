use mathlib.Core.Path.{◌≡◌}
use native.Mathlib.Omega.{arith}
use Rattle.field.proofs.Primitive.{longest-below}
use Rattle.root_search.proofs.Search.{searching-start, searching-root, searching-none, searching-full}
use Rattle.root_search.proofs.locate.Goals as goal
use Rattle.root_search.proofs.locate.Goals.{then-v-eq0, else-v-eq0}

pub loop-p-init : goal.loop-p-init
loop-p-init c = searching-start _

pub returns-then-count-len : goal.returns-then-count-len
returns-then-count-len c = let i = c.loop-p.invariant in
    (i.few, searching-full _ i c.requires.len_bound.2 c.requires.len_bound.3 c.requires.len_bound.1 c.if-count-len.true)

pub value_at-v-requires : goal.value_at-v-requires
value_at-v-requires c = record { tables = c.requires.tables; len_bound = (omega arith, omega arith, c.requires.len_bound.2) }

pub overflow_cast-exponents : goal.overflow_cast-exponents
overflow_cast-exponents c = omega (arith, longest-below c.args.f)

pub loop-p-preserved : goal.loop-p-preserved
loop-p-preserved c =
    let fits = c.requires.len_bound.0 in
    let more = c.if-count-len.false in
    let is = c.value_at-v.ensures in
    elim c.if-v-eq0.branch [
      | then-v-eq0 w ↦ rw (w.exponents-is, w.count-is) (searching-root _ c.loop-p.invariant fits (omega arith) more is w.if-v-eq0.true)
      | else-v-eq0 w ↦ rw (w.exponents-is, w.count-is) (searching-none _ c.loop-p.invariant fits (omega arith) more is w.if-v-eq0.false)
    ]

pub returns : goal.returns
returns c = let i = c.loop-p.invariant in
    let e : c.loop-p.p ≡ c.args.n = omega (arith, i.within) in
    (i.few, rw e at i.located)

use native.Mathlib.Omega.{arith}
use Rattle.layout_plan.specs.Record.{mark_at, mark_in}
use Rattle.layout_record.proofs.Records.{record-three, no_byte}
use Rattle.layout_record.proofs.words.mark_in.Goals as goal

pub returns-then-words-eq8 : goal.returns-then-words-eq8
unfolding mark_in mark_at
returns-then-words-eq8 c = let rec = c.args.words.now in
    let eight = c.if-words-eq8.true in
    rw (no_byte rec 8 eight (omega arith), no_byte rec 9 eight (omega arith), no_byte rec 10 eight (omega arith))

pub bounds-words-8 : goal.bounds-words-8
bounds-words-8 c = omega (arith, record-three _ c.requires c.if-words-eq8.false)

pub bounds-words-9 : goal.bounds-words-9
bounds-words-9 c = omega (arith, record-three _ c.requires c.if-words-eq8.false)

pub bounds-words-10 : goal.bounds-words-10
bounds-words-10 c = omega (arith, record-three _ c.requires c.if-words-eq8.false)

pub returns : goal.returns
unfolding mark_in
returns c = c.mark_at.ensures

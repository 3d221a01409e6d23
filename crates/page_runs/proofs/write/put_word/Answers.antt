use native.Mathlib.Omega.{arith}
use Rattle.mark.proofs.Runs.{near-less, near-place}
use Rattle.page_runs.proofs.Puts.{put-before-run, put-parts-start}
use Rattle.page_runs.proofs.write.put_word.Goals as goal

pub returns-then-first-n : goal.returns-then-first-n
returns-then-first-n c = let a = c.args in
    put-before-run a.mark a.page.now a.position a.n c.near-first.ensures _ _ c.if-first-n.true c.copy_bits.ensures

pub overflow_add-position : goal.overflow_add-position
overflow_add-position c = let l = near-less _ _ _ c.near-first.ensures c.if-first-n.false in record { fits = omega arith }

pub place-beyond-requires : goal.place-beyond-requires
place-beyond-requires c = let l = near-less _ _ _ c.near-first.ensures c.if-first-n.false in omega arith

pub copy_bits-requires-2 : goal.copy_bits-requires-2
copy_bits-requires-2 c = let l = near-less _ _ _ c.near-first.ensures c.if-first-n.false in
    (record { ends = omega arith; fits = omega arith }, record { ends = omega arith; fits = omega arith })

pub overflow_sub-n : goal.overflow_sub-n
overflow_sub-n c = let l = near-less _ _ _ c.near-first.ensures c.if-first-n.false in
    omega arith

pub copy_bits-requires-3 : goal.copy_bits-requires-3
copy_bits-requires-3 c = let l = near-less _ _ _ c.near-first.ensures c.if-first-n.false in
    let i = near-place _ _ _ c.near-first.ensures c.if-first-n.false c.place-beyond.ensures in
    (record { ends = omega arith; fits = omega arith }, record { ends = omega arith; fits = omega arith })

pub returns : goal.returns
returns c = let a = c.args in
    put-parts-start a.mark a.page.now a.position a.n c.near-first.ensures c.if-first-n.false c.place-beyond.ensures _
    c.copy_bits-2.ensures c.copy_bits-3.ensures

use native.Mathlib.Omega.{arith}
use lib.ListN.{length-set}
use Rattle.version_bytes.proofs.Saved.{put-none, put_next, put-end}
use Rattle.version_bytes.proofs.put_numbers.Goals as goal

pub loop-chip-init : goal.loop-chip-init
loop-chip-init c = (c.requires, put-none _ _ c.requires)

pub bounds-buffer-at-in-loop-chip : goal.bounds-buffer-at-in-loop-chip
bounds-buffer-at-in-loop-chip c = simp length-set (omega arith)

pub loop-chip-preserved : goal.loop-chip-preserved
loop-chip-preserved c = let s = c.loop-chip in
    (simp length-set s.invariant.0, put_next c.args.numbers c.args.buffer.now s.buffer s.chip (omega arith) c.requires s.invariant.1)

pub returns : goal.returns
returns c = let s = c.loop-chip in put-end _ c.args.buffer.now s.buffer s.chip (omega arith) s.invariant.1

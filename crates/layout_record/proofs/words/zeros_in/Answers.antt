use mathlib.Core.Path.{sym}
use native.Mathlib.Omega.{arith}
use Rattle.layout_record.proofs.Records.{record-three, no_byte}
use Rattle.layout_record.proofs.words.zeros_in.Goals as goal

pub returns-then-words-eq8 : goal.returns-then-words-eq8
returns-then-words-eq8 c = sym (no_byte c.args.words.now 11 c.if-words-eq8.true (omega arith))

pub bounds-words-11 : goal.bounds-words-11
bounds-words-11 c = omega (arith, record-three _ c.requires c.if-words-eq8.false)

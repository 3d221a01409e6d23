use mathlib.Core.Path.{refl}
use native.Mathlib.Omega.{arith}
use borrow.Author.Tests.{le-leb, lt-leb}
use Rattle.division_table.specs.Table.{width}
use Rattle.division_table.proofs.row_words.Goals as goal

pub returns-then-degree-le256 : goal.returns-then-degree-le256
unfolding width
returns-then-degree-le256 c = rw (le-leb c.args.degree 256 (omega arith)) refl

pub returns-then-degree-le640 : goal.returns-then-degree-le640
unfolding width
returns-then-degree-le640 c = let d = c.args.degree in
    rw (lt-leb d 256 (omega arith), le-leb d 640 (omega arith)) refl

pub returns-else-degree-le640 : goal.returns-else-degree-le640
unfolding width
returns-else-degree-le640 c = let d = c.args.degree in
    rw (lt-leb d 256 (omega arith), lt-leb d 640 (omega arith)) refl

use borrow.Author.Tests.{lt-ltb, le-ltb}
use Rattle.zeros.specs.Counting.{chunk}
use Rattle.zeros.proofs.chunk_of.Goals as goal

pub returns-then-n-lt64 : goal.returns-then-n-lt64
unfolding chunk
returns-then-n-lt64 c = rw (lt-ltb _ 64 c.if-n-lt64.true)

pub returns-else-n-lt64 : goal.returns-else-n-lt64
unfolding chunk
returns-else-n-lt64 c = rw (le-ltb _ 64 c.if-n-lt64.false)

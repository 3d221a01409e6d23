use Rattle.changes.specs.Lines.{line_by, line_of}
use Rattle.changes.proofs.block_line.Goals as goal

pub returns : goal.returns
unfolding line_of line_by
returns c = simp (c.change_of-change.ensures, c.flips_of-a.ensures, c.flips_of-b.ensures)

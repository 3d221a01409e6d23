use Rattle.differences.proofs.same_byte.Goals as goal

pub returns : goal.returns
returns c = rw (c.byte_of-a.ensures, c.byte_of-b.ensures)

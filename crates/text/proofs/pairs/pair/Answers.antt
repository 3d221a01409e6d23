use mathlib.Core.Path.{sym}
use Rattle.text.specs.Bytes.{pair_of}
use Rattle.text.proofs.pairs.pair.Goals as goal

pub returns : goal.returns
unfolding pair_of
returns c = rw (sym c.digit.ensures, sym c.digit-2.ensures)

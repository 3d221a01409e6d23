use Rattle.explain_words.specs.Words.{spot_word}
use Rattle.explain_words.proofs.spot_word.Goals as goal

pub returns : goal.returns
unfolding spot_word
returns c = rw (c.part_number-kind.ensures, c.shown_to-block.ensures.eq, c.shown_to-bit.ensures.eq, c.shown_to-byte.ensures.eq, c.shown_to-index.ensures.eq)

use native.Mathlib.Omega.{arith}
use Rattle.zeros.proofs.Counting.{word-zeros, word_ones}
use Rattle.zeros.proofs.word_zeros.Goals as goal

pub overflow_cast-result : goal.overflow_cast-result
overflow_cast-result c = let l = word_ones _ _ _ c.requires.1 c.word_at-word.ensures in omega (arith, c.requires.1)

pub overflow_sub-result : goal.overflow_sub-result
overflow_sub-result c = word_ones _ _ _ c.requires.1 c.word_at-word.ensures

pub returns : goal.returns
returns c = word-zeros _ _ _ c.requires.1 c.word_at-word.ensures

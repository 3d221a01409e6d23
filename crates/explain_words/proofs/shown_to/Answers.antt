use native.Mathlib.Omega.{arith}
use native.Mathlib.Decide.{dec_lt}
use borrow.Author.Tests.{lt-ltb, le-ltb}
use Rattle.explain_words.specs.Words.{shown_to}
use Rattle.explain_words.proofs.shown_to.Goals as goal

pub returns-clause-eq : goal.returns-clause-eq
unfolding shown_to
returns-clause-eq c = elim (dec_lt c.args.n c.args.most) [
  | yes l ↦ rw (lt-ltb c.args.n c.args.most l) (omega (arith, c.min.ensures))
  | no l ↦ rw (le-ltb c.args.n c.args.most (omega arith)) (omega (arith, c.min.ensures))
]

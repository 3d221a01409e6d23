use native.Mathlib.Omega.{arith}
use Rattle.register_shifts.proofs.Shifts.{lower-end, lower-whole}
use Rattle.register_shifts.proofs.lowered.Goals as goal

pub returns-then-odd-eq0 : goal.returns-then-odd-eq0
returns-then-odd-eq0 c = lower-whole _ c.args.k (omega arith) c.without_words-down.ensures

pub returns : goal.returns
returns c = lower-end _ c.args.k c.without_words-down.ensures c.without_digits.ensures

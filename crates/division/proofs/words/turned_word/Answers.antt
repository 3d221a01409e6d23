use mathlib.Core.Path.{ap₂}
use Prim.Native.Nat.{ℕ, ◌+◌, ◌*◌}
use Rattle.division.specs.Turned.{turned_word}
use Rattle.division.proofs.words.turned_word.Goals as goal

pub returns : goal.returns
unfolding turned_word
returns c = ap₂ (λ (x y : ℕ). x * 4294967296 + y) c.turned-first.ensures c.turned-second.ensures

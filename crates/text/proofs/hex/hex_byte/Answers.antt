use mathlib.Core.Path.{ap₂}
use mathlib.Core.List.{[], ◌∷◌}
use Prim.Native.Nat.{ℕ}
use Rattle.text.specs.Hex.{hex_of}
use Rattle.text.proofs.hex.hex_byte.Goals as goal

pub returns : goal.returns
unfolding hex_of
returns c = ap₂ (λ (x y : ℕ). x ∷ y ∷ []) c.hex_char-high.ensures c.hex_char-low.ensures

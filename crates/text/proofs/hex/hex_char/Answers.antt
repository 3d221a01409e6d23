use mathlib.Core.Path.{refl}
use Rattle.text.proofs.Printed.{char-decimal, char-letter}
use Rattle.text.proofs.hex.hex_char.Goals as goal

pub returns-then-low-lt10 : goal.returns-then-low-lt10
returns-then-low-lt10 c = char-decimal _ c.if-low-lt10.true refl

pub returns : goal.returns
returns c = char-letter _ c.if-low-lt10.false refl

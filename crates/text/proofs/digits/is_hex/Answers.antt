use Rattle.text.proofs.Numbers.{is-hex-other, is-hex-second}
use borrow.Author.Tests.{lt-ltb}
use Rattle.text.specs.Numbers.{is_hex}
use Rattle.text.proofs.digits.is_hex.Goals as goal

pub returns-then-text-lt3 : goal.returns-then-text-lt3
unfolding is_hex
returns-then-text-lt3 c = simp (lt-ltb _ _ c.if-text-lt3.true)

pub returns-then-text-ne48 : goal.returns-then-text-ne48
returns-then-text-ne48 c = is-hex-other _ c.if-text-lt3.false c.if-text-ne48.true

pub returns : goal.returns
returns c = is-hex-second _ c.if-text-lt3.false c.if-text-ne48.false

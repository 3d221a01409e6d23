-- Inner promises: what is written for one block (document 01, "Layout words"; document 02, E12).
--
-- encoded s w         the message w of a block of the shape s, followed by its parity
-- padded s w          the same, followed by ones in its pads
use Rattle.std.specs.Prelude.{◌++◌}
use Rattle.layout_plan.specs.declared.Shape.{Shape}
use Rattle.bits.specs.Bits.{ones}
use Rattle.code.specs.Word.{Word}
use Rattle.code.specs.Generator.{parity}

unfoldable pub encoded : Shape → Word → Word
encoded s w = w ++ parity s.field s.level w

unfoldable pub padded : Shape → Word → Word
padded s w = encoded s w ++ ones s.pads

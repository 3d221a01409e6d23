use Rattle.std.proofs.Common.{◌∙◌}
use Rattle.text.proofs.Numbers.{plus-checked}
use Rattle.text.proofs.parts.plus.Goals as goal

pub returns : goal.returns
returns c = c.unwrap_or.ensures ∙ plus-checked _ _ _ c.checked_add.ensures

use mathlib.Core.Path.{sym, ◌∙◌}
use Rattle.text.proofs.Bytes.{all-hex-is, bytes-odd, bytes-many, bytes-other, bytes-all}
use Rattle.text.proofs.pairs.parse_bytes.Goals as goal

pub returns-then-text-ne0 : goal.returns-then-text-ne0
returns-then-text-ne0 c = let both = bytes-odd _ _ c.if-text-ne0.true in record { value = both.0; out_after = both.1 }

pub returns-then-out-n : goal.returns-then-out-n
returns-then-out-n c = let both = bytes-many _ _ c.if-text-ne0.false c.if-out-n.true in record { value = both.0; out_after = both.1 }

pub returns-then-not-all_hex : goal.returns-then-not-all_hex
returns-then-not-all_hex c = let both = bytes-other _ _ c.if-text-ne0.false c.if-out-n.false (sym c.if-not-all_hex.true ∙ all-hex-is _ _ c.all_hex.ensures) in record { value = both.0; out_after = both.1 }

pub returns : goal.returns
returns c = let a = bytes-all _ _ c.if-text-ne0.false c.if-out-n.false (sym c.if-not-all_hex.false ∙ all-hex-is _ _ c.all_hex.ensures) in
    record { value = a.0; out_after = c.place.ensures ∙ a.1 }

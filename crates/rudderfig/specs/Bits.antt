-- The answer words of the calls on a layout record alone (document 01, "Layout words" and "Bits").
--
-- acceptance_word    a layout record: nothing but the reply
-- bit_word           a page bit: kind 0 and the located block in the value's upper half, the exponent in its lower; in the tail kind 1, in
--                   the mark kind 2
-- position_word      a code bit: the value is its position
use Rattle.std.specs.Prelude.{ℕ, ◌+◌, ◌*◌, Result, Ok, Err}
use Rattle.layout_plan.specs.declared.Layout.{Layout}
use Rattle.layout.specs.declared.BitPlace.{BitPlace}
use Rattle.layout.specs.declared.BitPlace.TheVariants as bit
use Rattle.layout.specs.declared.Refusal.{Refusal}
use Rattle.layout.specs.Acceptance.{refusal_reply}
use Rattle.answer_words.specs.Answer.{done_word, refused_word}

unfoldable pub acceptance_word : Result Layout Refusal → ℕ
acceptance_word (Ok l) = done_word 0 0
acceptance_word (Err r) = refused_word (refusal_reply r) 0

unfoldable pub bit_word : Result BitPlace Refusal → ℕ
bit_word (Ok (bit.InBlock b e)) = done_word 0 (0x10000 * b + e)
bit_word (Ok bit.Tail) = done_word 1 0
bit_word (Ok bit.Mark) = done_word 2 0
bit_word (Err r) = refused_word (refusal_reply r) 0

unfoldable pub position_word : Result ℕ Refusal → ℕ
position_word (Ok p) = done_word 0 p
position_word (Err r) = refused_word (refusal_reply r) 0

-- Document 01's numbers for each answer of this crate: the reply, the block beside it, and the values ("Replies", "Bits").
-- The block beside a reply is 0 in all of them; a block located under Bits is a value.
--
-- Numbers               a reply, its block, and the values that go with it
-- done values           reply 0
-- refused r             a refusal, which has no values
-- answer_reply a        the reply of an answer, whatever it holds
-- acceptance_numbers     a layout record: nothing but the reply
-- bit_numbers            a page bit: block and exponent, or nothing in the tail and in the mark
-- position_numbers       a code bit: its position
use Rattle.layout_plan.specs.declared.Layout.{Layout}
use Rattle.std.specs.Prelude.{ℕ, List, [], ◌∷◌, Result, Ok, Err}
use Rattle.layout.specs.declared.Refusal.{Refusal}
use Rattle.layout.specs.declared.BitPlace.{BitPlace}
use Rattle.layout.specs.declared.BitPlace.TheVariants as bit
use Rattle.layout.specs.Acceptance.{refusal_reply}

pub record Numbers : Type 0 where
  pub reply : ℕ
  pub block : ℕ
  pub values : List ℕ

unfoldable pub done : List ℕ → Numbers
done values = record { reply = 0; block = 0; values = values }

unfoldable pub refused : Refusal → Numbers
refused r = record { reply = refusal_reply r; block = 0; values = [] }

unfoldable pub answer_reply : {A : Type 0} → Result A Refusal → ℕ
answer_reply (Ok a) = 0
answer_reply (Err r) = refusal_reply r

unfoldable pub acceptance_numbers : Result Layout Refusal → Numbers
acceptance_numbers (Ok l) = done []
acceptance_numbers (Err r) = refused r

unfoldable pub bit_numbers : Result BitPlace Refusal → Numbers
bit_numbers (Ok (bit.InBlock b e)) = done (b ∷ e ∷ [])
bit_numbers (Ok bit.Tail) = done []
bit_numbers (Ok bit.Mark) = done []
bit_numbers (Err r) = refused r

unfoldable pub position_numbers : Result ℕ Refusal → Numbers
position_numbers (Ok p) = done (p ∷ [])
position_numbers (Err r) = refused r

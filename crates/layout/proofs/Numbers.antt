-- The numbers that this crate's refusals have in document 01's table.
use mathlib.Core.Path.{◌≡◌, refl}
use mathlib.Core.Logic.{◌⊎◌, inl, inr}
use Prim.Native.Nat.{ℕ, ◌<◌}
use native.Mathlib.Omega.{arith}
use Rattle.std.specs.Prelude.{Result, Ok, Err}
use Rattle.replies.specs.Replies.{number}
use Rattle.layout_plan.specs.declared.Layout.{Layout}
use Rattle.layout.specs.declared.Rule.{Rule}
use Rattle.layout.specs.declared.Rule.TheVariants.{Level, Message, Length, Outside, Room}
use Rattle.layout.specs.declared.Refusal.{Refusal}
use Rattle.layout.specs.declared.Refusal.TheVariants as refusal
use Rattle.layout.specs.declared.BitPlace.{BitPlace}
use Rattle.layout.specs.declared.BitPlace.TheVariants as bit
use Rattle.layout.specs.Answers as numbers
use Rattle.layout.specs.Answers.{answer_reply, acceptance_numbers, bit_numbers, position_numbers}
use Rattle.layout.specs.Acceptance.{rule_refusal, refusal_of, rule_number, refusal_reply}

pub rule-number-range : (r : Rule) → (0 < rule_number r) × (rule_number r < 12)
unfolding rule_number rule_refusal number
rule-number-range Level = (omega arith, omega arith)
rule-number-range Message = (omega arith, omega arith)
rule-number-range Length = (omega arith, omega arith)
rule-number-range Outside = (omega arith, omega arith)
rule-number-range Room = (omega arith, omega arith)

pub refusal-reply-range : (r : Refusal) → (0 < refusal_reply r) × (refusal_reply r < 12)
unfolding refusal_reply refusal_of number rule_number
refusal-reply-range refusal.Edition = (omega arith, omega arith)
refusal-reply-range refusal.RecordLength = (omega arith, omega arith)
refusal-reply-range (refusal.Rule r) = let h = rule-number-range r.rule in (h.0, omega (arith, h.1))
refusal-reply-range refusal.Range = (omega arith, omega arith)

rule-reply : (r : Rule) → (rule_number r < 8) ⊎ (rule_number r ≡ 11)
unfolding rule_number rule_refusal number
rule-reply Level = inl (omega arith)
rule-reply Message = inl (omega arith)
rule-reply Length = inl (omega arith)
rule-reply Outside = inr refl
rule-reply Room = inl (omega arith)

-- A layout is refused with 1, 2, 3, 4, 6, 7 or 11, whatever names it.
pub refusal-reply-early : (r : Refusal) → (refusal_reply r < 8) ⊎ (refusal_reply r ≡ 11)
unfolding refusal_reply refusal_of number rule_number
refusal-reply-early refusal.Edition = inl (omega arith)
refusal-reply-early refusal.RecordLength = inl (omega arith)
refusal-reply-early (refusal.Rule r) = rule-reply r.rule
refusal-reply-early refusal.Range = inl (omega arith)

-- The reply of an answer is the one among its numbers.
pub acceptance-reply : (a : Result Layout Refusal) → answer_reply a ≡ (acceptance_numbers a).reply
unfolding answer_reply acceptance_numbers numbers.done numbers.refused
acceptance-reply (Ok l) = refl
acceptance-reply (Err r) = refl

pub bit-reply : (a : Result BitPlace Refusal) → answer_reply a ≡ (bit_numbers a).reply
unfolding answer_reply bit_numbers numbers.done numbers.refused
bit-reply (Ok (bit.InBlock b e)) = refl
bit-reply (Ok bit.Tail) = refl
bit-reply (Ok bit.Mark) = refl
bit-reply (Err r) = refl

pub position-reply : (a : Result ℕ Refusal) → answer_reply a ≡ (position_numbers a).reply
unfolding answer_reply position_numbers numbers.done numbers.refused
position-reply (Ok p) = refl
position-reply (Err r) = refl

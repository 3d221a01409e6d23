-- The replies of document 01's table ("Replies"): the number of each refusal, the block beside it, and which of several is given.
--
-- number r             the number of a refusal; 0, done, is none of them
-- block r              the block that goes with it: 0 except in reply 9
-- verdict_number v      the reply of an answer: 0 where nothing is refused; verdict_block v: the block beside it
-- among n ns           n is one of the numbers of a list
-- unequal a b          two numbers differ
-- Rule                 one reply of a call: the refusal, and whether it applies
-- verdict rules        the verdict by a list of rules in the order in which they are looked at: the first that applies decides
-- reply rules          its number; reply_block rules: the block beside it
-- unless ok reply rest     the same, a rule at a time: the reply, unless ok; then the rest decides
use Rattle.std.specs.Prelude.{Bool, true, false, cond, List, [], ◌∷◌, ℕ, eqb, ⊤, Result, Ok, Err}
use Rattle.replies.specs.declared.Refusal.{Refusal}
use Rattle.replies.specs.declared.Refusal.TheVariants as refusal

unfoldable pub number : Refusal → ℕ
number refusal.LevelTooHigh = 1
number refusal.EmptyMessage = 2
number refusal.BlockTooLong = 3
number refusal.PageTooSmall = 4
number refusal.PageLength = 5
number refusal.BufferLength = 6
number refusal.OutOfRange = 7
number refusal.RemainderTooWide = 8
number (refusal.Uncorrectable b) = 9
number refusal.ClaimWrong = 10
number refusal.MarkOutside = 11

unfoldable pub block : Refusal → ℕ
block refusal.LevelTooHigh = 0
block refusal.EmptyMessage = 0
block refusal.BlockTooLong = 0
block refusal.PageTooSmall = 0
block refusal.PageLength = 0
block refusal.BufferLength = 0
block refusal.OutOfRange = 0
block refusal.RemainderTooWide = 0
block (refusal.Uncorrectable b) = b
block refusal.ClaimWrong = 0
block refusal.MarkOutside = 0

unfoldable pub verdict_number : {A : Type 0} → Result A Refusal → ℕ
verdict_number (Ok a) = 0
verdict_number (Err r) = number r

unfoldable pub verdict_block : {A : Type 0} → Result A Refusal → ℕ
verdict_block (Ok a) = 0
verdict_block (Err r) = block r

-- Which replies of the table a call may give.
unfoldable pub among : ℕ → List ℕ → Bool
among n [] = false
among n (x ∷ xs) = cond (eqb n x) true (among n xs)

-- What most rules ask of a length.
unfoldable pub unequal : ℕ → ℕ → Bool
unequal a b = cond (eqb a b) false true

pub record Rule : Type 0 where
  pub applies : Bool
  pub why : Refusal

-- The entry of a list of rules.
abbrev pub rule : Bool → Refusal → Rule
rule applies why = record { applies = applies; why = why }

unfoldable pub verdict : List Rule → Result ⊤ Refusal
verdict [] = Ok _
verdict (r ∷ rs) = cond r.applies (Err r.why) (verdict rs)

unfoldable pub reply : List Rule → ℕ
reply rules = verdict_number (verdict rules)

unfoldable pub reply_block : List Rule → ℕ
reply_block rules = verdict_block (verdict rules)

abbrev pub unless : Bool → ℕ → ℕ → ℕ
unless ok reply rest = cond ok rest reply

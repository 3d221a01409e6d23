-- When a reply is given (document 01, "Replies": "Each is given exactly then; where several apply the smallest number wins"; document 02, E7:
-- 11 "is looked at after 3 and before 4").
-- The rules of a call stand in the order in which they are looked at.
--
-- Follows rules n b       n is the reply that the rules give, and b the block beside it
-- None rules              no rule of the list applies
-- First rules why         a rule with the refusal `why` applies, and none before it does
-- Given rules n b         reply n with block b: the number and the block of the first refusal that applies
-- Exactly rules n b       a call that answers n with block b answers 0 exactly if no rule applies, and a refusal exactly if it is the first
-- turn n                  the place of reply n in the order in which rules are looked at
-- ascending rules         the turns of the list never fall
use Rattle.std.specs.Prelude.{◌≡◌, Bool, true, false, cond, List, [], ◌∷◌, ◌++◌, ℕ, ◌*◌, ◌<◌, eqb, leb}
use Rattle.replies.specs.declared.Refusal.{Refusal}
use Rattle.replies.specs.Replies.{number, block, Rule, rule, reply, reply_block}

pub record Follows (rules : List Rule) (n b : ℕ) : Type 0 where
  pub number : n ≡ reply rules
  pub beside : b ≡ reply_block rules

pub data None : List Rule → Type 0 where
  end : None []
  next : {r : Rule} {rs : List Rule} → r.applies ≡ false → None rs → None (r ∷ rs)

pub record First (rules : List Rule) (why : Refusal) : Type 0 where
  pub before : List Rule
  pub after : List Rule
  pub splits : rules ≡ before ++ (rule true why ∷ after)
  pub none : None before

pub record Given (rules : List Rule) (n b : ℕ) : Type 0 where
  pub why : Refusal
  pub first : First rules why
  pub reply : number why ≡ n
  pub beside : block why ≡ b

pub record Exactly (rules : List Rule) (n b : ℕ) : Type 0 where
  pub done : None rules → (n ≡ 0) × (b ≡ 0)
  pub none : n ≡ 0 → None rules
  pub when : (why : Refusal) → First rules why → (n ≡ number why) × (b ≡ block why)
  pub only : 0 < n → Given rules n b

-- By its number, but that 11 is looked at after 3 and before 4 (document 02, E7).
unfoldable pub turn : ℕ → ℕ
turn n = cond (eqb n 11) 7 (2 * n)

-- A rule whose turn is at most that of the next.
unfoldable pub at_most : ℕ → List Rule → Bool
at_most n [] = true
at_most n (r ∷ rs) = leb (turn n) (turn (number r.why))

unfoldable pub ascending : List Rule → Bool
ascending [] = true
ascending (r ∷ rs) = cond (at_most (number r.why) rs) (ascending rs) false

-- Demand 1. "Any layout words, any lent buffers, any lengths, any page content: each call ends with an answer from the table.
-- A caller never has to have tested anything. A refused call leaves each lent buffer byte for byte as it found it." Document 02, E6, amended
-- the last sentence: but for the counts of a look that answers 9. A look then writes the count of every block (proofs/Demand2 `look-blocks`).
--
-- The definitions of the calls are functions of everything that is lent, so each call ends; what follows says how.
use Rattle.std.specs.Prelude.{Result, Ok, Err}
use Rattle.layout.specs.declared.Refusal.{Refusal}
use Rattle.layout_plan.specs.declared.Layout.{Layout}
use mathlib.Core.Path.{◌≡◌, refl}
use mathlib.Core.Bool.{Bool, true, false, cond}
use mathlib.Core.List.{List, ◌∷◌, ◌++◌}
use mathlib.Core.Logic.{◌⊎◌, inl, inr}
use Prim.Native.Nat.{ℕ, zero, suc, ◌<◌}
use native.Mathlib.Omega.{arith}
use native.Mathlib.Decide.{ℕ_discrete}
use lib.ListN.{length}
use lib.Dec.{eqb, ltb}
use Rattle.replies.specs.Replies.{among}
use Rattle.layout_plan.specs.declared.Plan.{Plan}
use Rattle.layout_plan.specs.Plan.{plan_of, field, level}
use Rattle.layout.specs.Acceptance.{refusal_reply}
use Rattle.layout.proofs.Numbers.{refusal-reply-early}
use Rattle.code.specs.Outcome.{Outcome, good, erased, ruined}
use Rattle.page_theory.specs.Page.{page_of, block_word}
use Rattle.page_theory.specs.Reading.{Reading, done, refused, outcome, reading, counts}
use Rattle.page_theory.specs.Claim.{Right, right?}
use Rattle.page_theory.specs.Demands.{WriteEnds, LookEnds, TakeEnds, JudgeEnds, ClaimEnds}
use Rattle.page_theory.specs.Calls.{write_ended, write_reply, write_in, write_for}
use Rattle.page_theory.specs.Calls.{look_ended, look_reply, look_by, look_in, look_for}
use Rattle.page_theory.specs.Calls.{take_ended, take_reply, take_by, take_in, take_for}
use Rattle.page_theory.specs.Calls.{block_reply, judge_ended, judge_by, judge_in, judge_for}
use Rattle.page_theory.specs.Calls.{claim_ended, claim_by, claim_in, claim_for}
use Rattle.page_theory.proofs.Calls.{look-wrong, take-wrong}

-- the numbers 0 to 7 come first in each list
among-small : (x : ℕ) (more : List ℕ) → x < 8 → among x (0 ∷ 1 ∷ 2 ∷ 3 ∷ 4 ∷ 5 ∷ 6 ∷ 7 ∷ more) ≡ true
unfolding among
among-small zero more h = refl
among-small (suc zero) more h = refl
among-small (suc (suc zero)) more h = refl
among-small (suc (suc (suc zero))) more h = refl
among-small (suc (suc (suc (suc zero)))) more h = refl
among-small (suc (suc (suc (suc (suc zero))))) more h = refl
among-small (suc (suc (suc (suc (suc (suc zero)))))) more h = refl
among-small (suc (suc (suc (suc (suc (suc (suc zero))))))) more h = refl
among-small (suc (suc (suc (suc (suc (suc (suc (suc x)))))))) more h = absurd (omega arith)

-- the replies about an edition, a record, lengths and a block number: up to 7, and 11
abbrev Early : ℕ → Type 0
Early x = (x < 8) ⊎ (x ≡ 11)

among-early : (x : ℕ) (more : List ℕ) → Early x → among 11 (0 ∷ 1 ∷ 2 ∷ 3 ∷ 4 ∷ 5 ∷ 6 ∷ 7 ∷ more) ≡ true
    → among x (0 ∷ 1 ∷ 2 ∷ 3 ∷ 4 ∷ 5 ∷ 6 ∷ 7 ∷ more) ≡ true
among-early x more (inl h) e = among-small x more h
among-early x more (inr h) e = rw h e

early-nine : (x : ℕ) → Early x → x ≡ 9 → ⊥
early-nine x (inl h) e = omega arith
early-nine x (inr h) e = omega arith

-- 5 for the page, 6 for one of two other buffers
small-three : (a b c : Bool) → cond a (cond b (cond c 0 6) 6) 5 < 8
small-three true true true = omega arith
small-three true true false = omega arith
small-three true false c = omega arith
small-three false b c = omega arith

write-small : (q : Plan) (m d page : ℕ) → write_reply q m d page < 8
unfolding write_reply
write-small q m d page = small-three (eqb page q.size) (eqb m q.metadata) (eqb d q.«data»)

take-small : (q : Plan) (page m d : ℕ) → take_reply q page m d < 8
unfolding take_reply
take-small q page m d = small-three (eqb page q.size) (eqb m q.metadata) (eqb d q.«data»)

look-small : (q : Plan) (page c : ℕ) → look_reply q page c < 8
unfolding look_reply
look-small q page c = small-three (eqb page q.size) (eqb c q.blocks) true

module _ (m d page : List ℕ) where
  ends-write : (x : ℕ) → Early x → WriteEnds page (write_ended x 0 page)
  ends-write x h = record { table = among-early x _ h (unfold among in refl); kept = λ n. refl; block = refl }

  write-in : (q : Plan) → WriteEnds page (write_in q m d page)
  unfolding write_in
  write-in q = go (eqb (write_reply q (length m) (length d) (length page)) 0)
    where
      go : (b : Bool) → WriteEnds page (cond b (write_ended 0 0 (page_of q page (m ++ d))) (write_ended (write_reply q (length m) (length d) (length page)) 0 page))
      go true = record { table = among-small 0 _ (omega arith); kept = λ n. absurd (n refl); block = refl }
      go false = ends-write _ (inl (write-small q _ _ _))

  pub write-ends : (a : Result Layout Refusal) → WriteEnds page (write_for a m d page)
  unfolding write_for
  write-ends (Ok l) = write-in (plan_of l)
  write-ends (Err r) = ends-write (refusal_reply r) (refusal-reply-early r)

module _ (page c : List ℕ) where
  ends-look : (x : ℕ) → Early x → LookEnds c (look_ended x 0 c)
  ends-look x h = record { table = among-early x _ h (unfold among in refl); kept = λ n k. refl; block = λ n. refl }

  ends-looking : (r : Reading) (l : List ℕ) → LookEnds c (look_by r l)
  unfolding look_by
  ends-looking (done w) l = record { table = among-small 0 _ (omega arith); kept = λ n k. absurd (n refl); block = λ n. refl }
  ends-looking (refused b) l = record { table = unfold among in refl; kept = λ n k. absurd (k refl); block = λ n. absurd (n refl) }

  look-in : (q : Plan) → LookEnds c (look_in q page c)
  unfolding look_in
  look-in q = elim (ℕ_discrete (look_reply q (length page) (length c)) 0) [
    | yes e ↦ rw e (ends-looking (reading q page) (counts q page))
    | no n ↦ rw (look-wrong q page c n) (ends-look _ (inl (look-small q _ _)))
  ]

  pub look-ends : (a : Result Layout Refusal) → LookEnds c (look_for a page c)
  unfolding look_for
  look-ends (Ok l) = look-in (plan_of l)
  look-ends (Err r) = ends-look (refusal_reply r) (refusal-reply-early r)

module _ (page m d : List ℕ) where
  ends-take : (x : ℕ) → Early x → TakeEnds m d (take_ended x 0 m d)
  ends-take x h = record { table = among-early x _ h (unfold among in refl); kept = λ n. refl; block = λ n. refl }

  ends-taking : (q : Plan) (r : Reading) → TakeEnds m d (take_by q r m d)
  unfolding take_by
  ends-taking q (done w) = record { table = among-small 0 _ (omega arith); kept = λ n. absurd (n refl); block = λ n. refl }
  ends-taking q (refused b) = record { table = unfold among in refl; kept = λ n. refl; block = λ n. absurd (n refl) }

  take_in_lem : (q : Plan) → TakeEnds m d (take_in q page m d)
  unfolding take_in
  take_in_lem q = elim (ℕ_discrete (take_reply q (length page) (length m) (length d)) 0) [
    | yes e ↦ rw e (ends-taking q (reading q page))
    | no n ↦ rw (take-wrong q page m d n) (ends-take _ (inl (take-small q _ _ _)))
  ]

  pub take_ends : (a : Result Layout Refusal) → TakeEnds m d (take_for a page m d)
  unfolding take_for
  take_ends (Ok l) = take_in_lem (plan_of l)
  take_ends (Err r) = ends-take (refusal_reply r) (refusal-reply-early r)

-- the replies about a page and a block number
data BlockReply : ℕ → Type 0 where
  right : BlockReply 0
  length-wrong : BlockReply 5
  range-wrong : BlockReply 7

block-reply : (q : Plan) (page b : ℕ) → BlockReply (block_reply q page b)
unfolding block_reply
block-reply q page b = go (eqb page q.size) (ltb b q.blocks)
  where
    go : (x y : Bool) → BlockReply (cond x (cond y 0 7) 5)
    go true true = right
    go true false = range-wrong
    go false y = length-wrong

module _ (page : List ℕ) (b : ℕ) where
  ends-judge : (x : ℕ) → Early x → JudgeEnds b (judge_ended x 0 0)
  ends-judge x h = record {
    table = among-early x _ h (unfold among in refl);
    kept = λ n. refl;
    block = λ n. refl;
    named = λ e. absurd (early-nine x h e);
  }

  ends-outcome : (o : Outcome) → JudgeEnds b (judge_by b o)
  unfolding judge_by
  ends-outcome (good m n) = record { table = among-small 0 _ (omega arith); kept = λ n. absurd (n refl); block = λ n. refl; named = λ e. absurd (omega arith) }
  ends-outcome (erased m z) = record { table = among-small 0 _ (omega arith); kept = λ n. absurd (n refl); block = λ n. refl; named = λ e. absurd (omega arith) }
  ends-outcome ruined = record { table = unfold among in refl; kept = λ n. refl; block = λ n. absurd (n refl); named = λ e. refl }

  judge-in : (q : Plan) → JudgeEnds b (judge_in q page b)
  unfolding judge_in
  judge-in q = go (block_reply q (length page) b) (block-reply q (length page) b)
    where
      go : (x : ℕ) → BlockReply x → JudgeEnds b (cond (eqb x 0) (judge_by b (outcome q page b)) (judge_ended x 0 0))
      go x right = ends-outcome (outcome q page b)
      go x length-wrong = ends-judge 5 (inl (omega arith))
      go x range-wrong = ends-judge 7 (inl (omega arith))

  pub judge-ends : (a : Result Layout Refusal) → JudgeEnds b (judge_for a page b)
  unfolding judge_for
  judge-ends (Ok l) = judge-in (plan_of l)
  judge-ends (Err r) = ends-judge (refusal_reply r) (refusal-reply-early r)

module _ (page : List ℕ) (b : ℕ) (claims : List ℕ) where
  ends-claim : (x : ℕ) → Early x → ClaimEnds (claim_ended x)
  ends-claim x h = record { table = among-early x _ h (unfold among in refl); block = refl }

  ends-right : (q : Plan) (c : Dec (Right (field q b) (level q b) (block_word q page b) claims)) → ClaimEnds (claim_by c)
  unfolding claim_by
  ends-right q (yes h) = ends-claim 0 (inl (omega arith))
  ends-right q (no h) = record { table = unfold among in refl; block = refl }

  claim-in : (q : Plan) → ClaimEnds (claim_in q page b claims)
  unfolding claim_in
  claim-in q = go (block_reply q (length page) b) (block-reply q (length page) b)
    where
      go : (x : ℕ) → BlockReply x
          → ClaimEnds (cond (eqb x 0) (claim_by (right? (field q b) (level q b) (block_word q page b) claims)) (claim_ended x))
      go x right = ends-right q (right? (field q b) (level q b) (block_word q page b) claims)
      go x length-wrong = ends-claim 5 (inl (omega arith))
      go x range-wrong = ends-claim 7 (inl (omega arith))

  pub claim-ends : (a : Result Layout Refusal) → ClaimEnds (claim_for a page b claims)
  unfolding claim_for
  claim-ends (Ok l) = claim-in (plan_of l)
  claim-ends (Err r) = ends-claim (refusal_reply r) (refusal-reply-early r)

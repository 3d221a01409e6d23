-- Judging one block. "It depends on the block number, the layout words, the page's length and that block's own bits, on no
-- other page bit" (document 01, "One block").
use Rattle.std.specs.Prelude.{Result, Ok, Err}
use Rattle.layout.specs.declared.Refusal.{Refusal}
use mathlib.Core.Path.{◌≡◌, refl, ◌∙◌}
use mathlib.Core.Bool.{cond}
use mathlib.Core.List.{List}
use Prim.Native.Nat.{ℕ, ◌<◌}
use native.Mathlib.Omega.{arith}
use lib.ListN.{length, get_or}
use lib.Dec.{eqb}
use borrow.Author.Tests.{eq-eqb, ne_eqb, lt-ltb}
use Rattle.layout_plan.specs.declared.Plan.{Plan}
use Rattle.layout_plan.specs.declared.Layout.{Layout}
use Rattle.layout_plan.specs.Plan.{plan_of, Valid}
use Rattle.code.specs.Word.{Word}
use Rattle.code.specs.Outcome.{Outcome}
use Rattle.page_theory.specs.Reading.{GivesAt, RefusedAt, outcome}
use Rattle.code.proofs.Outcome.{gives-count}
use Rattle.page_theory.specs.Damage.{Accepts}
use Rattle.page_theory.specs.Demands.{Reported, of-given, of-ruined}
use Rattle.page_theory.specs.Calls.{look_for, block_reply, Judged, judge_ended, judge_by, judge_in, judge_for}
use Rattle.page_theory.specs.Alike.{SameBits}
use Rattle.page_theory.proofs.Blocks.{block_word-cong}
use Rattle.page_theory.proofs.Reading.{Hands, of-good, of-erased, outcome-gives, outcome-ruined}
use Rattle.page_theory.proofs.Accepted.{judge-accepted}
use Rattle.page_theory.proofs.Demand2.{look-blocks}

judge-block : (q : Plan) (page other : List ℕ) (b : ℕ) → length page ≡ length other → SameBits q page other b → judge_in q page b ≡ judge_in q other b
unfolding judge_in outcome
judge-block q page other b l h = rw (l, block_word-cong q page other b h)

-- Two pages of one length that agree on the covered bits of the block judge the same, whether or not a layout is accepted.
pub judge-own : (a : Result Layout Refusal) (page other : List ℕ) (b : ℕ) → length page ≡ length other
    → ((l : Layout) → a ≡ Ok l → SameBits (plan_of l) page other b) → judge_for a page b ≡ judge_for a other b
unfolding judge_for
judge-own (Ok l) page other b n h = judge-block (plan_of l) page other b n (h l refl)
judge-own (Err r) page other b n h = refl

module _ (q : Plan) (page : List ℕ) (b : ℕ) (size : length page ≡ q.size) (inside : b < q.blocks) where
  pub block_reply-right : block_reply q (length page) b ≡ 0
  unfolding block_reply
  block_reply-right = rw (eq-eqb (length page) q.size size, lt-ltb b q.blocks inside)

  pub judge-outcome : judge_in q page b ≡ judge_by b (outcome q page b)
  unfolding judge_in
  judge-outcome = rw block_reply-right

  by-hands : (o : Outcome) (m : Word) (n : ℕ) → Hands o m n → judge_by b o ≡ judge_ended 0 0 n
  unfolding judge_by
  by-hands o m n of-good = refl
  by-hands o m n of-erased = refl

  -- a block that gives a message answers its count
  pub judge-gives : Valid q → (m : Word) (n : ℕ) → GivesAt q page b m n → judge_in q page b ≡ judge_ended 0 0 n
  judge-gives v m n g = judge-outcome ∙ by-hands _ m n (outcome-gives q page v b m n inside g)

  -- a ruined block answers 9 and its number
  pub judge-refuses : RefusedAt q page b → judge_in q page b ≡ judge_ended 9 b 0
  unfolding judge_by
  judge-refuses h = judge-outcome ∙ rw (outcome-ruined q page b h)

-- How judging a block ends, by what looking at the page reports of it.
unfoldable pub judge_counted : ℕ → ℕ → Judged
judge_counted b n = cond (eqb n 255) (judge_ended 9 b 0) (judge_ended 0 0 n)

-- "Answers the flip count, or 9 with that block's number."
module _ (a : Result Layout Refusal) (q : Plan) (accepted : Accepts a q) (page : List ℕ) (b : ℕ) (size : length page ≡ q.size) (inside : b < q.blocks) where
  pub judge-flips : (m : Word) (n : ℕ) → GivesAt q page b m n → judge_for a page b ≡ judge_ended 0 0 n
  judge-flips m n g = judge-accepted a q accepted page b ∙ judge-gives q page b size inside accepted.valid m n g

  pub judge-nine : RefusedAt q page b → judge_for a page b ≡ judge_ended 9 b 0
  judge-nine h = judge-accepted a q accepted page b ∙ judge-refuses q page b size inside h

  -- It answers the count that looking at the page reports of the block, and 9 where that is 255 (document 02, E6).
  pub judge-looked : (c : List ℕ) → length c ≡ q.blocks → judge_for a page b ≡ judge_counted b (get_or (look_for a page c).counts b 0)
  unfolding judge_counted
  judge-looked c l = go ((look-blocks a q accepted page c size l).blocks b inside)
    where
      v : Valid q
      v = accepted.valid

      go : {n : ℕ} → Reported q page b n → judge_for a page b ≡ judge_counted b n
      go {n} (of-given m g) = let k = gives-count _ _ _ _ m n (v.strong b inside) g in
          judge-flips m n g ∙ rw (ne_eqb n 255 (λ e. omega arith))
      go (of-ruined h e) = rw e (judge-nine h)

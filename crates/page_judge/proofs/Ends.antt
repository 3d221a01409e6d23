-- How a judgement ends.
use mathlib.Core.Path.{◌≡◌, sym}
use mathlib.Core.List.{List}
use Prim.Native.Nat.{ℕ, ◌<◌}
use native.Mathlib.Omega.{arith}
use lib.ListN.{length}
use borrow.Author.Tests.{ne_eqb}
use Rattle.std.specs.Prelude.{Result, Err}
use Rattle.replies.specs.declared.Refusal.{Refusal}
use Rattle.replies.specs.Replies.{number, block}
use Rattle.layout_plan.specs.declared.Plan.{Plan}
use Rattle.layout_plan.specs.declared.Layout.{Layout}
use Rattle.layout.specs.declared.Refusal as kinds
use Rattle.layout.specs.Acceptance.{refusal_of, refusal_reply}
use Rattle.page_theory.specs.Calls.{block_reply, judge_ended, judge_in, judge_for}
use Rattle.page_theory.proofs.OneBlock.{judge-gives, judge-refuses}
use Rattle.page_plan.specs.Plans.{Ready}
use Rattle.page_plan.proofs.Asking.{number-some, number-bare, layout-bare, block-bare}
use Rattle.page_decide.specs.Scanning.{remainder_at}
use Rattle.page_decide.specs.Deciding.{DecidedAt}
use Rattle.page_decide.proofs.Deciding.{clean-decided, decided-gives}

-- the layout record is refused
pub judge-layout : (page : List ℕ) (b : ℕ) {a : Result Layout kinds.Refusal} {x : kinds.Refusal} {y : Refusal} → y ≡ refusal_of x → a ≡ Err x
    → judge_ended (number y) (block y) 0 ≡ judge_for a page b
unfolding judge_for refusal_reply
judge-layout page b {x = x} e f = rw (e, f, layout-bare x)

pub judge-refused : (q : Plan) (page : List ℕ) (b : ℕ) (r : Refusal) → number r ≡ block_reply q (length page) b
    → judge_ended (number r) (block r) 0 ≡ judge_in q page b
unfolding judge_in
judge-refused q page b r e = rw (number-bare r (omega (arith, block-bare q (length page) b)), ← e, ne_eqb _ 0 (number-some r))

module _ (q : Plan) (page : List ℕ) (ready : Ready q page) (b : ℕ) (inside : b < q.blocks) where
  -- a decided block, by its count
  module _ {ps : List ℕ} {n : ℕ} (d : DecidedAt q page b ps n) where
    pub judge-counted : (n ≡ 255 → ⊥) → judge_ended 0 0 n ≡ judge_in q page b
    judge-counted h =
        let v = ready.plan.valid in
        sym (judge-gives q page b ready.size inside v _ n (decided-gives q page v b inside d (omega (arith, d.small, h))).1)

    pub judge-ruined : n ≡ 255 → judge_ended 9 b 0 ≡ judge_in q page b
    judge-ruined e = sym (judge-refuses q page b ready.size inside (d.ruined (omega arith)))

  pub judge-clean : remainder_at q page b ≡ 0 → judge_ended 0 0 0 ≡ judge_in q page b
  judge-clean e = judge-counted (clean-decided q page ready.plan.valid b inside e) (λ z. omega arith)

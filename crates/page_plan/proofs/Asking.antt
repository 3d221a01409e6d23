-- What the replies about lengths and block numbers say: nothing is wrong, or a refusal that names no block.
--
-- number-some       no refusal has the number 0
-- number-bare       a refusal with a number below 9 names no block
-- layout-bare       nor does that of a layout
-- told-passed, told-number     the number of a verdict that is told
-- block-bare        the reply to a page's length and a block number is below 9
-- reply-asked       where it is 0, the page has its length, and the block is one of the page's
use mathlib.Core.Path.{◌≡◌, refl, sym, ap, ◌∙◌}
use mathlib.Core.Bool.{Bool, true, false, cond}
use mathlib.Core.List.{List}
use Prim.Native.Nat.{ℕ, zero, ◌<◌}
use native.Mathlib.Omega.{arith}
use lib.ListN.{length}
use lib.Dec.{eqb, ltb}
use borrow.Author.Tests.{eqb-true, ltb-true}
use Rattle.std.specs.Prelude.{⊤, Result, Ok, Err}
use Rattle.replies.specs.declared.Refusal.{Refusal}
use Rattle.replies.specs.declared.Refusal.TheVariants as refusal
use Rattle.replies.specs.Replies.{number, block, verdict_number}
use Rattle.replies.proofs.Given.{number-positive}
use Rattle.layout.specs.declared.Refusal as kinds
use Rattle.layout_plan.specs.declared.Plan.{Plan}
use Rattle.layout.specs.Acceptance.{refusal_of}
use Rattle.layout_replies.proofs.ReplyRules.{refusal-block}
use Rattle.page_theory.specs.Calls.{block_reply}
use Rattle.page_plan.specs.Plans.{Planned, Ready}

pub number-some : (r : Refusal) → number r ≡ 0 → ⊥
number-some r e = omega (arith, number-positive r)

pub number-bare : (r : Refusal) → number r < 9 → block r ≡ 0
unfolding number block
number-bare refusal.LevelTooHigh l = refl
number-bare refusal.EmptyMessage l = refl
number-bare refusal.BlockTooLong l = refl
number-bare refusal.PageTooSmall l = refl
number-bare refusal.PageLength l = refl
number-bare refusal.BufferLength l = refl
number-bare refusal.OutOfRange l = refl
number-bare refusal.RemainderTooWide l = refl
number-bare (refusal.Uncorrectable b) l = absurd (omega arith)
number-bare refusal.ClaimWrong l = refl
number-bare refusal.MarkOutside l = refl

pub layout-bare : (r : kinds.Refusal) → block (refusal_of r) ≡ 0
layout-bare r = refusal-block r

pub told-passed : {v : Result ⊤ Refusal} {n : ℕ} → v ≡ Ok _ → verdict_number v ≡ n → n ≡ 0
unfolding verdict_number
told-passed e k = sym k ∙ ap verdict_number e

pub told-number : {v : Result ⊤ Refusal} {r : Refusal} {n : ℕ} → v ≡ Err r → verdict_number v ≡ n → number r ≡ n
unfolding verdict_number
told-number e k = sym (ap verdict_number e) ∙ k

pub block-bare : (q : Plan) (n b : ℕ) → block_reply q n b < 9
unfolding block_reply
block-bare q n b = go (eqb n q.size) (ltb b q.blocks)
  where
    go : (x y : Bool) → cond x (cond y zero 7) 5 < 9
    go true true = omega arith
    go true false = omega arith
    go false y = omega arith

pub reply-asked : (q : Plan) (page : List ℕ) (b : ℕ) → Planned q → block_reply q (length page) b ≡ 0 → Ready q page × (b < q.blocks)
unfolding block_reply
reply-asked q page b p e = go (eqb (length page) q.size) refl (ltb b q.blocks) refl e
  where
    go : (x : Bool) → eqb (length page) q.size ≡ x → (y : Bool) → ltb b q.blocks ≡ y → cond x (cond y zero 7) 5 ≡ zero
        → Ready q page × (b < q.blocks)
    go true ex true ey e = (record { plan = p; size = eqb-true _ _ ex }, ltb-true _ _ ey)
    go true ex false ey e = absurd (omega arith)
    go false ex y ey e = absurd (omega arith)

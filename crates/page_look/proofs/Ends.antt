-- How a look ends.
--
-- look-layout, look-refused    the layout record or a length is refused
-- reply-ready                  the lengths are right
-- look-lent                    what was lent does not matter where its length is right
-- look-done, look-ruined       the counts are written, and no block is ruined, or the lowest is named
use mathlib.Core.Path.{◌≡◌, refl, sym, ap, ◌∙◌}
use mathlib.Core.Bool.{Bool, true, false, cond}
use mathlib.Core.List.{List}
use Prim.Native.Nat.{ℕ, zero, ◌<◌}
use native.Mathlib.Omega.{arith}
use lib.ListN.{length}
use lib.Dec.{eqb}
use borrow.Author.Tests.{eqb-true, ne_eqb}
use Rattle.std.specs.Prelude.{Result, Err}
use Rattle.replies.specs.declared.Refusal.{Refusal}
use Rattle.replies.specs.Replies.{number, block}
use Rattle.layout_plan.specs.declared.Plan.{Plan}
use Rattle.layout_plan.specs.declared.Layout.{Layout}
use Rattle.layout.specs.declared.Refusal as kinds
use Rattle.layout.specs.Acceptance.{refusal_of, refusal_reply}
use Rattle.page_theory.specs.Reading.{RefusedAt, Lowest, counts}
use Rattle.page_theory.specs.Calls.{look_ended, look_reply, look_in, look_for}
use Rattle.page_theory.proofs.Calls.{look-right, look-sound, look-refuses}
use Rattle.page_plan.specs.Plans.{Planned, Ready}
use Rattle.page_plan.proofs.Asking.{number-some, number-bare, layout-bare}

reply-bare : (q : Plan) (page lent : ℕ) → look_reply q page lent < 9
unfolding look_reply
reply-bare q page lent = go (eqb page q.size) (eqb lent q.blocks)
  where
    go : (x y : Bool) → cond x (cond y zero 6) 5 < 9
    go true true = omega arith
    go true false = omega arith
    go false y = omega arith

pub look-layout : (page lent : List ℕ) {a : Result Layout kinds.Refusal} {x : kinds.Refusal} {y : Refusal} → y ≡ refusal_of x → a ≡ Err x
    → look_ended (number y) (block y) lent ≡ look_for a page lent
unfolding look_for refusal_reply
look-layout page lent {x = x} e f = rw (e, f, layout-bare x)

pub look-refused : (q : Plan) (page lent : List ℕ) (r : Refusal) → number r ≡ look_reply q (length page) (length lent)
    → look_ended (number r) (block r) lent ≡ look_in q page lent
unfolding look_in
look-refused q page lent r e = rw (number-bare r (omega (arith, reply-bare q (length page) (length lent))), ← e, ne_eqb _ 0 (number-some r))

pub reply-ready : (q : Plan) (page lent : List ℕ) → Planned q → look_reply q (length page) (length lent) ≡ 0
    → Ready q page × (length lent ≡ q.blocks)
unfolding look_reply
reply-ready q page lent p e = go (eqb (length page) q.size) refl (eqb (length lent) q.blocks) refl e
  where
    go : (x : Bool) → eqb (length page) q.size ≡ x → (y : Bool) → eqb (length lent) q.blocks ≡ y → cond x (cond y zero 6) 5 ≡ zero
        → Ready q page × (length lent ≡ q.blocks)
    go true ex true ey e = (record { plan = p; size = eqb-true _ _ ex }, eqb-true _ _ ey)
    go true ex false ey e = absurd (omega arith)
    go false ex y ey e = absurd (omega arith)

pub look-lent : (q : Plan) (page : List ℕ) → Ready q page → (lent other : List ℕ) → length lent ≡ q.blocks → length other ≡ q.blocks
    → look_in q page other ≡ look_in q page lent
look-lent q page ready lent other a b = look-right q page other ready.size b ∙ sym (look-right q page lent ready.size a)

module _ (q : Plan) (page : List ℕ) (ready : Ready q page) (lent : List ℕ) (size : length lent ≡ q.blocks) {l : List ℕ} (same : l ≡ counts q page) where
  pub look-done : {reply block : ℕ} → reply ≡ 0 → block ≡ 0 → ((b : ℕ) → b < q.blocks → RefusedAt q page b → ⊥)
      → look_ended reply block l ≡ look_in q page lent
  look-done r k h = rw (r, k) (ap (look_ended 0 0) same ∙ sym (look-sound q page lent ready.size size h))

  pub look-ruined : {reply block : ℕ} (b : ℕ) → reply ≡ 9 → block ≡ b → Lowest q page b
      → look_ended reply block l ≡ look_in q page lent
  look-ruined b r k h = rw (r, k) (ap (look_ended 9 b) same ∙ sym (look-refuses q page lent b ready.size size h))

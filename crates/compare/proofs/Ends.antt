-- How the calls on two pages end.
--
-- pages-right, counts-right      where the reply is 0 the lengths are right
-- look-counts                    what looking at a page of right lengths leaves
-- compare-refused, compare-passed     a comparison under a plan: refused for its pages, or not
-- counts-refused, counts-done    refused for its counts, or done
-- compare-layout                 refused for its layout
-- difference-refused, difference-done, difference-layout    the next position, so
use mathlib.Core.Path.{◌≡◌, refl, sym, ap, ap₂, ◌∙◌}
use mathlib.Core.Bool.{Bool, true, false, cond}
use mathlib.Core.List.{List}
use Prim.Native.Nat.{ℕ, zero, ◌<◌, ◌≤◌}
use native.Mathlib.Omega.{arith}
use lib.ListN.{length}
use lib.Dec.{eqb, leb}
use borrow.Author.Tests.{eq-eqb, ne_eqb, eqb-true}
use Rattle.replies.specs.declared.Refusal.{Refusal}
use Rattle.replies.specs.Replies.{number}
use Rattle.layout_plan.specs.declared.Plan.{Plan}
use Rattle.layout.specs.declared.Refusal as kinds
use Rattle.layout_plan.specs.declared.Layout.{Layout}
use Rattle.std.specs.Prelude.{Option, None, Result, Ok, Err}
use Rattle.layout_plan.specs.Record.{Words}
use Rattle.layout_plan.specs.Plan.{plan_of}
use Rattle.layout.specs.Acceptance.{acceptance, refusal_of, refusal_reply}
use Rattle.page_theory.specs.Reading.{Reading, done, refused, reading, counts}
use Rattle.page_theory.specs.Calls.{Looked, look_by, look_in, look_for, look_of}
use Rattle.page_theory.proofs.Calls.{look-right}
use Rattle.page_plan.proofs.Asking.{number-some}
use Rattle.differences.specs.Differences.{next}
use Rattle.compare.specs.Calls.{pages_reply, counts_reply, compared, compare_lent, compare_in, compare_for, found, difference_in, difference_for}
use Rattle.compare.specs.Steps.{Under}

pub pages-right : (q : Plan) (first second : ℕ) → pages_reply q first second ≡ 0 → (first ≡ q.size) × (second ≡ q.size)
unfolding pages_reply
pages-right q first second e = go (eqb first q.size) refl (eqb second q.size) refl (leb q.size 16384) e
  where
    go : (x : Bool) → eqb first q.size ≡ x → (y : Bool) → eqb second q.size ≡ y → (z : Bool)
        → cond x (cond y (cond z zero 6) 5) 5 ≡ zero → (first ≡ q.size) × (second ≡ q.size)
    go true a true b z e = (eqb-true _ _ a, eqb-true _ _ b)
    go true a false b z e = absurd (omega arith)
    go false a y b z e = absurd (omega arith)

pub counts-right : (q : Plan) (first second : ℕ) → counts_reply q first second ≡ 0 → (first ≡ q.blocks) × (second ≡ q.blocks)
unfolding counts_reply
counts-right q first second e = go (eqb first q.blocks) refl (eqb second q.blocks) refl e
  where
    go : (x : Bool) → eqb first q.blocks ≡ x → (y : Bool) → eqb second q.blocks ≡ y → cond x (cond y zero 6) 6 ≡ zero
        → (first ≡ q.blocks) × (second ≡ q.blocks)
    go true a true b e = (eqb-true _ _ a, eqb-true _ _ b)
    go true a false b e = absurd (omega arith)
    go false a y b e = absurd (omega arith)

-- the counts are written, those of a ruined page too
by-counts : (r : Reading) (l : List ℕ) → (look_by r l).counts ≡ l
unfolding look_by
by-counts (done w) l = refl
by-counts (refused b) l = refl

pub look-counts : {w : Words} {q : Plan} → Under w q → (page lent : List ℕ) → length page ≡ q.size → length lent ≡ q.blocks
    → (look_of w page lent).counts ≡ counts q page
unfolding look_for
look-counts {w} {q} u page lent a b =
    rw (u.accepted, ← u.same, look-right q page lent a b) (by-counts (reading q page) (counts q page))

module _ (q : Plan) (first second lent other : List ℕ) where
  pub compare-refused : (r : Refusal) → number r ≡ pages_reply q (length first) (length second)
      → compared (number r) lent other ≡ compare_in q first second lent other
  unfolding compare_in
  compare-refused r e = rw (← e, ne_eqb (number r) 0 (number-some r))

  pub compare-passed : pages_reply q (length first) (length second) ≡ 0
      → compare_lent q first second lent other ≡ compare_in q first second lent other
  unfolding compare_in
  compare-passed e = rw e

  pub counts-refused : (r : Refusal) → number r ≡ counts_reply q (length lent) (length other)
      → compared (number r) lent other ≡ compare_lent q first second lent other
  unfolding compare_lent
  counts-refused r e = rw (← e, ne_eqb (number r) 0 (number-some r))

  pub counts-done : counts_reply q (length lent) (length other) ≡ 0 → {a b : List ℕ} → a ≡ counts q first → b ≡ counts q second
      → compared 0 a b ≡ compare_lent q first second lent other
  unfolding compare_lent
  counts-done e f g = rw (e, f, g)

module _ (first second lent other : List ℕ) where
  pub compare-layout : {a : Result Layout kinds.Refusal} {x : kinds.Refusal} {y : Refusal} → y ≡ refusal_of x → a ≡ Err x
      → compared (number y) lent other ≡ compare_for a first second lent other
  unfolding compare_for refusal_reply
  compare-layout e f = rw (e, f)

module _ (q : Plan) (first second : List ℕ) (p : ℕ) where
  pub difference-refused : (r : Refusal) → number r ≡ pages_reply q (length first) (length second)
      → found (number r) None ≡ difference_in q first second p
  unfolding difference_in
  difference-refused r e = rw (← e, ne_eqb (number r) 0 (number-some r))

  pub difference-done : pages_reply q (length first) (length second) ≡ 0 → {d : Option ℕ} → d ≡ next q.mark q.size first second p
      → found 0 d ≡ difference_in q first second p
  unfolding difference_in
  difference-done e f = rw (e, f)

module _ (first second : List ℕ) (p : ℕ) where
  pub difference-layout : {a : Result Layout kinds.Refusal} {x : kinds.Refusal} {y : Refusal} → y ≡ refusal_of x → a ≡ Err x
      → found (number y) None ≡ difference_for a first second p
  unfolding difference_for refusal_reply
  difference-layout e f = rw (e, f)

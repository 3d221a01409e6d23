-- How a take ends that copies nothing out: the layout record or a length is refused, or a block is ruined.
--
-- take-layout, take-refused    the layout record or a length is refused
-- reply-ready                  the lengths are right
-- take-ruined                  the lowest ruined block is named
use mathlib.Core.Path.{◌≡◌, refl, sym}
use mathlib.Core.Bool.{Bool, true, false, cond}
use mathlib.Core.List.{List}
use Prim.Native.Nat.{ℕ, zero, ◌<◌}
use native.Mathlib.Omega.{arith}
use lib.ListN.{length}
use lib.Dec.{eqb}
use borrow.Author.Tests.{eqb-true, ne_eqb}
use Rattle.std.specs.Prelude.{Result, Err}
use Rattle.replies.specs.declared.Refusal.{Refusal}
use Rattle.replies.specs.Replies.{number, block}
use Rattle.layout_plan.specs.declared.Plan.{Plan}
use Rattle.layout_plan.specs.declared.Layout.{Layout}
use Rattle.layout.specs.declared.Refusal as kinds
use Rattle.layout.specs.Acceptance.{refusal_of, refusal_reply}
use Rattle.page_theory.specs.Reading.{Lowest}
use Rattle.page_theory.specs.Calls.{take_ended, take_reply, take_in, take_for}
use Rattle.page_theory.proofs.Calls.{take-refuses}
use Rattle.page_plan.specs.Plans.{Planned, Ready}
use Rattle.page_plan.proofs.Asking.{number-some, number-bare, layout-bare}

reply-bare : (q : Plan) (page m d : ℕ) → take_reply q page m d < 9
unfolding take_reply
reply-bare q page m d = go (eqb page q.size) (eqb m q.metadata) (eqb d q.«data»)
  where
    go : (x y z : Bool) → cond x (cond y (cond z zero 6) 6) 5 < 9
    go true true true = omega arith
    go true true false = omega arith
    go true false z = omega arith
    go false y z = omega arith

pub take-layout : (page m d : List ℕ) {a : Result Layout kinds.Refusal} {x : kinds.Refusal} {y : Refusal} → y ≡ refusal_of x → a ≡ Err x
    → take_ended (number y) (block y) m d ≡ take_for a page m d
unfolding take_for refusal_reply
take-layout page m d {x = x} e f = rw (e, f, layout-bare x)

pub take-refused : (q : Plan) (page m d : List ℕ) (r : Refusal) → number r ≡ take_reply q (length page) (length m) (length d)
    → take_ended (number r) (block r) m d ≡ take_in q page m d
unfolding take_in
take-refused q page m d r e =
    rw (number-bare r (omega (arith, reply-bare q (length page) (length m) (length d))), ← e, ne_eqb _ 0 (number-some r))

pub reply-ready : (q : Plan) (page m d : List ℕ) → Planned q → take_reply q (length page) (length m) (length d) ≡ 0
    → Ready q page × (length m ≡ q.metadata) × (length d ≡ q.«data»)
unfolding take_reply
reply-ready q page m d p e =
    go (eqb (length page) q.size) refl (eqb (length m) q.metadata) refl (eqb (length d) q.«data») refl e
  where
    go : (x : Bool) → eqb (length page) q.size ≡ x → (y : Bool) → eqb (length m) q.metadata ≡ y
        → (z : Bool) → eqb (length d) q.«data» ≡ z → cond x (cond y (cond z zero 6) 6) 5 ≡ zero
        → Ready q page × (length m ≡ q.metadata) × (length d ≡ q.«data»)
    go true ex true ey true ez e = (record { plan = p; size = eqb-true _ _ ex }, eqb-true _ _ ey, eqb-true _ _ ez)
    go true ex true ey false ez e = absurd (omega arith)
    go true ex false ey z ez e = absurd (omega arith)
    go false ex y ey z ez e = absurd (omega arith)

pub take-ruined : (q : Plan) (page : List ℕ) → Ready q page → (m d : List ℕ) → length m ≡ q.metadata → length d ≡ q.«data»
    → (b : ℕ) → Lowest q page b → take_ended 9 b m d ≡ take_in q page m d
take-ruined q page ready m d em ed b h = sym (take-refuses q page m d b ready.size em ed h)

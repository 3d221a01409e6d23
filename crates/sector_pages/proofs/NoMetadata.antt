-- A page of sectors has no metadata: taking it leaves none.
use mathlib.Core.Path.{◌≡◌, refl, sym, ap, ◌∙◌}
use mathlib.Core.Bool.{Bool, true, false, cond}
use mathlib.Core.List.{List, []}
use Prim.Native.Nat.{ℕ, ◌-◌}
use lib.ListN.{length}
use lib.Dec.{eqb}
use Rattle.bits.specs.Bits.{run, bytes}
use Rattle.layout_plan.specs.declared.Sectors.{Sectors}
use Rattle.layout_plan.specs.declared.Plan.{Plan}
use Rattle.layout_plan.specs.declared.Layout.{Layout}
use Rattle.layout.specs.declared.Refusal.{Refusal}
use Rattle.std.specs.Prelude.{Result, Ok, Err}
use Rattle.layout_plan.specs.Plan.{plan_of}
use Rattle.layout_plan.specs.SectorPlan.{last_shape, own_shape, sectors_plan, sector_plan}
use Rattle.page_theory.specs.Reading.{Reading, done, refused, reading}
use Rattle.page_theory.specs.Calls.{Taken, take_ended, take_reply, bytes_at, take_by, take_in, take_for}
use Rattle.sectors.specs.Sectors.{sector_acceptance}
use Rattle.sectors.proofs.Accepting.{sectors-plan}

module _ (page d : List ℕ) where
  in-none : (q : Plan) → q.metadata ≡ 0 → (take_in q page [] d).metadata ≡ []
  unfolding take_in take_by bytes_at bytes run
  in-none q e = go (eqb (take_reply q (length page) 0 (length d)) 0) (take_reply q (length page) 0 (length d)) (reading q page)
    where
      go : (x : Bool) (n : ℕ) (r : Reading) → (cond x (take_by q r [] d) (take_ended n 0 [] d)).metadata ≡ []
      go true n (done w) = ap (λ (k : ℕ). bytes_at w 0 k) e
      go true n (refused b) = refl
      go false n r = refl

  plan-none : (s : Sectors) → (sector_plan s).metadata ≡ 0
  unfolding sector_plan sectors_plan
  plan-none s = go (eqb s.count 1)
    where
      go : (x : Bool) → (cond x (sectors_plan s 1 (last_shape s) (last_shape s)) (sectors_plan s (s.count - 1) (own_shape s) (last_shape s))).metadata ≡ 0
      go true = refl
      go false = refl

  take_none : (s : Sectors) → (take_for (sector_acceptance s) page [] d).metadata ≡ []
  unfolding take_for
  take_none s = go (sector_acceptance s) refl
    where
      go : (a : Result Layout Refusal) → sector_acceptance s ≡ a → (take_for a page [] d).metadata ≡ []
      go (Ok l) e = in-none (plan_of l) (ap (λ (q : Plan). q.metadata) (sectors-plan s l e) ∙ plan-none s)
      go (Err r) e = refl

  -- what taking leaves, whatever the empty buffer is taken to hold
  pub taken_none : (s : Sectors) {n b : ℕ} {m after : List ℕ} → take_ended n b m after ≡ take_for (sector_acceptance s) page [] d
      → take_ended n b [] after ≡ take_for (sector_acceptance s) page [] d
  taken_none s {n} {b} {m} {after} e =
      let h : m ≡ [] = ap (λ (t : Taken). t.metadata) e ∙ take_none s in
      ap (λ (x : List ℕ). take_ended n b x after) (sym h) ∙ e

-- Under an accepted layout a call is the call under its plan, whatever names the layout; and layout words name one.
use Rattle.std.specs.Prelude.{Result, Ok}
use Rattle.layout.specs.declared.Refusal.{Refusal}
use mathlib.Core.Path.{◌≡◌, refl}
use mathlib.Core.List.{List}
use Prim.Native.Nat.{ℕ}
use Rattle.layout_plan.specs.declared.Plan.{Plan}
use Rattle.layout_plan.specs.declared.Layout.{Layout}
use Rattle.layout_plan.specs.Record.{Words}
use Rattle.layout_plan.specs.Plan.{plan_of}
use Rattle.layout.specs.Acceptance.{acceptance}
use Rattle.layout.proofs.Accepting.{accepted-valid}
use Rattle.page_theory.specs.Damage.{Accepts}
use Rattle.page_theory.specs.Calls.{write_in, write_for, look_in, look_for, take_in, take_for, judge_in, judge_for, claim_in, claim_for}

-- So what is proved of every accepted layout holds for all layout words that are accepted, with nothing else to suppose.
pub words-accepts : (w : Words) (l : Layout) → acceptance w ≡ Ok l → Accepts (acceptance w) (plan_of l)
words-accepts w l e = record { layout = l; accepted = e; plan = refl; valid = accepted-valid w l e }

module _ (a : Result Layout Refusal) (q : Plan) (h : Accepts a q) where
  pub write-accepted : (m d page : List ℕ) → write_for a m d page ≡ write_in q m d page
  unfolding write_for
  write-accepted m d page = rw (h.accepted, h.plan)

  pub look-accepted : (page c : List ℕ) → look_for a page c ≡ look_in q page c
  unfolding look_for
  look-accepted page c = rw (h.accepted, h.plan)

  pub take-accepted : (page m d : List ℕ) → take_for a page m d ≡ take_in q page m d
  unfolding take_for
  take-accepted page m d = rw (h.accepted, h.plan)

  pub judge-accepted : (page : List ℕ) (b : ℕ) → judge_for a page b ≡ judge_in q page b
  unfolding judge_for
  judge-accepted page b = rw (h.accepted, h.plan)

  pub claim-accepted : (page : List ℕ) (b : ℕ) (claims : List ℕ) → claim_for a page b claims ≡ claim_in q page b claims
  unfolding claim_for
  claim-accepted page b claims = rw (h.accepted, h.plan)

-- How the answer to a layout of sectors comes about.
--
-- count-wrong, choice-wrong, edition-wrong, level-wrong      what is looked at before the plan
-- numbers-right                                              nothing is wrong with them, and the rules of layout words answer
-- kept-found, broken-found                                   their answer
use mathlib.Core.Path.{◌≡◌, refl, sym, ◌∙◌}
use mathlib.Core.Bool.{Bool, true, false, cond}
use Prim.Native.Nat.{ℕ, ◌-◌, ◌≤◌, ◌<◌}
use native.Mathlib.Omega.{arith}
use native.Mathlib.Decide.{ℕ_discrete}
use lib.Dec.{eqb, leb}
use borrow.Author.Tests.{eq-eqb, ne_eqb, le-leb, lt-leb, lt-ltb, leb-true}
use Rattle.std.specs.Prelude.{⊤, Result, Ok, Err}
use Rattle.replies.specs.Edition.{offered, highest}
use Rattle.layout_plan.specs.declared.Sectors.{Sectors}
use Rattle.layout_plan.specs.declared.Layout.{Layout}
use Rattle.layout_plan.specs.declared.Plan.{Plan}
use Rattle.layout_plan.specs.declared.Fields.{Fields}
use Rattle.layout.specs.declared.Reason.{Reason}
use Rattle.layout.specs.declared.Rule.TheVariants.{Level}
use Rattle.layout.specs.declared.Kind.TheVariants.{First}
use Rattle.layout.specs.declared.Refusal.TheVariants as refusal
use Rattle.layout_plan.specs.SectorPlan.{sector_plan, sector_layout}
use Rattle.layout_plan.specs.Plan.{plan_of}
use Rattle.layout.specs.Acceptance.{test, level_rule, either, of_blocks, finding_of, judged}
use Rattle.sectors.specs.Sectors.{in_count, block_fields, sector_fields, sector_found, sector_acceptance}

pub count_none : (n : ℕ) → n ≡ 0 → false ≡ in_count n
unfolding in_count
count_none n e = rw (eq-eqb n 0 e)

pub count-some : (n : ℕ) → (n ≡ 0 → ⊥) → leb n 16 ≡ in_count n
unfolding in_count
count-some n e = rw (ne_eqb n 0 e)

-- a count that is allowed
pub count-range : (n : ℕ) → in_count n ≡ true → (0 < n) × (n ≤ 16)
unfolding in_count
count-range n e = elim (ℕ_discrete n 0) [
  | yes z ↦ absurd (let y : false ≡ true = rw (eq-eqb n 0 z) at e in let x : ◌≡◌ {A = ℕ} 0 1 = cc y in omega arith)
  | no z ↦ (let l : leb n 16 ≡ true = rw (ne_eqb n 0 z) at e in let k = leb-true _ _ l in (omega arith, k))
]

blocks-broken : (n : ℕ) (r : Reason) (g : Result ⊤ Reason) → of_blocks n (Err r) g ≡ Err r
unfolding of_blocks either
blocks-broken n r g = go (eqb n 0)
  where
    go : (b : Bool) → cond b (Err r) (either (Err r) g) ≡ Err r
    go true = refl
    go false = refl

module _ (s : Sectors) where
  pub count-wrong : in_count s.count ≡ false → Err refusal.Range ≡ sector_acceptance s
  unfolding sector_acceptance
  count-wrong e = rw e

  module _ (count : in_count s.count ≡ true) where
    pub choice-wrong : 1 < s.choice → Err refusal.Range ≡ sector_acceptance s
    unfolding sector_acceptance
    choice-wrong h = rw (count, lt-leb s.choice 1 h)

    module _ (choice : s.choice ≤ 1) where
      pub edition-wrong : offered s.edition ≡ false → Err refusal.Edition ≡ sector_acceptance s
      unfolding sector_acceptance
      edition-wrong e = rw (count, le-leb s.choice 1 choice, e)

      pub numbers-right : offered s.edition ≡ true → sector_found s ≡ sector_acceptance s
      unfolding sector_acceptance
      numbers-right e = rw (count, le-leb s.choice 1 choice, e)

  -- the first rule is that of the level field, which all sectors share
  pub level-wrong : highest s.edition < s.level
      → Err (refusal.Rule (record { rule = Level; kind = First; found = s.level; limit = highest s.edition })) ≡ sector_found s
  unfolding sector_found sector_fields block_fields finding_of judged level_rule test either
  level-wrong h = rw (lt-ltb (highest s.edition) s.level h, blocks-broken (s.count - 1) _ _)

  module _ {l : Layout} {f : Fields} {q : Plan} (el : l ≡ sector_layout s) (ef : f ≡ sector_fields s) (eq : q ≡ plan_of l) {g : Result ⊤ Reason} (eg : g ≡ finding_of f q) where
    finding : g ≡ finding_of (sector_fields s) (sector_plan s)
    unfolding plan_of sector_layout
    finding = eg ∙ rw (ef, eq, el)

    pub kept-found : g ≡ Ok _ → Ok l ≡ sector_found s
    unfolding sector_found judged
    kept-found e = rw (el, sym finding ∙ e)

    pub broken-found : {r : Reason} → g ≡ Err r → Err (refusal.Rule r) ≡ sector_found s
    unfolding sector_found judged
    broken-found e = rw (sym finding ∙ e)

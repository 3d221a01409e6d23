-- A layout of sectors is answered by its rules (sectors/Sectors `sector_rules`): each reply is given exactly if its rule applies and none before it does
-- (layout_replies/ReplyRules, page_theory/ReplyRules).
--
-- sectors-ruled            the answer follows the rules
-- sectors-ascends          after the three rules of reply 7 the turns never fall
-- sectors-unmarked         reply 11 is never given: there is no mark
use mathlib.Core.Path.{◌≡◌, refl, ap, ◌∙◌}
use mathlib.Core.Bool.{Bool, true, false, cond}
use Prim.Native.Nat.{ℕ}
use native.Mathlib.Omega.{arith}
use lib.Dec.{leb}
use Rattle.std.specs.Prelude.{⊤, Result, Ok, Err}
use Rattle.replies.specs.declared.Refusal.TheVariants as row
use Rattle.replies.specs.Replies.{number, verdict}
use Rattle.replies.specs.Edition.{offered}
use Rattle.replies.specs.Given.{turn, at_most, ascending}
use Rattle.replies.proofs.Given.{verdict-none}
use Rattle.layout_plan.specs.declared.Sectors.{Sectors}
use Rattle.layout.specs.declared.Reason.{Reason}
use Rattle.layout.specs.declared.Rule.TheVariants.{Outside}
use Rattle.layout.specs.declared.Refusal.TheVariants as refusal
use Rattle.layout_plan.specs.Plan.{plan_of}
use Rattle.layout_plan.specs.SectorPlan.{sector_plan, sector_layout}
use Rattle.layout.specs.Acceptance.{finding_of, judged, refusal_of}
use Rattle.layout_replies.specs.ReplyRules.{Ruled, accepts, refuses, Ascends, field_rules}
use Rattle.layout_replies.proofs.ReplyRules.{found, says-fields}
use Rattle.layout.proofs.Reasons.{Breaks, level-first, level-later, message-first, message-later, length-first, length-later, mark-outside, zeros-set, page-room}
use Rattle.layout.proofs.Reasons.{level_reason, message_reason, length_reason, mark_reason, zeros_reason, room_reason, reason-true}
use Rattle.sectors.specs.Sectors.{in_count, sector_fields, sector_found, sector_acceptance, sector_rules}

module _ (s : Sectors) where
  count-wrong : in_count s.count ≡ false → verdict (sector_rules s) ≡ Err row.OutOfRange
  unfolding sector_rules verdict
  count-wrong e = rw e

  module _ (count : in_count s.count ≡ true) where
    choice-wrong : leb s.choice 1 ≡ false → verdict (sector_rules s) ≡ Err row.OutOfRange
    unfolding sector_rules verdict
    choice-wrong e = rw (count, e)

    module _ (choice : leb s.choice 1 ≡ true) where
      edition-wrong : offered s.edition ≡ false → verdict (sector_rules s) ≡ Err row.OutOfRange
      unfolding sector_rules verdict
      edition-wrong e = rw (count, choice, e)

      numbers-right : offered s.edition ≡ true → verdict (sector_rules s) ≡ found (finding_of (sector_fields s) (sector_plan s))
      unfolding sector_rules verdict
      numbers-right e = rw (count, choice, e) (says-fields (sector_fields s) (sector_plan s)).same

  plan-of : plan_of (sector_layout s) ≡ sector_plan s
  unfolding plan_of sector_layout
  plan-of = refl

  pub sectors-ruled : Ruled (sector_rules s) (sector_plan s) (sector_acceptance s)
  unfolding sector_acceptance sector_found judged found refusal_of
  sectors-ruled = go (in_count s.count) refl (leb s.choice 1) refl (offered s.edition) refl (finding_of (sector_fields s) (sector_plan s)) refl
    where
      go : (c : Bool) → in_count s.count ≡ c → (g : Bool) → leb s.choice 1 ≡ g → (o : Bool) → offered s.edition ≡ o
          → (f : Result ⊤ Reason) → finding_of (sector_fields s) (sector_plan s) ≡ f
          → Ruled (sector_rules s) (sector_plan s) (cond c (cond g (cond o (judged (sector_layout s) f) (Err refusal.Edition)) (Err refusal.Range)) (Err refusal.Range))
      go true ec true eg true eo (Ok _) ef = rw (← plan-of) (accepts (sector_layout s) (verdict-none _ (numbers-right ec eg eo ∙ ap found ef)))
      go true ec true eg true eo (Err r) ef = refuses _ (refusal.Rule r) (numbers-right ec eg eo ∙ ap found ef)
      go true ec true eg false eo f ef = refuses _ refusal.Edition (edition-wrong ec eg eo)
      go true ec false eg o eo f ef = refuses _ refusal.Range (choice-wrong ec eg)
      go false ec g eg o eo f ef = refuses _ refusal.Range (count-wrong ec)

  pub sectors-ascends : Ascends 3 (sector_rules s)
  unfolding sector_rules field_rules ascending at_most turn number
  sectors-ascends = record { first = omega arith; rest = refl }

  -- no reason is about the mark
  unmarked : (r : Reason) → Breaks (sector_fields s) (sector_plan s) r → r.rule ≡ Outside → ⊥
  unfolding sector_fields level_reason message_reason length_reason mark_reason zeros_reason room_reason
  unmarked r (level-first h) e = let z : ◌≡◌ {A = ℕ} 0 1 = cc e in omega arith
  unmarked r (level-later n h) e = let z : ◌≡◌ {A = ℕ} 0 1 = cc e in omega arith
  unmarked r (message-first h) e = let z : ◌≡◌ {A = ℕ} 0 1 = cc e in omega arith
  unmarked r (message-later n h) e = let z : ◌≡◌ {A = ℕ} 0 1 = cc e in omega arith
  unmarked r (length-first t h) e = let z : ◌≡◌ {A = ℕ} 0 1 = cc e in omega arith
  unmarked r (length-later n t h) e = let z : ◌≡◌ {A = ℕ} 0 1 = cc e in omega arith
  unmarked r (mark-outside h) e = omega arith
  unmarked r (zeros-set a h) e = omega arith
  unmarked r (page-room h) e = let z : ◌≡◌ {A = ℕ} 0 1 = cc e in omega arith

  pub sectors-unmarked : (r : Reason) → finding_of (sector_fields s) (sector_plan s) ≡ Err r → r.rule ≡ Outside → ⊥
  sectors-unmarked r e = unmarked r (reason-true (sector_fields s) (sector_plan s) r e)

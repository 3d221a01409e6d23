-- The reason that is given for a refused record is true, and the one that decided.
--
-- Reasoned words y    what is said of a refused record holds: its edition is not offered; or it is, and its length is neither eight nor twelve; or both
--                     are right, and the named rule is broken with the numbers that it compares (layout/Reasons `Breaks`), and every broken rule comes
--                     later: its reply has a later turn, or the same and it is about the later blocks and not block 0 (layout/Reasons `rank`)
-- layout-true         a refused record is refused so
-- layout-free         an accepted one breaks no rule
use mathlib.Core.Path.{◌≡◌, refl}
use mathlib.Core.Bool.{Bool, true, false, cond}
use Prim.Native.Nat.{ℕ, ◌≤◌}
use native.Mathlib.Omega.{arith}
use lib.ListN.{length}
use Rattle.replies.specs.declared.Refusal.TheVariants as row
use Rattle.replies.specs.Edition.{offered}
use Rattle.layout.specs.declared.Reason.{Reason}
use Rattle.std.specs.Prelude.{⊤, Result, Ok, Err}
use Rattle.layout.specs.declared.Refusal.TheVariants as refusal
use Rattle.layout_plan.specs.Record.{Words, fields_in, layout_of, record_length}
use Rattle.layout_plan.specs.Plan.{plan_of}
use Rattle.layout.specs.Acceptance as layout
use Rattle.layout.specs.Acceptance.{finding_of, judged}
use Rattle.layout.proofs.Reasons.{Breaks, rank, reason-true, reason-first, kept_free}
use Rattle.explain.specs.declared.About.TheVariants as about
use Rattle.explain.specs.declared.Why.{Why}
use Rattle.explain.specs.Reasons.{why, rule_why, why_of, explain_for, explain_layout}

pub data Reasoned (w : Words) : Why → Type 0 where
  by-edition : offered w.edition ≡ false → Reasoned w (why row.OutOfRange about.Edition w.edition 2)
  by_length : offered w.edition ≡ true → record_length (length w.bytes) ≡ false
      → Reasoned w (why row.BufferLength about.Record (length w.bytes) 8)
  by-rule : {r : Reason} → offered w.edition ≡ true → record_length (length w.bytes) ≡ true → Breaks (fields_in w) (plan_of (layout_of w)) r
      → ((s : Reason) → Breaks (fields_in w) (plan_of (layout_of w)) s → rank r ≤ rank s) → Reasoned w (rule_why r)

refused-injective : {x y : Why} → ◌≡◌ {A = Result ⊤ Why} (Err x) (Err y) → x ≡ y
refused-injective e = cc

module _ (w : Words) where
  finding : Result ⊤ Reason
  finding = finding_of (fields_in w) (plan_of (layout_of w))

  -- the answer by the edition, the length and the first broken rule
  explains : Bool → Bool → Result ⊤ Reason → Result ⊤ Why
  explains o l f =
      explain_for w.edition (length w.bytes)
      (cond o (cond l (judged (layout_of w) f) (Err refusal.RecordLength)) (Err refusal.Edition))

  pub layout-true : (y : Why) → explain_layout w ≡ Err y → Reasoned w y
  unfolding explain_layout layout.acceptance explains finding explain_for why_of judged
  layout-true y h = go (offered w.edition) (record_length (length w.bytes)) finding refl refl refl h
    where
      go : (o l : Bool) (f : Result ⊤ Reason) → offered w.edition ≡ o → record_length (length w.bytes) ≡ l → finding ≡ f → explains o l f ≡ Err y → Reasoned w y
      go false l f eo el ef h = rw (← refused-injective h) (by-edition eo)
      go true false f eo el ef h = rw (← refused-injective h) (by_length eo el)
      go true true (Err r) eo el ef h =
          rw (← refused-injective h)
          (by-rule eo el (reason-true (fields_in w) (plan_of (layout_of w)) r ef) (λ s b. reason-first (fields_in w) (plan_of (layout_of w)) r s ef b))
      go true true (Ok _) eo el ef h = let z : ◌≡◌ {A = ℕ} 0 1 = cc h in absurd (omega arith)

  pub layout-free : explain_layout w ≡ Ok _ → (r : Reason) → Breaks (fields_in w) (plan_of (layout_of w)) r → ⊥
  unfolding explain_layout layout.acceptance explains finding explain_for why_of judged
  layout-free h r b = go (offered w.edition) (record_length (length w.bytes)) finding refl h
    where
      go : (o l : Bool) (f : Result ⊤ Reason) → finding ≡ f → explains o l f ≡ Ok _ → ⊥
      go false l f ef h = let z : ◌≡◌ {A = ℕ} 0 1 = cc h in omega arith
      go true false f ef h = let z : ◌≡◌ {A = ℕ} 0 1 = cc h in omega arith
      go true true (Err r) ef h = let z : ◌≡◌ {A = ℕ} 0 1 = cc h in omega arith
      go true true (Ok _) ef h = kept_free (fields_in w) (plan_of (layout_of w)) ef r b

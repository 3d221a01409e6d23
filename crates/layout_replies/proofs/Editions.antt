-- In edition 2 reply 1 never occurs for a layout of words (document 02, E13): every level field that five bits can hold is one.
use mathlib.Core.Path.{◌≡◌, refl}
use mathlib.Core.Bool.{Bool, true, false, cond}
use mathlib.Core.List.{List}
use Prim.Native.Nat.{ℕ, ◌/◌, ◌≤◌, ◌<◌}
use native.Mathlib.Omega.{arith}
use lib.ListN.{length, get_or}
use Rattle.std.specs.Prelude.{⊤, Result, Ok, Err}
use Rattle.replies.specs.Replies.{number}
use Rattle.replies.specs.Edition.{offered, highest}
use Rattle.layout_plan.specs.declared.Fields.{Fields}
use Rattle.layout_plan.specs.declared.Plan.{Plan}
use Rattle.layout.specs.declared.Reason.{Reason}
use Rattle.layout.specs.declared.Refusal.{Refusal}
use Rattle.layout.specs.declared.Refusal.TheVariants as refusal
use Rattle.layout_plan.specs.Record.{words_of, block_fields, fields_at, fields_under, layout_of, record_length}
use Rattle.layout_plan.specs.Plan.{plan_of}
use Rattle.layout.specs.Acceptance.{finding_of, judged, acceptance, rule_refusal, refusal_of, rule_number, refusal_reply}
use Rattle.layout.proofs.Reasons.{Breaks, level_reason, message_reason, length_reason, mark_reason, zeros_reason, room_reason, level-first, level-later, message-first, message-later, length-first, length-later, mark-outside, zeros-set, page-room, reason-true}

-- level fields that an edition has are no reason for 1
no-level : (f : Fields) (q : Plan) → f.first.ecc ≤ highest f.edition → f.later.ecc ≤ highest f.edition
    → (r : Reason) → Breaks f q r → rule_number r.rule ≡ 1 → ⊥
unfolding level_reason message_reason length_reason mark_reason zeros_reason room_reason rule_number rule_refusal number
no-level f q first later r (level-first h) e = omega arith
no-level f q first later r (level-later n h) e = omega arith
no-level f q first later r (message-first h) e = omega arith
no-level f q first later r (message-later n h) e = omega arith
no-level f q first later r (length-first t h) e = omega arith
no-level f q first later r (length-later n t h) e = omega arith
no-level f q first later r (mark-outside h) e = omega arith
no-level f q first later r (zeros-set a h) e = omega arith
no-level f q first later r (page-room h) e = omega arith

module _ (rec : List ℕ) (small : (i : ℕ) → get_or rec i 0 < 256) where
  level-byte : (i : ℕ) → get_or rec i 0 / 8 ≤ highest 2
  unfolding highest
  level-byte i = omega (arith, small i)

  pub second-levels : (r : Refusal) → acceptance (words_of 2 rec) ≡ Err r → refusal_reply r ≡ 1 → ⊥
  unfolding acceptance offered judged refusal_reply refusal_of rule_number number
  second-levels r e one = go (record_length (length rec)) (finding_of (fields_under 2 rec) (plan_of (layout_of (words_of 2 rec)))) refl e
    where
      go : (b : Bool) (f : Result ⊤ Reason) → finding_of (fields_under 2 rec) (plan_of (layout_of (words_of 2 rec))) ≡ f
          → cond b (judged (layout_of (words_of 2 rec)) f) (Err refusal.RecordLength) ≡ Err r → ⊥
      go false f g h = let k : r ≡ refusal.RecordLength = cc in let z : ◌≡◌ {A = ℕ} 6 1 = rw k at one in omega arith
      go true (Ok _) g h = let z : ◌≡◌ {A = ℕ} 0 1 = cc in omega arith
      go true (Err x) g h =
          let k : r ≡ refusal.Rule x = cc in
          no-level (fields_under 2 rec) (plan_of (layout_of (words_of 2 rec))) (unfold fields_under fields_at block_fields in level-byte 2)
          (unfold fields_under fields_at block_fields in level-byte 6) x (reason-true _ _ x g) (rw k at one)

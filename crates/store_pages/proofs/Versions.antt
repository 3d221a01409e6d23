-- The plan of a version, as `find_plan` answers it.
--
-- found-known, found-refused, unknown-refused     what it answers is the tested answer to the version
-- bare                                            a layout is refused with no block beside
use mathlib.Core.Path.{◌≡◌, ap, ◌∙◌}
use mathlib.Core.Bool.{true, false}
use mathlib.Core.List.{List}
use Prim.Native.Nat.{ℕ}
use native.Mathlib.Omega.{arith}
use Rattle.layout_plan.specs.declared.Plan.{Plan}
use Rattle.layout_plan.specs.Plan.{plan_of}
use Rattle.std.specs.Prelude.{Some, None, Result, Ok, Err}
use Rattle.layout.specs.declared.Refusal.{Refusal}
use Rattle.layout.specs.declared.Refusal.TheVariants.{Range}
use Rattle.layout_plan.specs.declared.Layout.{Layout}
use Rattle.layout.specs.Acceptance.{refusal_of, refusal_reply}
use Rattle.std.specs.Prelude.{⊤}
use Rattle.replies.specs.declared.Refusal as table
use Rattle.replies.specs.Replies.{verdict_number}
use Rattle.page_theory.specs.Calls.{write_in, write_ended, write_for, look_in, look_ended, look_for, take_in, take_ended, take_for}
use Rattle.page_theory.specs.Calls.{judge_in, judge_ended, judge_for, Claimed, claim_in, claim_ended, claim_for}
use Rattle.page_plan.proofs.Asking.{layout-bare}
use Rattle.page_plan.specs.Plans.{Planned, Sound}
use Rattle.plan_test.specs.Together.{holds_together}
use Rattle.version_list.specs.declared.Numbered.{Numbered}
use Rattle.version_list.specs.Plain.{Listed, find}
use Rattle.store_runs.specs.Runs.{lookup_answer, version_of}
use Rattle.store_pages.specs.Tested.{tested, plan_answer}

-- ---- the plan of a version

module _ (s : Listed) (v : ℕ) where
  pub found-known : (e : Numbered) → find s.layouts v ≡ Some e → holds_together e.plan ≡ true → plan_answer (Ok e.plan) ≡ tested (version_of s v)
  unfolding plan_answer tested version_of lookup_answer plan_of
  found-known e f h = rw (f, h)

  pub found-refused : (e : Numbered) → find s.layouts v ≡ Some e → holds_together e.plan ≡ false → plan_answer (Err Range) ≡ tested (version_of s v)
  unfolding plan_answer tested version_of lookup_answer plan_of
  found-refused e f h = rw (f, h)

  pub unknown-refused : find s.layouts v ≡ None → plan_answer (Err Range) ≡ tested (version_of s v)
  unfolding plan_answer tested version_of lookup_answer
  unknown-refused f = rw f

-- ---- a refused layout names no block

pub ruleset bare = (layout-bare)

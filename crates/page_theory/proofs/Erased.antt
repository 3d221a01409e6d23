-- A page that was never written (document 02, E1): under every accepted layout a page whose bits outside the mark are all ones is never refused,
-- neither by looking at it nor by taking it nor by judging a block. The mark may hold anything, as the factory left it.
use Rattle.std.specs.Prelude.{Result}
use Rattle.layout.specs.declared.Refusal.{Refusal}
use Rattle.layout_plan.specs.declared.Layout.{Layout}
use mathlib.Core.Path.{◌≡◌, refl, sym, ap, ◌∙◌}
use mathlib.Core.Bool.{true}
use mathlib.Core.List.{List}
use Prim.Native.Nat.{ℕ, ◌+◌, ◌<◌}
use native.Mathlib.Omega.{arith}
use lib.ListN.{length, replicate, length-replicate}
use Rattle.bits.proofs.Runs.{run-ext}
use Rattle.mark.specs.Mark.{stream_bit}
use Rattle.layout_plan.specs.declared.Plan.{Plan}
use Rattle.layout_plan.specs.Plan.{covered, start, room}
use Rattle.code.specs.Word.{zeros}
use Rattle.code.specs.Outcome.{Outcome, good, erased, ruined}
use Rattle.code.proofs.Zeros.{zeros-none}
use Rattle.page_theory.specs.Page.{block_word}
use Rattle.page_theory.specs.Reading.{RefusedAt, outcome}
use Rattle.page_theory.specs.Damage.{Accepts}
use Rattle.page_theory.specs.Calls.{look_for, take_for, judge_by, judge_for, Judged}
use Rattle.page_theory.proofs.Accepted.{judge-accepted}
use Rattle.page_theory.proofs.Zeros.{replicate-at}
use Rattle.page_theory.proofs.Reading.{ruined-outcome}
use Rattle.page_theory.proofs.OneBlock.{judge-outcome}
use Rattle.page_theory.proofs.Demand3.{look-refused-only, look-otherwise, take-refused-only, take-otherwise}

module _ (a : Result Layout Refusal) (q : Plan) (accepted : Accepts a q) (page : List ℕ) (size : length page ≡ q.size)
    (blank : (p : ℕ) → p < room q → stream_bit q.mark page p ≡ true) where
  blank-zeros : (b : ℕ) → b < q.blocks → zeros (block_word q page b) ≡ 0
  unfolding block_word
  blank-zeros b l = ap zeros word ∙ zeros-none (covered q b)
    where
      word : block_word q page b ≡ replicate (covered q b) true
      word = let v = accepted.valid in
          run-ext (stream_bit q.mark page) (start q b) (replicate (covered q b) true) (covered q b) true (length-replicate (covered q b) true)
          (λ j k. blank (start q b + j) (omega (arith, v.ends b l)) ∙ sym (replicate-at (covered q b) j true))

  blank-sound : (b : ℕ) → b < q.blocks → RefusedAt q page b → ⊥
  blank-sound b l h = omega (arith, h.many, blank-zeros b l)

  pub blank-looked : (c : List ℕ) → length c ≡ q.blocks → (look_for a page c).reply ≡ 0
  blank-looked c i = look-otherwise a q accepted page size c i (λ e.
      let h = look-refused-only a q accepted page size c i e in blank-sound _ h.inside h.ruins)

  pub blank-taken : (m d : List ℕ) → length m ≡ q.metadata → length d ≡ q.«data» → (take_for a page m d).reply ≡ 0
  blank-taken m d i j = take-otherwise a q accepted page size m d i j (λ e.
      let h = take-refused-only a q accepted page size m d i j e in blank-sound _ h.inside h.ruins)

  pub blank-judged : (b : ℕ) → b < q.blocks → (judge_for a page b).reply ≡ 0
  unfolding judge_by
  blank-judged b l =
      ap (λ (r : Judged). r.reply) (judge-accepted a q accepted page b ∙ judge-outcome q page b size l) ∙ go (outcome q page b) refl
    where
      go : (o : Outcome) → outcome q page b ≡ o → (judge_by b o).reply ≡ 0
      go (good m n) e = refl
      go (erased m z) e = refl
      go ruined e = absurd (blank-sound b l (ruined-outcome q page b e))

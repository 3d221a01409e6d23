-- Document 02, E14: what a badly worn block may claim. "A block with t > 0, written and then damaged by e flips in its covered bits, e more
-- than t and at most 2t, is either refused, read as erased under E1, or read with at least 2t + 1 - e flips reported. So damage of one to 2t
-- flips never passes as an untouched block."
--
-- It is said of one block, whatever became of the others, and of what looking at the page and judging the block report.
use Rattle.std.specs.Prelude.{Result}
use Rattle.layout.specs.declared.Refusal.{Refusal}
use Rattle.layout_plan.specs.declared.Layout.{Layout}
use mathlib.Core.Path.{◌≡◌, refl, sym, ap, ◌∙◌}
use mathlib.Core.Bool.{Bool}
use mathlib.Core.List.{List, ◌++◌}
use Prim.Native.Nat.{ℕ, zero, suc, ◌*◌, ◌≤◌, ◌<◌}
use native.Mathlib.Omega.{arith}
use native.Mathlib.Decide.{dec_le, dec_lt, ℕ_discrete}
use lib.ListN.{length, get_or}
use Rattle.mark.specs.Mark.{stream_bit}
use Rattle.layout_plan.specs.declared.Plan.{Plan}
use Rattle.layout_plan.specs.Plan.{bits, field, level, covered, start, Valid}
use Rattle.code.specs.Word.{Word, distance}
use Rattle.code.specs.Code.{Near}
use Rattle.code.specs.Outcome.{Outcome, good, erased, ruined, erased_count}
use Rattle.code.proofs.Outcome.{near-gives, judge-worn}
use Rattle.page_theory.specs.Page.{message, written, page_of, block_word}
use Rattle.page_theory.specs.Reading.{GivesAt, Reading, done, refused, reading, outcome, count_of, counts}
use Rattle.page_theory.specs.Damage.{Accepts, flips}
use Rattle.page_theory.specs.Calls.{Looked, look_by, look_for, Judged, judge_ended, judge_by, judge_for}
use Rattle.page_theory.specs.Worn.{Changed, WrittenAndChanged, Past, Touched, Worn, is-ruined, is-erased, is_read, Answered, Means, as-counted, beyond, Unharmed, untouched, past}
use Rattle.page_theory.proofs.Blocks.{written-length, written-message, written-code, block_word-length, block_word-fits, page-block}
use Rattle.page_theory.proofs.Damage.{distance-turned}
use Rattle.page_theory.proofs.Reading.{Hands, of-good, of-erased, outcome-gives, counts-at}
use Rattle.page_theory.proofs.Calls.{look-right}
use Rattle.page_theory.proofs.Accepted.{look-accepted, judge-accepted}
use Rattle.page_theory.proofs.OneBlock.{judge-outcome}
use Rattle.page_theory.proofs.Demand2.{write_done}

-- under a plan

module _ (q : Plan) (v : Valid q) (before d page : List ℕ) (s : ℕ → ℕ → Bool) (h : Changed q (page_of q before d) page s)
    (b : ℕ) (inside : b < q.blocks) where
  changed-distance : distance (block_word q page b) (block_word q (page_of q before d) b) ≡ flips q s b
  unfolding block_word flips
  changed-distance = distance-turned (stream_bit q.mark page) (stream_bit q.mark (page_of q before d)) (s b) (start q b) (covered q b)
      (λ j k. h.turned b j inside k)

  -- a block is as far from what was written as bits were turned over in it
  changed-flips : distance (block_word q page b) (written q d b) ≡ flips q s b
  changed-flips = rw (page-block q before d v b inside) at changed-distance

  -- more flips than the level corrects
  outcome-past : level q b < flips q s b → Worn (level q b) (flips q s b) (outcome q page b)
  unfolding outcome
  outcome-past far = go (outcome q page b) refl
    where
      go : (o : Outcome) → outcome q page b ≡ o → Worn (level q b) (flips q s b) o
      go ruined e = is-ruined
      go (erased m z) e = is-erased m z
      go (good m n) e = is_read m n (rw changed-flips at
          (judge-worn _ _ (bits q b) (block_word q page b) (written q d b) m n (block_word-fits q v page b inside)
          (written-length q v d b ∙ sym (block_word-length q page b)) (written-code q d b (v.strong b inside)) (rw changed-flips far) e))

  hands-count : (o : Outcome) (m : Word) (n : ℕ) → Hands o m n → (count_of o ≡ n) × (judge_by b o ≡ judge_ended 0 0 n)
  unfolding count_of judge_by
  hands-count o m n of-good = (refl, refl)
  hands-count o m n of-erased = (refl, refl)

  -- at most as many as it corrects
  outcome-within : flips q s b ≤ level q b → (count_of (outcome q page b) ≡ flips q s b) × (judge_by b (outcome q page b) ≡ judge_ended 0 0 (flips q s b))
  outcome-within few = hands-count (outcome q page b) (message q d b) (flips q s b) (outcome-gives q page v b _ _ inside gives)
    where
      near : Near (field q b) (level q b) (block_word q page b) (written q d b)
      near = record {
        same = written-length q v d b ∙ sym (block_word-length q page b);
        code = written-code q d b (v.strong b inside);
        close = rw changed-flips few;
      }

      gives : GivesAt q page b (message q d b) (flips q s b)
      gives = rw (← changed-flips, ← written-message q d b) (near-gives _ _ (bits q b) _ _ near)

-- an outcome past the level does not report 0
worn-count : (t e : ℕ) (o : Outcome) → Worn t e o → e ≤ 2 * t → count_of o ≡ 0 → ⊥
unfolding count_of erased_count
worn-count t e o is-ruined l z = omega arith
worn-count t e o (is-erased m y) l z = omega arith
worn-count t e o (is_read m n h) l z = omega arith

-- what a count up to the level says of the flips
worn-means : (t e : ℕ) (o : Outcome) → t ≤ 62 → Worn t e o → count_of o ≤ t → Means t (count_of o) e
unfolding count_of erased_count
worn-means t e o s is-ruined l = absurd (omega arith)
worn-means t e o s (is-erased m z) l = absurd (omega arith)
worn-means t e o s (is_read m n h) l = beyond h

counted-judged : (b : ℕ) (o : Outcome) → judge_by b o ≡ judge_ended 0 0 0 → count_of o ≡ 0
unfolding count_of judge_by
counted-judged b (good m n) e = ap (λ (r : Judged). r.flips) e
counted-judged b (erased m z) e = ap (λ (r : Judged). r.flips) e
counted-judged b ruined e = let z : ◌≡◌ {A = ℕ} 9 0 = ap (λ (r : Judged). r.reply) e in absurd (omega arith)

look_by-counts : (r : Reading) (c : List ℕ) → (look_by r c).counts ≡ c
unfolding look_by
look_by-counts (done w) c = refl
look_by-counts (refused b) c = refl

-- of the calls

module _ (a : Result Layout Refusal) (q : Plan) (accepted : Accepts a q) (m d page : List ℕ) (s : ℕ → ℕ → Bool) (h : WrittenAndChanged a q m d page s)
    (lent : List ℕ) (room : length lent ≡ q.blocks) where
  as_written : Changed q (page_of q h.lent (m ++ d)) page s
  as_written = rw (write_done a q accepted m d h.lent h.payload h.size) at h.changed

  module _ (b : ℕ) (inside : b < q.blocks) where
    looked-count : get_or (look_for a page lent).counts b 0 ≡ count_of (outcome q page b)
    looked-count = ap (λ (r : Looked). get_or r.counts b 0)
        (look-accepted a q accepted page lent ∙ look-right q page lent h.changed.page.count room)
        ∙ rw (look_by-counts (reading q page) (counts q page)) (counts-at q page b inside)

    judged-outcome : judge_for a page b ≡ judge_by b (outcome q page b)
    judged-outcome = judge-accepted a q accepted page b ∙ judge-outcome q page b h.changed.page.count inside

    -- "either refused, read as erased under E1, or read with at least 2t + 1 - e flips reported"
    pub past-level : Past q s b → (o : Outcome) × (Worn (level q b) (flips q s b) o) × (Answered a page lent b o)
    past-level p = (
      outcome q page b,
      outcome-past q accepted.valid h.lent (m ++ d) page s as_written b inside p.more,
      record { looked = looked-count; judged = judged-outcome },
    )

    -- with one to t flips the count is their number
    pub within_level : flips q s b ≤ level q b → (get_or (look_for a page lent).counts b 0 ≡ flips q s b) × (judge_for a page b ≡ judge_ended 0 0 (flips q s b))
    within_level few = let w = outcome-within q accepted.valid h.lent (m ++ d) page s as_written b inside few in
        (looked-count ∙ w.0, judged-outcome ∙ w.1)

    -- a count up to the level is the number of flips, or there were at least 2t + 1 less the count
    pub count-means : get_or (look_for a page lent).counts b 0 ≤ level q b → Means (level q b) (get_or (look_for a page lent).counts b 0) (flips q s b)
    count-means low = elim (dec_le (flips q s b) (level q b)) [
      | yes few ↦ as-counted (sym (within_level few).0)
      | no far ↦ rw looked-count (worn-means _ _ (outcome q page b) (accepted.valid.strong b inside)
          (outcome-past q accepted.valid h.lent (m ++ d) page s as_written b inside (omega arith)) (rw looked-count at low))
    ]

    -- a count above the level, as an erased or ruined block has it, means more flips than the level corrects
    pub high-means : level q b < get_or (look_for a page lent).counts b 0 → level q b < flips q s b
    high-means high = elim (dec_le (flips q s b) (level q b)) [
      | yes few ↦ absurd (omega (arith, (within_level few).0))
      | no far ↦ omega arith
    ]

    -- "damage of one to 2t flips never passes as an untouched block"
    count-touched : Touched q s b → count_of (outcome q page b) ≡ 0 → ⊥
    count-touched t z = elim (dec_le (flips q s b) (level q b)) [
      | yes few ↦ omega (arith, t.some, (outcome-within q accepted.valid h.lent (m ++ d) page s as_written b inside few).0)
      | no far ↦ worn-count _ _ _ (outcome-past q accepted.valid h.lent (m ++ d) page s as_written b inside (omega arith)) t.few z
    ]

    pub never-untouched : Touched q s b → (get_or (look_for a page lent).counts b 0 ≡ 0 → ⊥) × (judge_for a page b ≡ judge_ended 0 0 0 → ⊥)
    never-untouched t = (
      λ z. count-touched t (sym looked-count ∙ z),
      λ z. count-touched t (counted-judged b _ (sym judged-outcome ∙ z)),
    )

  -- A page whose counts are all 0 was not damaged in a covered bit, or in some block more than 2t bits flipped.
  pub counts_zero : ((b : ℕ) → b < q.blocks → get_or (look_for a page lent).counts b 0 ≡ 0) → Unharmed q s
  counts_zero zeros = go q.blocks (omega arith) (λ b k l. absurd (omega arith))
    where
      none : (b : ℕ) → b < q.blocks → flips q s b ≤ 2 * level q b → flips q s b ≡ 0
      none b l few = elim (dec_lt 0 (flips q s b)) [
        | yes some ↦ absurd ((never-untouched b l (record { some = some; few = few })).0 (zeros b l))
        | no p ↦ omega arith
      ]

      go : (n : ℕ) → n ≤ q.blocks → ((b : ℕ) → n ≤ b → b < q.blocks → flips q s b ≡ 0) → Unharmed q s
      go zero l above = untouched (λ b k. above b (omega arith) k)
      go (suc n) l above = elim (dec_le (flips q s n) (2 * level q n)) [
        | no p ↦ past n (omega arith) (omega arith)
        | yes p ↦ go n (omega arith) (λ b k i. elim (ℕ_discrete b n) [
          | yes e ↦ rw e (none n (omega arith) p)
          | no e ↦ above b (omega arith) i
        ])
      ]

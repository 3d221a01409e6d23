-- The words of the page calls: reply, block and value come back out of them, and beside a refusal there is nothing else. A block is below 256, since
-- a layout record is made of bytes.
use mathlib.Core.Path.{◌≡◌, refl}
use mathlib.Core.Bool.{Bool, true, false, cond}
use mathlib.Core.List.{List, [], ◌∷◌}
use Prim.Native.Nat.{ℕ, ◌+◌, ◌≤◌, ◌<◌}
use native.Mathlib.Omega.{arith}
use lib.ListN.{length, get_or}
use lib.Dec.{eqb, ltb}
use borrow.Author.Tests.{eqb-true, ltb-true}
use Rattle.layout_plan.specs.Record.{Words}
use Rattle.layout_plan.specs.declared.Plan.{Plan}
use Rattle.std.specs.Prelude.{Result, Ok, Err}
use Rattle.layout_plan.specs.declared.Layout.{Layout}
use Rattle.layout.specs.declared.Refusal.{Refusal}
use Rattle.layout_plan.specs.Plan.{plan_of}
use Rattle.layout.specs.Acceptance.{acceptance}
use Rattle.code.specs.Outcome.{Outcome, good, erased, ruined}
use Rattle.page_theory.specs.Reading.{Reading, outcome, reading, counts}
use Rattle.replies.specs.Replies.{among}
use Rattle.page_theory.specs.Calls.{write_of, look_ended, look_reply, look_by, look_in, look_for, look_of}
use Rattle.page_theory.specs.Calls.{take_ended, take_reply, take_by, take_in, take_for, take_of}
use Rattle.page_theory.specs.Calls.{block_reply, judge_ended, judge_by, judge_in, judge_for, judge_of, claim_of}
use Rattle.page_theory.proofs.Reading.{refused-lowest}
use Rattle.page_theory.proofs.Calls.{Replied, whole, named, look-replied, take-replied}
use Rattle.page_theory.proofs.Demand1.{write-ends, look-ends, take_ends, judge-ends, claim-ends}
use Rattle.answer_words.specs.Answer.{answer_word}
use Rattle.rudderfig.specs.Pages.{judge_word, claim_word}
use Rattle.rudderfig.proofs.Words.{Holds, word_holds}
use Rattle.rudderfig.proofs.Sizes.{blocks-low, accepted-narrow}

total : List ℕ → ℕ
total [] = 0
total (x ∷ xs) = x + total xs

among-low : (x : ℕ) (xs : List ℕ) → among x xs ≡ true → x ≤ total xs
unfolding among total
among-low x [] h = let z : ◌≡◌ {A = ℕ} 0 1 = cc h in absurd (omega arith)
among-low x (y ∷ ys) h = go (eqb x y) refl h (among-low x ys)
  where
    go : (b : Bool) → eqb x y ≡ b → cond b true (among x ys) ≡ true → (among x ys ≡ true → x ≤ total ys) → x ≤ y + total ys
    go true e k f = omega (arith, eqb-true x y e)
    go false e k f = omega (arith, f k)

-- a block that the definition of a call names is one of the layout's

replied-block : (q : Plan) (page : List ℕ) {r : Reading} {x b : ℕ} → reading q page ≡ r → Replied r x b → b ≤ q.blocks
replied-block q page e (whole w) = omega arith
replied-block q page e (named b) = omega (arith, (refused-lowest q page b e).inside)

look-block : (q : Plan) (page c : List ℕ) → (look_in q page c).block ≤ q.blocks
unfolding look_in
look-block q page c = go (eqb (look_reply q (length page) (length c)) 0)
  where
    go : (t : Bool) → (cond t (look_by (reading q page) (counts q page)) (look_ended (look_reply q (length page) (length c)) 0 c)).block ≤ q.blocks
    go true = replied-block q page refl (look-replied (reading q page) (counts q page))
    go false = omega arith

take-block : (q : Plan) (page m d : List ℕ) → (take_in q page m d).block ≤ q.blocks
unfolding take_in
take-block q page m d = go (eqb (take_reply q (length page) (length m) (length d)) 0)
  where
    go : (t : Bool) → (cond t (take_by q (reading q page) m d) (take_ended (take_reply q (length page) (length m) (length d)) 0 m d)).block ≤ q.blocks
    go true = replied-block q page refl (take-replied q (reading q page) m d)
    go false = omega arith

judge-block : (q : Plan) (page : List ℕ) (b : ℕ) → (judge_in q page b).block ≤ q.blocks
unfolding judge_in block_reply judge_by
judge-block q page b = go (eqb (length page) q.size) (ltb b q.blocks) refl (outcome q page b)
  where
    go : (s t : Bool) → ltb b q.blocks ≡ t → (o : Outcome)
        → (cond (eqb (cond s (cond t 0 7) 5) 0) (judge_by b o) (judge_ended (cond s (cond t 0 7) 5) 0 0)).block ≤ q.blocks
    go true true e (good m n) = omega arith
    go true true e (erased m z) = omega arith
    go true true e ruined = omega (arith, ltb-true b q.blocks e)
    go true false e o = omega arith
    go false t e o = omega arith

module _ (rec : Words) (bytes : (i : ℕ) → get_or rec.bytes i 0 < 256) where
  look-low : (page c : List ℕ) → (look_of rec page c).block < 65536
  unfolding look_for
  look-low page c = go (acceptance rec) refl
    where
      go : (a : Result Layout Refusal) → acceptance rec ≡ a → (look_for a page c).block < 65536
      go (Ok l) h = omega (arith, look-block (plan_of l) page c, blocks-low l (accepted-narrow rec bytes l h))
      go (Err r) h = omega arith

  take-low : (page m d : List ℕ) → (take_of rec page m d).block < 65536
  unfolding take_for
  take-low page m d = go (acceptance rec) refl
    where
      go : (a : Result Layout Refusal) → acceptance rec ≡ a → (take_for a page m d).block < 65536
      go (Ok l) h = omega (arith, take-block (plan_of l) page m d, blocks-low l (accepted-narrow rec bytes l h))
      go (Err r) h = omega arith

  judge-low : (page : List ℕ) (b : ℕ) → (judge_of rec page b).block < 65536
  unfolding judge_for
  judge-low page b = go (acceptance rec) refl
    where
      go : (a : Result Layout Refusal) → acceptance rec ≡ a → (judge_for a page b).block < 65536
      go (Ok l) h = omega (arith, judge-block (plan_of l) page b, blocks-low l (accepted-narrow rec bytes l h))
      go (Err r) h = omega arith

  pub write-holds : (m d page : List ℕ) → let w = write_of rec m d page in Holds w.reply w.block 0 (answer_word w.reply w.block 0 0)
  unfolding total
  write-holds m d page =
      let ends = write-ends m d page (acceptance rec) in
      word_holds 0 (omega (arith, among-low _ _ ends.table)) (omega (arith, ends.block)) (λ h. refl)

  pub look-holds : (page c : List ℕ) → let w = look_of rec page c in Holds w.reply w.block 0 (answer_word w.reply w.block 0 0)
  unfolding total
  look-holds page c = word_holds 0 (omega (arith, among-low _ _ (look-ends page c (acceptance rec)).table)) (look-low page c) (λ h. refl)

  pub take-holds : (page m d : List ℕ) → let w = take_of rec page m d in Holds w.reply w.block 0 (answer_word w.reply w.block 0 0)
  unfolding total
  take-holds page m d = word_holds 0 (omega (arith, among-low _ _ (take_ends page m d (acceptance rec)).table)) (take-low page m d) (λ h. refl)

  pub judge-holds : (page : List ℕ) (b : ℕ) → let w = judge_of rec page b in Holds w.reply w.block w.flips (judge_word w)
  unfolding total judge_word
  judge-holds page b =
      let ends = judge-ends page b (acceptance rec) in
      word_holds _ (omega (arith, among-low _ _ ends.table)) (judge-low page b) (λ h. ends.kept (λ e. omega arith))

  pub claim-holds : (page : List ℕ) (b : ℕ) (claims : List ℕ) → let w = claim_of rec page b claims in Holds w.reply w.block 0 (claim_word w)
  unfolding total claim_word
  claim-holds page b claims =
      let ends = claim-ends page b claims (acceptance rec) in
      word_holds 0 (omega (arith, among-low _ _ ends.table)) (omega (arith, ends.block)) (λ h. refl)

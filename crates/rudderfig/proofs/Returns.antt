-- What a page call returns, from what the call of the crate below ensures and which of its answers it was.
use mathlib.Core.Path.{◌≡◌, sym, ap, ◌∙◌}
use mathlib.Core.List.{List}
use Prim.Native.Nat.{ℕ}
use Rattle.replies.specs.declared.Refusal.{Refusal}
use Rattle.replies.specs.Replies.{number, block, verdict_number, verdict_block}
use Rattle.std.specs.Prelude.{⊤, Result, Ok, Err}
use Rattle.page_judge.specs.Answers.{judge_flips}
use Rattle.explain.specs.declared.Why.{Why}
use Rattle.page_explain.specs.declared.BlockFinding.{BlockFinding}
use Rattle.page_explain.specs.Explain.{Explained, explained}
use Rattle.explain_words.specs.Words.{block_word}
use Rattle.page_theory.specs.Calls.{Written, write_ended, Looked, look_ended, Taken, take_ended, Judged, judge_ended, Claimed, claim_ended}
use Rattle.answer_words.specs.Answer.{answer_word, done_word, refused_word}
use Rattle.rudderfig.specs.Explaining.{ExplainReturns}
use Rattle.rudderfig.specs.Pages.{WriteReturns, LookReturns, TakeReturns, judge_word, claim_word}

module _ (a : Result ⊤ Refusal) {r : ℕ} (k : r ≡ answer_word (verdict_number a) (verdict_block a) 0 0) where
  pub write-returns : {w : Written} {p : List ℕ} → write_ended (verdict_number a) (verdict_block a) p ≡ w → WriteReturns w r p
  write-returns e = record { word = k ∙ ap (λ (w : Written). answer_word w.reply w.block 0 0) e; page = ap (λ w. w.page) e }

  pub look-returns : {w : Looked} {c : List ℕ} → look_ended (verdict_number a) (verdict_block a) c ≡ w → LookReturns w r c
  look-returns e = record { word = k ∙ ap (λ (w : Looked). answer_word w.reply w.block 0 0) e; counts = ap (λ w. w.counts) e }

  pub take-returns : {w : Taken} {m d : List ℕ} → take_ended (verdict_number a) (verdict_block a) m d ≡ w → TakeReturns w r m d
  take-returns e = record {
    word = k ∙ ap (λ (w : Taken). answer_word w.reply w.block 0 0) e;
    metadata = ap (λ w. w.metadata) e;
    «data» = ap (λ w. w.«data») e;
  }

module _ {a : Result ℕ Refusal} {w : Judged} {r : ℕ} (e : judge_ended (verdict_number a) (verdict_block a) (judge_flips a) ≡ w) where
  pub judge-flips : {n : ℕ} → a ≡ Ok n → r ≡ done_word 0 n → r ≡ judge_word w
  unfolding done_word judge_word verdict_number verdict_block judge_flips
  judge-flips h k = k ∙ simp (sym e, h)

  pub judge-refused : {x : Refusal} → a ≡ Err x → r ≡ refused_word (number x) (block x) → r ≡ judge_word w
  unfolding refused_word judge_word verdict_number verdict_block judge_flips
  judge-refused h k = k ∙ simp (sym e, h)

module _ {a : Result ⊤ Refusal} {w : Claimed} {r : ℕ} (e : claim_ended (verdict_number a) ≡ w) where
  pub claim-accepted : a ≡ Ok _ → r ≡ done_word 0 0 → r ≡ claim_word w
  unfolding done_word claim_word verdict_number
  claim-accepted h k = k ∙ simp (sym e, h)

  pub claim-refused : {x : Refusal} {n : ℕ} → a ≡ Err x → n ≡ number x → r ≡ refused_word n 0 → r ≡ claim_word w
  unfolding refused_word claim_word verdict_number
  claim-refused h l k = k ∙ simp (l, sym e, h)

pub explain-returns : {a : Result BlockFinding Why} {w : Explained} {l : List ℕ} {r : ℕ} → explained a l ≡ w → r ≡ block_word a → ExplainReturns w r l
explain-returns e k = record { word = k ∙ ap (λ w. block_word w.answer) e; list = ap (λ w. w.list) e }

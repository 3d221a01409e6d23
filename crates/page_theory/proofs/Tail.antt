-- The tail is ignored (document 01, "Layout words"), and so is the mark (document 02, E7): two pages of one length that agree in every covered bit
-- are looked at, taken, judged and claimed about with the same answers, whatever their tails and marks hold; whether or not a layout is accepted, with
-- any pages and any lent buffers.
use Rattle.std.specs.Prelude.{Result, Ok, Err}
use Rattle.layout.specs.declared.Refusal.{Refusal}
use mathlib.Core.Path.{◌≡◌, refl, ap, ap₂}
use mathlib.Core.List.{List}
use Prim.Native.Nat.{ℕ, zero, suc, ◌≤◌, ◌<◌}
use native.Mathlib.Omega.{arith}
use native.Mathlib.Decide.{dec_lt}
use native.Mathlib.Nat.{zero-add}
use lib.ListN.{length}
use borrow.Author.Tests.{le-ltb}
use lib.Dec.{eqb}
use mathlib.Core.Bool.{Bool, true, false, cond}
use Rattle.bits.proofs.Runs.{run-cong}
use Rattle.layout_plan.specs.declared.Plan.{Plan}
use Rattle.layout_plan.specs.declared.Layout.{Layout}
use Rattle.layout_plan.specs.Plan.{plan_of}
use Rattle.page_theory.specs.Page.{block_word}
use Rattle.page_theory.specs.Reading.{outcome, more, reading_of, reading, count_of, counts}
use Rattle.page_theory.specs.Calls.{look_in, look_for, take_in, take_for}
use Rattle.page_theory.specs.Calls.{block_reply, judge_in, judge_for, claim_in, claim_for}
use Rattle.page_theory.specs.Alike.{SameBlocks}
use Rattle.page_theory.proofs.Blocks.{block_word-cong}

module _ (q : Plan) (page other : List ℕ) (size : length page ≡ length other) (words : (b : ℕ) → b < q.blocks → block_word q page b ≡ block_word q other b) where
  tail-outcome : (b : ℕ) → b < q.blocks → outcome q page b ≡ outcome q other b
  unfolding outcome
  tail-outcome b l = rw (words b l)

  tail-reading_of : (n : ℕ) → n ≤ q.blocks → reading_of q page n ≡ reading_of q other n
  unfolding reading_of
  tail-reading_of zero l = refl
  tail-reading_of (suc n) l = ap₂ (more n) (tail-reading_of n (omega arith)) (tail-outcome n l)

  tail-counts : counts q page ≡ counts q other
  unfolding counts
  tail-counts = run-cong _ _ 0 0 q.blocks (λ b l. rw (zero-add b) (ap count_of (tail-outcome b l)))

  tail-look_in : (c : List ℕ) → look_in q page c ≡ look_in q other c
  unfolding look_in reading
  tail-look_in c = rw (size, tail-reading_of q.blocks (omega arith), tail-counts)

  tail-take_in : (m d : List ℕ) → take_in q page m d ≡ take_in q other m d
  unfolding take_in reading
  tail-take_in m d = rw (size, tail-reading_of q.blocks (omega arith))

  -- a block number outside its range is refused whatever the page holds
  outside : (b : ℕ) → q.blocks ≤ b → (n : ℕ) → eqb (block_reply q n b) 0 ≡ false
  unfolding block_reply
  outside b l n = rw (le-ltb b q.blocks l) (go (eqb n q.size))
    where
      go : (x : Bool) → eqb (cond x 7 5) 0 ≡ false
      go true = refl
      go false = refl

  tail-judge_in : (b : ℕ) → judge_in q page b ≡ judge_in q other b
  unfolding judge_in
  tail-judge_in b = elim (dec_lt b q.blocks) [
    | yes l ↦ rw (size, tail-outcome b l)
    | no l ↦ rw (size, outside b (omega arith) (length other))
  ]

  tail-claim_in : (b : ℕ) (claims : List ℕ) → claim_in q page b claims ≡ claim_in q other b claims
  unfolding claim_in
  tail-claim_in b claims = elim (dec_lt b q.blocks) [
    | yes l ↦ rw (size, words b l)
    | no l ↦ rw (size, outside b (omega arith) (length other))
  ]

module _ (l : Layout) (page other : List ℕ) (alike : SameBlocks (Ok l) page other) where
  same-words : (b : ℕ) → b < (plan_of l).blocks → block_word (plan_of l) page b ≡ block_word (plan_of l) other b
  same-words b h = block_word-cong (plan_of l) page other b (alike.bits l refl b h)

pub tail-look : (a : Result Layout Refusal) (page other : List ℕ) → SameBlocks a page other → (c : List ℕ) → look_for a page c ≡ look_for a other c
unfolding look_for
tail-look (Err r) page other alike c = refl
tail-look (Ok l) page other alike c = tail-look_in (plan_of l) page other alike.size (same-words l page other alike) c

pub tail-take : (a : Result Layout Refusal) (page other : List ℕ) → SameBlocks a page other → (m d : List ℕ) → take_for a page m d ≡ take_for a other m d
unfolding take_for
tail-take (Err r) page other alike m d = refl
tail-take (Ok l) page other alike m d = tail-take_in (plan_of l) page other alike.size (same-words l page other alike) m d

pub tail-judge : (a : Result Layout Refusal) (page other : List ℕ) → SameBlocks a page other → (b : ℕ) → judge_for a page b ≡ judge_for a other b
unfolding judge_for
tail-judge (Err r) page other alike b = refl
tail-judge (Ok l) page other alike b = tail-judge_in (plan_of l) page other alike.size (same-words l page other alike) b

pub tail-claim : (a : Result Layout Refusal) (page other : List ℕ) → SameBlocks a page other → (b : ℕ) (claims : List ℕ) → claim_for a page b claims ≡ claim_for a other b claims
unfolding claim_for
tail-claim (Err r) page other alike b claims = refl
tail-claim (Ok l) page other alike b claims = tail-claim_in (plan_of l) page other alike.size (same-words l page other alike) b claims

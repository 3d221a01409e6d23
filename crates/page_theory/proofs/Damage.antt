-- Laws of damage: a block with at most t bits turned over still has its written word within t flips, and gives its message.
use mathlib.Core.Path.{◌≡◌, refl, sym, ap, ap₂, ◌∙◌}
use mathlib.Core.Bool.{Bool, true, false}
use mathlib.Core.List.{List}
use Prim.Native.Nat.{ℕ, zero, suc, ◌+◌, ◌*◌, ◌≤◌, ◌<◌}
use native.Mathlib.Omega.{arith}
use Rattle.bits.specs.Bits.{bit_of, run, digit, Bytes}
use Rattle.bits.proofs.Runs.{run_length}
use Rattle.mark.specs.Mark.{place, stream_bit}
use Rattle.layout_plan.specs.declared.Plan.{Plan}
use Rattle.layout_plan.specs.Plan.{bits, field, level, covered, start, payload, Valid}
use Rattle.algebra.specs.Word.{flip}
use Rattle.code.specs.Word.{apart, distance, ones}
use Rattle.code.specs.Code.{Near}
use Rattle.code.proofs.Outcome.{near-gives}
use Rattle.page_theory.specs.Page.{message, written, page_of, block_word}
use Rattle.page_theory.specs.Reading.{GivesAt, reading, done, counts}
use Rattle.page_theory.specs.Damage.{size, flips, turn, Damaged}
use Rattle.page_theory.specs.Demands.{of-given}
use Rattle.page_theory.proofs.Words.{run-last, distance-last, ones-last}
use Rattle.page_theory.proofs.Blocks.{written-length, written-message, written-code, block_word-length, place-room, page-block}
use Rattle.page_theory.proofs.Reading.{gives-reading, reports-counts}

-- turning over a set of bits moves a word as far as the set is large

apart-turn : (x b : Bool) → apart (turn x b) b ≡ digit x
unfolding apart turn digit flip
apart-turn true true = refl
apart-turn true false = refl
apart-turn false true = refl
apart-turn false false = refl

pub distance-turned : (f g s : ℕ → Bool) (p n : ℕ) → ((j : ℕ) → j < n → f (p + j) ≡ turn (s j) (g (p + j)))
    → distance (run f p n) (run g p n) ≡ size s n
unfolding size
distance-turned f g s p zero h = unfold distance run in refl
distance-turned f g s p (suc n) h =
    rw (run-last f p n, run-last g p n)
    (distance-last (run f p n) (run g p n) _ _ (run_length f p n ∙ sym (run_length g p n))
    ∙ ap₂ ◌+◌ (distance-turned f g s p n (λ j l. h j (omega arith))) (rw (h n (omega arith)) (apart-turn (s n) (g (p + n)))))

module _ (q : Plan) (before after : List ℕ) (s : ℕ → ℕ → Bool) (h : Damaged q before after s) where
  -- a block is as far from what it was as its set is large
  pub damaged-distance : (b : ℕ) → b < q.blocks → distance (block_word q after b) (block_word q before b) ≡ flips q s b
  unfolding block_word flips
  damaged-distance b l = distance-turned (stream_bit q.mark after) (stream_bit q.mark before) (s b) (start q b) (covered q b) (λ j k. h.turned b j l k)

module _ (q : Plan) (v : Valid q) (lent d page : List ℕ) (s : ℕ → ℕ → Bool) (h : Damaged q (page_of q lent d) page s) where
  pub damaged-flips : (b : ℕ) → b < q.blocks → distance (block_word q page b) (written q d b) ≡ flips q s b
  damaged-flips b l = rw (page-block q lent d v b l) at (damaged-distance q (page_of q lent d) page s h b l)

  -- a damaged block has the written one within its level
  pub damaged-near : (b : ℕ) → b < q.blocks → Near (field q b) (level q b) (block_word q page b) (written q d b)
  damaged-near b l = record {
    same = written-length q v d b ∙ sym (block_word-length q page b);
    code = written-code q d b (v.strong b l);
    close = rw (damaged-flips b l) (h.few b l);
  }

  pub damaged-gives : (b : ℕ) → b < q.blocks → GivesAt q page b (message q d b) (flips q s b)
  damaged-gives b l = rw (← damaged-flips b l, ← written-message q d b) (near-gives _ _ (bits q b) _ _ (damaged-near b l))

  pub damaged-reading : reading q page ≡ done (run (bit_of d) 0 (8 * payload q))
  damaged-reading = gives-reading q v d page (flips q s) damaged-gives

  pub damaged-counts : counts q page ≡ run (flips q s) 0 q.blocks
  damaged-counts = reports-counts q v page (flips q s) (λ b l. of-given _ (damaged-gives b l))

-- A mask: a page whose ones are the bits to turn over, those of the tail and of the mark included.

unfoldable pub mask_sets : Plan → List ℕ → ℕ → ℕ → Bool
mask_sets q mask b j = stream_bit q.mark mask (start q b + j)

size-ones : (f : ℕ → Bool) (p n : ℕ) → size (λ j. f (p + j)) n ≡ ones (run f p n)
unfolding size
size-ones f p zero = unfold run ones in refl
size-ones f p (suc n) = rw (run-last f p n, ones-last) (ap (λ k. k + digit (f (p + n))) (size-ones f p n))

-- the size of a block's set is the number of ones that the mask has there
pub mask-flips : (q : Plan) (mask : List ℕ) (b : ℕ) → flips q (mask_sets q mask) b ≡ ones (block_word q mask b)
unfolding flips mask_sets block_word
mask-flips q mask b = size-ones (stream_bit q.mark mask) (start q b) (covered q b)

pub mask-damaged : (q : Plan) → Valid q → (before after mask : List ℕ) → Bytes q.size after
    → ((p : ℕ) → p < 8 * q.size → bit_of after p ≡ turn (bit_of mask p) (bit_of before p))
    → ((b : ℕ) → b < q.blocks → ones (block_word q mask b) ≤ level q b) → Damaged q before after (mask_sets q mask)
unfolding mask_sets stream_bit
mask-damaged q v before after mask h turned few = record {
  page = h;
  turned = λ b j l k. turned (place q.mark (start q b + j)) (place-room q v (start q b + j) (omega (arith, v.ends b l)));
  few = λ b l. rw (mask-flips q mask b) (few b l);
}

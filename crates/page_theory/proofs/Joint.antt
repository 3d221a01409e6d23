-- Document 02, E6: "With right lengths, looking then taking the same page must give what the old call gave, but for counts under 9."
-- Document 01 reads a page in one joint call. Its definition is kept here, as it stood, for this theorem alone; there is no such call, and nothing
-- else names it.
use Rattle.std.specs.Prelude.{Result, Ok, Err}
use Rattle.layout.specs.declared.Refusal.{Refusal}
use mathlib.Core.Path.{◌≡◌, refl, sym, ap, ◌∙◌}
use mathlib.Core.Bool.{Bool, true, false, cond}
use mathlib.Core.List.{List, [], ◌∷◌, ◌++◌}
use Prim.Native.Nat.{ℕ, zero, suc, ◌*◌}
use native.Mathlib.Nat.{zero-add}
use lib.ListN.{length}
use lib.Dec.{eqb}
use borrow.Author.Tests.{eq-eqb}
use Rattle.bits.specs.Bits.{run}
use Rattle.replies.specs.Replies.{unless}
use Rattle.layout_plan.specs.declared.Plan.{Plan}
use Rattle.layout_plan.specs.declared.Layout.{Layout}
use Rattle.layout_plan.specs.Plan.{plan_of}
use Rattle.layout.specs.Acceptance.{refusal_reply}
use Rattle.code.specs.Word.{Word}
use Rattle.code.specs.Outcome.{Outcome, good, erased, ruined, erased_count}
use Rattle.page_theory.specs.Reading as parted
use Rattle.page_theory.specs.Reading.{outcome, count_of, counts}
use Rattle.page_theory.specs.Damage.{Outputs}
use Rattle.page_theory.specs.Calls.{bytes_at, Looked, look_by, look_in, look_for, Taken, take_by, take_in, take_for}
use Rattle.page_theory.proofs.Words.{run-last}
use Rattle.page_theory.proofs.Calls.{look-right, take-right}

-- ---- document 01's joint call

pub data Reading : Type 0 where
  done : Word → List ℕ → Reading
  refused : ℕ → Reading

-- The message and the count of block b follow those before it; the first ruined block decides.
unfoldable pub more : ℕ → Reading → Outcome → Reading
more b (done w counts) (good m n) = done (w ++ m) (counts ++ (n ∷ []))
more b (done w counts) (erased m z) = done (w ++ m) (counts ++ (erased_count z ∷ []))
more b (done w counts) ruined = refused b
more b (refused a) o = refused a

unfoldable pub reading_of : Plan → List ℕ → ℕ → Reading
reading_of q page zero = done [] []
reading_of q page (suc b) = more b (reading_of q page b) (outcome q page b)

unfoldable pub reading : Plan → List ℕ → Reading
reading q page = reading_of q page q.blocks

-- Reading a page into metadata, data and counts.

pub record Read : Type 0 where
  pub reply : ℕ
  pub block : ℕ
  pub metadata : List ℕ
  pub «data» : List ℕ
  pub counts : List ℕ

abbrev pub read_ended : ℕ → ℕ → List ℕ → List ℕ → List ℕ → Read
read_ended reply block metadata «data» counts =
    record { reply = reply; block = block; metadata = metadata; «data» = «data»; counts = counts }

-- 5: the lent page. 6: another lent buffer.
unfoldable pub read_reply : Plan → ℕ → ℕ → ℕ → ℕ → ℕ
read_reply q page metadata «data» counts =
    unless (eqb page q.size) 5
    (unless (eqb metadata q.metadata) 6
    (unless (eqb «data» q.«data») 6
    (unless (eqb counts q.blocks) 6
    0)))

-- The messages of the blocks, one after the other, are the payload. A ruined page leaves what was lent.
unfoldable pub read_by : Plan → Reading → List ℕ → List ℕ → List ℕ → Read
read_by q (done w counts) metadata «data» lent =
    read_ended 0 0 (bytes_at w 0 q.metadata) (bytes_at w (8 * q.metadata) q.«data») counts
read_by q (refused b) metadata «data» lent = read_ended 9 b metadata «data» lent

unfoldable pub read_in : Plan → List ℕ → List ℕ → List ℕ → List ℕ → Read
read_in q page metadata «data» counts =
    cond (eqb (read_reply q (length page) (length metadata) (length «data») (length counts)) 0)
    (read_by q (reading q page) metadata «data» counts)
    (read_ended (read_reply q (length page) (length metadata) (length «data») (length counts)) 0 metadata «data» counts)

unfoldable pub read_for : Result Layout Refusal → List ℕ → List ℕ → List ℕ → List ℕ → Read
read_for (Ok l) page metadata «data» counts = read_in (plan_of l) page metadata «data» counts
read_for (Err r) page metadata «data» counts = read_ended (refusal_reply r) 0 metadata «data» counts

-- ---- looking, then taking

-- What a look and a take give, put together: the reply, block and outputs of the take, and the counts of the look where it answers 0, else
-- those that were lent.
unfoldable pub joined : Looked → Taken → List ℕ → Read
joined look take lent =
    read_ended take.reply take.block take.metadata take.«data» (cond (eqb look.reply 0) look.counts lent)

-- The joint call gave what a look and a take give together, and these two have the same reply and block.
pub record Parted (joint : Read) (look : Looked) (take : Taken) (lent : List ℕ) : Type 0 where
  pub same : joint ≡ joined look take lent
  pub reply : look.reply ≡ take.reply
  pub block : look.block ≡ take.block

-- The two readings of the first n blocks: the same messages or the same refusing block, and the joint one has the counts too.
data Both (q : Plan) (page : List ℕ) (n : ℕ) : Reading → parted.Reading → Type 0 where
  whole : (w : Word) (l : List ℕ) → l ≡ run (λ b. count_of (outcome q page b)) 0 n → Both q page n (done w l) (parted.done w)
  named : (b : ℕ) → Both q page n (refused b) (parted.refused b)

module _ (q : Plan) (page : List ℕ) where
  counted : (n k : ℕ) (l : List ℕ) → l ≡ run (λ b. count_of (outcome q page b)) 0 n → count_of (outcome q page n) ≡ k
      → l ++ (k ∷ []) ≡ run (λ b. count_of (outcome q page b)) 0 (suc n)
  counted n k l e f = rw (e, ← f) (sym (run-last (λ b. count_of (outcome q page b)) 0 n ∙ rw (zero-add n)))

  both-next : (n : ℕ) (r : Reading) (s : parted.Reading) → Both q page n r s → (o : Outcome) → outcome q page n ≡ o
      → Both q page (suc n) (more n r o) (parted.more n s o)
  unfolding more parted.more count_of
  both-next n r s (whole w l e) (good m k) f = whole _ _ (counted n k l e (rw f))
  both-next n r s (whole w l e) (erased m z) f = whole _ _ (counted n (erased_count z) l e (rw f))
  both-next n r s (whole w l e) ruined f = named n
  both-next n r s (named b) o f = named b

  both_first : (n : ℕ) → Both q page n (reading_of q page n) (parted.reading_of q page n)
  unfolding reading_of parted.reading_of
  both_first zero = whole [] [] (unfold run in refl)
  both_first (suc n) = both-next n _ _ (both_first n) (outcome q page n) refl

  both : Both q page q.blocks (reading q page) (parted.reading q page)
  unfolding reading parted.reading
  both = both_first q.blocks

  module _ (m d c : List ℕ) where
    by_both : (r : Reading) (s : parted.Reading) → Both q page q.blocks r s
        → Parted (read_by q r m d c) (look_by s (counts q page)) (take_by q s m d) c
    unfolding read_by look_by take_by joined counts
    by_both r s (whole w l e) = record { same = rw e; reply = refl; block = refl }
    by_both r s (named b) = record { same = refl; reply = refl; block = refl }

    module _ (size : length page ≡ q.size) (outputs : Outputs q m d c) where
      read_reply-right : read_reply q (length page) (length m) (length d) (length c) ≡ 0
      unfolding read_reply
      read_reply-right =
          rw (
            eq-eqb (length page) q.size size,
            eq-eqb (length m) q.metadata outputs.metadata,
            eq-eqb (length d) q.«data» outputs.«data»,
            eq-eqb (length c) q.blocks outputs.counts,
          )

      -- Under a plan.
      pub parted-in : Parted (read_in q page m d c) (look_in q page c) (take_in q page m d) c
      unfolding read_in
      parted-in = rw (
        read_reply-right,
        look-right q page c size outputs.counts,
        take-right q page m d size outputs.metadata outputs.«data»,
      ) (by_both (reading q page) (parted.reading q page) both)

-- Whatever names the layout: where it is accepted, with page and outputs of the lengths that its plan gives.
pub looked-then-taken : (a : Result Layout Refusal) (page m d c : List ℕ) → ((l : Layout) → a ≡ Ok l → (length page ≡ (plan_of l).size) × Outputs (plan_of l) m d c)
    → Parted (read_for a page m d c) (look_for a page c) (take_for a page m d) c
unfolding read_for look_for take_for joined
looked-then-taken (Ok l) page m d c lengths = let (size, outputs) = lengths l refl in parted-in (plan_of l) page m d c size outputs
looked-then-taken (Err r) page m d c lengths =
    record { same = ap (read_ended (refusal_reply r) 0 m d) (either (eqb (refusal_reply r) 0)); reply = refl; block = refl }
  where
    either : (b : Bool) → c ≡ cond b c c
    either true = refl
    either false = refl

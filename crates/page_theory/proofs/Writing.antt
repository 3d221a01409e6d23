-- What a writer has to show to have written the page of a payload.
use mathlib.Core.Path.{◌≡◌, refl, sym, ap, ap₂, ◌∙◌}
use mathlib.Core.Bool.{Bool, true, false}
use mathlib.Core.List.{List, [], ◌++◌}
use Prim.Native.Nat.{ℕ, zero, suc, ◌+◌, ◌-◌, ◌*◌, ◌≤◌, ◌<◌}
use mathlib.Core.Logic.{⊎_elim}
use native.Mathlib.Omega.{arith}
use native.Mathlib.Nat.{zero-add}
use lib.ListN.{length, get_or, replicate, length-append, length-replicate, get_or-replicate}
use borrow.Author.Tests.{le-leb}
use Rattle.bits.specs.Bits.{bit_of, run, bytes}
use Rattle.bits.proofs.Runs.{run_at, run-ext, run-append}
use Rattle.bits.proofs.Pages.{bytes-ext, bytes-cong}
use Rattle.mark.specs.Mark.{marked, streamed, stream_bit, put_bit, put}
use Rattle.mark.proofs.Places.{place-streamed, streamed-below}
use Rattle.layout_plan.specs.declared.Plan.{Plan}
use Rattle.layout_plan.specs.Plan.{covered, pads, start, used, room, Valid}
use Rattle.layout.specs.Bits.{block_of}
use Rattle.layout_plan.proofs.Plans.{start-next}
use Rattle.page_bits.proofs.Placing.{Lies, block-or-tail, block-past, pads-free}
use Rattle.code.specs.Word.{Word}
use Rattle.page_theory.specs.Page.{written, written_bit, page_bit, page_of, block_word}
use Rattle.page_theory.specs.Demands.{Stands}
use Rattle.page_theory.proofs.Blocks.{written-length, written-run, written-tail}

run_lies : (q : Plan) (f : ℕ → Bool) (b p : ℕ) → Lies q b p → get_or (run f (start q b) (covered q b)) (p - start q b) false ≡ f p
run_lies q f b p h =
    let e : start q b + (p - start q b) ≡ p = omega (arith, h.from) in
    run_at f (start q b) (covered q b) (p - start q b) false (omega (arith, h.from, h.to)) ∙ ap f e

module _ (q : Plan) (v : Valid q) (lent d : List ℕ) where
  module _ (page : List ℕ) (s : Stands q lent d page) where
    stands-stream : (p : ℕ) → p < room q → stream_bit q.mark page p ≡ written_bit q d p
    unfolding block_word
    stands-stream p l =
        ⊎_elim
        (λ (i : (b : ℕ) × (b < q.blocks) × Lies q b p). let b = i.0 in
        sym (run_lies q (stream_bit q.mark page) b p i.2)
        ∙ ap (λ (w : Word). get_or w (p - start q b) false) (s.blocks b i.1 ∙ sym (written-run q v d b i.1))
        ∙ run_lies q (written_bit q d) b p i.2)
        (λ (h : block_of q p ≡ q.blocks). s.tail p h l ∙ sym (written-tail q d p h))
        (block-or-tail q p)

    stands-bit : (p : ℕ) → p < 8 * q.size → bit_of page p ≡ page_bit q lent d p
    unfolding stream_bit page_bit room
    stands-bit p l = go (marked q.mark p) refl
      where
        go : (x : Bool) → marked q.mark p ≡ x → bit_of page p ≡ page_bit q lent d p
        go true e = s.mark p l e ∙ rw e
        go false e =
            ap (bit_of page) (sym (place-streamed q.mark p e))
            ∙ stands-stream (streamed q.mark p) (streamed-below q.mark q.size v.inside p l e) ∙ rw e

    -- there is only one such page
    pub stands-page : page ≡ page_of q lent d
    unfolding page_of
    stands-page = sym (bytes-ext _ q.size page s.bytes stands-bit)

-- A written block with its pads.
unfoldable pub padded : Plan → List ℕ → ℕ → Word
padded q d b = written q d b ++ replicate (pads q b) true

-- The first n of them, one after the other.
unfoldable pub stream : Plan → List ℕ → ℕ → Word
stream q d zero = []
stream q d (suc n) = stream q d n ++ padded q d n

padded-length : (q : Plan) → Valid q → (d : List ℕ) (b : ℕ) → length (padded q d b) ≡ covered q b + pads q b
unfolding padded
padded-length q v d b = length-append (written q d b) _ ∙ rw (written-length q v d b, length-replicate (pads q b) true)

pub stream-length : (q : Plan) → Valid q → (d : List ℕ) (n : ℕ) → length (stream q d n) ≡ start q n
unfolding stream start
stream-length q v d zero = refl
stream-length q v d (suc n) = length-append (stream q d n) (padded q d n) ∙ rw (stream-length q v d n, padded-length q v d n)

-- All blocks, and ones to the end of the stream.
unfoldable pub filled : Plan → List ℕ → Word
filled q d = stream q d q.blocks ++ replicate (room q - used q) true

module _ (q : Plan) (v : Valid q) (d : List ℕ) where
  -- ones where there is no block
  ones-run : (s n : ℕ) → ((j : ℕ) → j < n → block_of q (s + j) ≡ q.blocks) → run (written_bit q d) s n ≡ replicate n true
  ones-run s n h = run-ext (written_bit q d) s (replicate n true) n false (length-replicate n true)
      (λ j l. written-tail q d (s + j) (h j l) ∙ sym (get_or-replicate n j true false l))

  padded-run : (b : ℕ) → b < q.blocks → padded q d b ≡ run (written_bit q d) (start q b) (covered q b + pads q b)
  unfolding padded
  padded-run b l =
      ap₂ ◌++◌ (sym (written-run q v d b l))
      (sym (ones-run (start q b + covered q b) (pads q b) (λ j k. pads-free q b (start q b + covered q b + j) (omega arith) (omega (arith, start-next q b)))))
      ∙ sym (run-append (written_bit q d) (start q b) (covered q b) (pads q b))

  stream-run : (n : ℕ) → n ≤ q.blocks → stream q d n ≡ run (written_bit q d) 0 (start q n)
  unfolding stream start run
  stream-run zero l = refl
  stream-run (suc n) l =
      ap₂ ◌++◌ (stream-run n (omega arith)) (padded-run n l)
      ∙ sym (run-append (written_bit q d) 0 (start q n) (covered q n + pads q n) ∙ rw (zero-add (start q n)))

  tail-run : (n : ℕ) → run (written_bit q d) (used q) n ≡ replicate n true
  tail-run n = ones-run (used q) n (λ j l. block-past q v (used q + j) (omega arith))

  -- They are the whole written stream.
  pub filled-run : filled q d ≡ run (written_bit q d) 0 (room q)
  unfolding filled
  filled-run =
      let e : used q + (room q - used q) ≡ room q = omega (arith, v.fits) in
      ap₂ ◌++◌ (stream-run q.blocks (omega arith) ∙ ap (run (written_bit q d) 0) (sym v.total)) (sym (tail-run (room q - used q)))
      ∙ sym (ap (run (written_bit q d) 0) (sym e) ∙ run-append (written_bit q d) 0 (used q) (room q - used q) ∙ rw (zero-add (used q)))

  -- A page into whose stream these were put from its start on is the written page, whatever its stream held before.
  pub filled-page : (page : List ℕ) → length page ≡ q.size → put q.mark page 0 (filled q d) ≡ page_of q page d
  unfolding put put_bit page_of page_bit room
  filled-page page size = ap (bytes (put_bit q.mark page 0 (filled q d))) size ∙ bytes-cong _ _ q.size (λ p l. go p l (marked q.mark p) refl)
    where
      at : (p : ℕ) (x : Bool) → p < room q → get_or (filled q d) p x ≡ written_bit q d p
      at p x l = rw filled-run (run_at (written_bit q d) 0 (room q) p x l ∙ rw (zero-add p))

      go : (p : ℕ) → p < 8 * q.size → (x : Bool) → marked q.mark p ≡ x → put_bit q.mark page 0 (filled q d) p ≡ page_bit q page d p
      go p l true e = rw e
      go p l false e =
          let z : streamed q.mark p - 0 ≡ streamed q.mark p = omega arith in
          rw (e, le-leb 0 (streamed q.mark p) (omega arith), z)
          (at (streamed q.mark p) (bit_of page p) (streamed-below q.mark q.size v.inside p l e))

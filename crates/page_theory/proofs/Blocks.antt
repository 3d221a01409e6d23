-- Laws of the blocks of a page, and of the stream and the mark of a written page.
use mathlib.Core.Path.{◌≡◌, sym, ◌∙◌}
use mathlib.Core.Bool.{true}
use mathlib.Core.List.{List}
use Prim.Native.Nat.{ℕ, ◌+◌, ◌-◌, ◌*◌, ◌≤◌, ◌<◌}
use native.Mathlib.Omega.{arith}
use lib.ListN.{length, take, length-append}
use lib.Seq.{take_at}
use borrow.Author.Tests.{lt-ltb, le-ltb}
use Rattle.bits.specs.Bits.{bit_of, run}
use Rattle.bits.proofs.Runs.{run_length, run-ext, run-cong}
use Rattle.bits.proofs.Pages.{bytes-bit}
use Rattle.mark.specs.Mark.{place, marked, stream_bit}
use Rattle.mark.proofs.Places.{streamed-place, place-free, place-below}
use Rattle.layout_plan.specs.declared.Plan.{Plan}
use Rattle.layout_plan.specs.Plan.{bits, field, level, covered, start, room, Valid}
use Rattle.layout.specs.Bits.{block_of}
use Rattle.page_bits.proofs.Placing.{Lies, block-lies}
use Rattle.code.specs.Code.{Codeword, Fits}
use Rattle.code.proofs.Remainder.{parity-length, parity-codeword}
use Rattle.page_theory.specs.Page.{message, written, written_bit, page_bit, page_of, block_word}

module _ (q : Plan) where
  pub message-length : (d : List ℕ) (b : ℕ) → length (message q d b) ≡ bits q b
  unfolding message
  message-length d b = run_length _ _ _

  pub written-length : Valid q → (d : List ℕ) (b : ℕ) → length (written q d b) ≡ covered q b
  unfolding written
  written-length v d b = length-append (message q d b) _ ∙ rw (message-length d b, parity-length) (sym (v.sums b))

  pub written-message : (d : List ℕ) (b : ℕ) → take (bits q b) (written q d b) ≡ message q d b
  unfolding written
  written-message d b = take_at _ _ _ (message-length d b)

  pub written-code : (d : List ℕ) (b : ℕ) → level q b ≤ 62 → Codeword (field q b) (level q b) (written q d b)
  unfolding written
  written-code d b h = parity-codeword (field q b) (level q b) (message q d b) h

  pub block_word-length : (page : List ℕ) (b : ℕ) → length (block_word q page b) ≡ covered q b
  unfolding block_word
  block_word-length page b = run_length _ _ _

  -- a block's word is that block's own bits
  pub block_word-cong : (page other : List ℕ) (b : ℕ) → ((j : ℕ) → j < covered q b
      → stream_bit q.mark page (start q b + j) ≡ stream_bit q.mark other (start q b + j)) → block_word q page b ≡ block_word q other b
  unfolding block_word
  block_word-cong page other b h = run-cong _ _ _ _ _ h

  pub block_word-fits : Valid q → (page : List ℕ) (b : ℕ) → b < q.blocks
      → Fits (field q b) (level q b) (length (block_word q page b))
  block_word-fits v page b l = rw (block_word-length page b) (record { short = v.short b l; level = v.strong b l })

  -- the written stream, block by block
  pub written-run : Valid q → (d : List ℕ) (b : ℕ) → b < q.blocks → run (written_bit q d) (start q b) (covered q b) ≡ written q d b
  unfolding written_bit
  written-run v d b l = run-ext _ _ (written q d b) _ true (written-length v d b) (λ j k.
      let i : start q b + j - start q b ≡ j = omega arith in
      let h : Lies q b (start q b + j) = record { from = omega arith; to = omega arith } in
      rw (block-lies q l h) (simp (lt-ltb b q.blocks l, i)))

  -- and ones where there is none
  pub written-tail : (d : List ℕ) (p : ℕ) → block_of q p ≡ q.blocks → written_bit q d p ≡ true
  unfolding written_bit
  written-tail d p h = rw h (simp (le-ltb q.blocks q.blocks (omega arith)))

  -- the stream stands in the page
  pub place-room : Valid q → (p : ℕ) → p < room q → place q.mark p < 8 * q.size
  unfolding room
  place-room v p l = place-below q.mark q.size v.inside p l

  -- A written page has it as its stream, whatever was lent.
  pub page-stream : Valid q → (lent d : List ℕ) (p : ℕ) → p < room q → stream_bit q.mark (page_of q lent d) p ≡ written_bit q d p
  unfolding stream_bit page_of page_bit
  page-stream v lent d p l =
      bytes-bit (page_bit q lent d) q.size (place q.mark p) (place-room v p l)
      ∙ rw (place-free q.mark p, streamed-place q.mark p)

  pub page-block : (lent d : List ℕ) → Valid q → (b : ℕ) → b < q.blocks → block_word q (page_of q lent d) b ≡ written q d b
  unfolding block_word
  page-block lent d v b l =
      run-cong _ _ _ _ _ (λ j k. page-stream v lent d (start q b + j) (omega (arith, v.ends b l))) ∙ written-run v d b l

  pub page-tail : Valid q → (lent d : List ℕ) (p : ℕ) → block_of q p ≡ q.blocks → p < room q → stream_bit q.mark (page_of q lent d) p ≡ true
  page-tail v lent d p h l = page-stream v lent d p l ∙ written-tail d p h

  -- Its mark is the lent one's.
  pub page-mark : (lent d : List ℕ) (p : ℕ) → p < 8 * q.size → marked q.mark p ≡ true → bit_of (page_of q lent d) p ≡ bit_of lent p
  unfolding page_of page_bit
  page-mark lent d p l e = bytes-bit (page_bit q lent d) q.size p l ∙ rw e

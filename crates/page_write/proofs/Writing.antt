-- Laws behind the writer: one block, the lengths, blocks put one after the other, the tail.
use mathlib.Core.Path.{◌≡◌, refl, sym, ap, ◌∙◌}
use mathlib.Core.Bool.{Bool, true, false, cond}
use mathlib.Core.List.{List, ◌++◌}
use Prim.Native.Nat.{ℕ, zero, ◌+◌, ◌-◌, ◌<◌}
use native.Mathlib.Omega.{arith}
use native.Mathlib.Nat.{zero-add}
use native.Mathlib.Numerals.{add-one}
use lib.ListN.{length, length-append}
use lib.Dec.{eqb}
use borrow.Author.Tests.{eqb-true, ne_eqb}
use Rattle.bits.specs.Bits.{bit_of, run, ones, Inside}
use Rattle.bits.proofs.Pages.{bytes-cong}
use Rattle.mark.specs.declared.Mark.{Mark}
use Rattle.mark.specs.Mark.{marked, put}
use Rattle.mark.proofs.Putting.{put-length, put-bytes, put-mark, put-inside, put-ext, put-append}
use Rattle.std.specs.Prelude.{Result, Err}
use Rattle.replies.specs.declared.Refusal.{Refusal}
use Rattle.replies.specs.Replies.{number, block}
use Rattle.layout_plan.specs.declared.Shape.{Shape}
use Rattle.layout_plan.specs.declared.Plan.{Plan}
use Rattle.layout_plan.specs.declared.Layout.{Layout}
use Rattle.layout.specs.declared.Refusal as kinds
use Rattle.layout.specs.Acceptance.{refusal_of, refusal_reply}
use Rattle.layout_plan.specs.Plan.{shape, bits, start, used, room, from, payload, Valid}
use Rattle.code.specs.Word.{Word}
use Rattle.page_theory.specs.Page.{message, written, page_bit, page_of}
use Rattle.page_theory.specs.Calls.{write_ended, write_reply, write_in, write_for}
use Rattle.page_theory.proofs.Calls.{write_reply-right}
use Rattle.page_theory.proofs.Writing as theory
use Rattle.page_theory.proofs.Writing.{stream, stream-length, filled, filled-page}
use Rattle.page_plan.proofs.Plans.{message-inside}
use Rattle.page_plan.proofs.Asking.{number-some, number-bare, layout-bare}
use Rattle.block_write.specs.Encoded.{encoded, padded}
use Rattle.page_write.specs.Writing.{Lent}

-- ---- the lengths are right

pub reply-lent : (q : Plan) (m d page : List ℕ) → write_reply q (length m) (length d) (length page) ≡ 0 → Lent q m d page
unfolding write_reply
reply-lent q m d page e = go (eqb (length page) q.size) refl (eqb (length m) q.metadata) refl (eqb (length d) q.«data») refl e
  where
    go : (x : Bool) → eqb (length page) q.size ≡ x → (y : Bool) → eqb (length m) q.metadata ≡ y
        → (z : Bool) → eqb (length d) q.«data» ≡ z → cond x (cond y (cond z zero 6) 6) 5 ≡ zero → Lent q m d page
    go true ex true ey true ez e = record { metadata = eqb-true _ _ ey; «data» = eqb-true _ _ ez; size = eqb-true _ _ ex }
    go true ex true ey false ez e = absurd (omega arith)
    go true ex false ey z ez e = absurd (omega arith)
    go false ex y ey z ez e = absurd (omega arith)

reply-bare : (q : Plan) (m d page : ℕ) → write_reply q m d page < 9
unfolding write_reply
reply-bare q m d page = go (eqb page q.size) (eqb m q.metadata) (eqb d q.«data»)
  where
    go : (x y z : Bool) → cond x (cond y (cond z zero 6) 6) 5 < 9
    go true true true = omega arith
    go true true false = omega arith
    go true false z = omega arith
    go false y z = omega arith

-- the layout record is refused
pub write-layout : (m d page : List ℕ) {a : Result Layout kinds.Refusal} {x : kinds.Refusal} {y : Refusal} → y ≡ refusal_of x → a ≡ Err x
    → write_ended (number y) (block y) page ≡ write_for a m d page
unfolding write_for refusal_reply
write-layout m d page {x = x} e f = rw (e, f, layout-bare x)

pub write-refused : (q : Plan) (m d page : List ℕ) (r : Refusal) → number r ≡ write_reply q (length m) (length d) (length page)
    → write_ended (number r) (block r) page ≡ write_in q m d page
unfolding write_in
write-refused q m d page r e =
    rw (number-bare r (omega (arith, reply-bare q (length m) (length d) (length page))), ← e, ne_eqb _ 0 (number-some r))

pub write_done : (q : Plan) (m d page : List ℕ) {after : List ℕ} → Lent q m d page → after ≡ page_of q page (m ++ d)
    → write_ended 0 0 after ≡ write_in q m d page
unfolding write_in
write_done q m d page h e = rw (e, write_reply-right q m d page h.size h.metadata h.«data»)

module _ (q : Plan) (v : Valid q) (b : ℕ) (l : b < q.blocks) {s : Shape} (es : s ≡ shape q b) where
  -- a message lies in the payload
  pub message-lent : {m d page : List ℕ} {at : ℕ} → Lent q m d page → q.metadata < 256 → q.«data» < 4294967296 → at ≡ from q b
      → Inside (m ++ d) at s.message
  unfolding payload
  message-lent {m} {d} h x y e =
      let i = message-inside q v b l in
      let n = length-append m d in
      rw (e, es) (record { ends = omega arith; fits = omega arith })

-- ---- block after block

-- one block, from its numbers
pub put-block : (q : Plan) (b : ℕ) {s : Shape} {at position : ℕ} (d page : List ℕ) {after : List ℕ} → s ≡ shape q b → at ≡ from q b → position ≡ start q b
    → after ≡ put q.mark page position (padded s (run (bit_of d) at s.message))
    → after ≡ put q.mark page (start q b) (padded (shape q b) (run (bit_of d) (from q b) (bits q b)))
put-block q b d page es ea ep e = e ∙ rw (es, ea, ep)

-- what is put twice is put once
put-again : (k : Mark) (page : List ℕ) (s : ℕ) (w : Word) → put k (put k page s w) s w ≡ put k page s w
put-again k page s w =
    let n = put-length k page s w in
    put-ext k (put k page s w) s w (put k page s w) (rw n (put-bytes k page s w)) (λ p m. refl)
    (λ j h l. put-inside k page s w j false h (rw n at l)) (λ q o. refl)

-- the page that is written over another one has of it only the mark, which no word in the stream changes
pub page-put : (q : Plan) (lent : List ℕ) (s : ℕ) (w : Word) (d : List ℕ) {page : List ℕ} → page ≡ put q.mark lent s w → page_of q page d ≡ page_of q lent d
unfolding page_of page_bit
page-put q lent s w d h = rw h (bytes-cong _ _ q.size (λ p l. go p (marked q.mark p) refl))
  where
    go : (p : ℕ) (x : Bool) → marked q.mark p ≡ x → page_bit q (put q.mark lent s w) d p ≡ page_bit q lent d p
    go p true e = rw (e, put-mark q.mark lent s w p e)
    go p false e = rw e

-- A page of the right length into whose stream the first n written blocks were put.
pub record Streamed (q : Plan) (d lent : List ℕ) (n : ℕ) (page : List ℕ) : Type 0 where
  pub size : length lent ≡ q.size
  pub stands : page ≡ put q.mark lent 0 (stream q d n)

module _ (q : Plan) (d : List ℕ) where
  -- once block 0 is written, it may be taken as lent
  pub streamed-first : (lent : List ℕ) {s : Shape} {page : List ℕ} → s ≡ shape q 0 → length lent ≡ q.size
      → page ≡ put q.mark lent 0 (padded s (run (bit_of d) 0 s.message)) → Streamed q d page 1 page
  unfolding stream padded theory.padded ones encoded written message from
  streamed-first lent es h e = record {
    size = ap length e ∙ put-length q.mark lent 0 _ ∙ h;
    stands = rw (e, es) (sym (put-again q.mark lent 0 _));
  }

  module _ {lent : List ℕ} where
    pub streamed-size : (n : ℕ) {page : List ℕ} → Streamed q d lent n page → length page ≡ q.size
    streamed-size n h = ap length h.stands ∙ put-length q.mark lent 0 (stream q d n) ∙ h.size

    pub streamed-next : Valid q → (b : ℕ) {page after : List ℕ} → Streamed q d lent b page
        → after ≡ put q.mark page (start q b) (padded (shape q b) (run (bit_of d) (from q b) (bits q b))) → Streamed q d lent (b + 1) after
    unfolding stream padded theory.padded ones encoded written message
    streamed-next v b h e = record {
      size = h.size;
      stands = e ∙ rw (h.stands, add-one b)
          (put-append q.mark lent 0 (start q b) (stream q d b) _ (sym (zero-add _ ∙ stream-length q v d b)));
    }

    pub streamed-end : Valid q → {page after : List ℕ} → Streamed q d lent q.blocks page
        → after ≡ put q.mark page q.used (ones (room q - q.used)) → after ≡ page_of q lent d
    unfolding filled ones
    streamed-end v h e =
        let w = stream q d q.blocks in
        e ∙ rw h.stands
        (put-append q.mark lent 0 (used q) w _ (sym (zero-add _ ∙ stream-length q v d q.blocks ∙ sym v.total)))
        ∙ filled-page q v d lent h.size

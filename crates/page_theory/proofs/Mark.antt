-- The mark is left alone (document 02, E7): "writing never touches them, so demand 2's page has there what the lent page held, and no answer
-- depends on them". Of a lent page of the right length nothing but the mark goes into the written one, and nothing but the length into the reply.
-- That the other calls do not depend on the mark is in Tail.
use Rattle.std.specs.Prelude.{Result, Ok, Err}
use Rattle.layout.specs.declared.Refusal.{Refusal}
use Rattle.layout_plan.specs.declared.Layout.{Layout}
use mathlib.Core.Path.{◌≡◌, refl, sym, ap, ◌∙◌}
use mathlib.Core.Bool.{Bool, true, false, cond, true≢false}
use mathlib.Core.List.{List, ◌++◌}
use Prim.Native.Nat.{ℕ, ◌+◌, ◌*◌, ◌/◌, ◌≤◌, ◌<◌}
use native.Mathlib.Omega.{arith}
use native.Mathlib.Decide.{dec_lt}
use lib.ListN.{length}
use lib.Dec.{eqb}
use Rattle.bits.specs.Bits.{bit_at, bit_of, number, Bytes}
use Rattle.bits.proofs.Runs.{run-cong}
use Rattle.bits.proofs.Pages.{byte-number, bytes-bytes, bytes-cong}
use Rattle.mark.specs.declared.Mark.{Mark}
use Rattle.mark.specs.Mark.{marked}
use Rattle.mark.proofs.Places.{marked-before, marked-after, marked-within}
use Rattle.layout_plan.specs.declared.Plan.{Plan}
use Rattle.layout_plan.specs.Plan.{plan_of}
use Rattle.page_theory.specs.Page.{page_bit, page_of}
use Rattle.page_theory.specs.Damage.{Accepts, Payload}
use Rattle.page_theory.specs.Calls.{Written, write_ended, write_reply, write_in, write_for}
use Rattle.page_theory.specs.Alike.{SameMark}
use Rattle.page_theory.proofs.Blocks.{page-mark}
use Rattle.page_theory.proofs.Demand2.{write_done}

-- a bit of the mark lies in one of its bytes
marked-first : (k : Mark) (p : ℕ) → marked k p ≡ true → k.offset ≤ p / 8
marked-first k p e = elim (dec_lt p (8 * k.offset)) [
  | yes h ↦ absurd (true≢false (sym e ∙ marked-before k p h))
  | no h ↦ omega arith
]

marked-last : (k : Mark) (p : ℕ) → marked k p ≡ true → p / 8 < k.offset + k.length
marked-last k p e = elim (dec_lt p (8 * (k.offset + k.length))) [
  | yes h ↦ omega arith
  | no h ↦ absurd (true≢false (sym e ∙ marked-after k p (omega arith)))
]

module _ (q : Plan) (d : List ℕ) where
  page-kept : (lent : List ℕ) → Bytes q.size lent → q.mark.offset + q.mark.length ≤ q.size → SameMark q (page_of q lent d) lent
  unfolding page_of
  page-kept lent small inside = record {
    bytes = λ i h l.
        sym (byte-number (page_of q lent d) i ((bytes-bytes (page_bit q lent d) q.size).small i))
        ∙ ap number (run-cong (bit_of (page_of q lent d)) (bit_of lent) (8 * i) (8 * i) 8 (λ j k.
        page-mark q lent d (8 * i + j) (omega arith) (marked-within q.mark (8 * i + j) (omega arith) (omega arith))))
        ∙ byte-number lent i (small.small i);
  }

  page-alike : (lent other : List ℕ) → SameMark q lent other → page_of q lent d ≡ page_of q other d
  unfolding page_of page_bit bit_of bit_at
  page-alike lent other same = bytes-cong _ _ q.size (λ p l. go p (marked q.mark p) refl)
    where
      go : (p : ℕ) (x : Bool) → marked q.mark p ≡ x → page_bit q lent d p ≡ page_bit q other d p
      go p true e = rw (e, same.bytes (p / 8) (marked-first q.mark p e) (marked-last q.mark p e))
      go p false e = rw e

module _ (a : Result Layout Refusal) (q : Plan) (accepted : Accepts a q) (m d : List ℕ) (payload : Payload q m d) where
  -- the mark's bytes are those that were lent
  pub write_kept : (lent : List ℕ) → Bytes q.size lent → SameMark q (write_for a m d lent).page lent
  write_kept lent small = rw (write_done a q accepted m d lent payload small.count) (page-kept q (m ++ d) lent small accepted.valid.inside)

  -- over two pages with the same mark the same page is written
  pub write-alike : (lent other : List ℕ) → length lent ≡ q.size → length other ≡ q.size → SameMark q lent other
      → write_for a m d lent ≡ write_for a m d other
  write-alike lent other h k same =
      write_done a q accepted m d lent payload h ∙ ap (write_ended 0 0) (page-alike q (m ++ d) lent other same)
      ∙ sym (write_done a q accepted m d other payload k)

-- Whether or not a layout is accepted, and whatever is lent: the reply to writing has of the lent page only its length.
module _ (m d lent other : List ℕ) (size : length lent ≡ length other) where
  in-replied : (q : Plan) → ((write_in q m d lent).reply ≡ (write_in q m d other).reply) × ((write_in q m d lent).block ≡ (write_in q m d other).block)
  unfolding write_in
  in-replied q = rw size (go (eqb (write_reply q (length m) (length d) (length other)) 0) (write_reply q (length m) (length d) (length other)))
    where
      after : (x : Bool) (r : ℕ) (written kept : List ℕ) → Written
      after x r written kept = cond x (write_ended 0 0 written) (write_ended r 0 kept)

      go : (x : Bool) (r : ℕ)
          → ((after x r (page_of q lent (m ++ d)) lent).reply ≡ (after x r (page_of q other (m ++ d)) other).reply)
          × ((after x r (page_of q lent (m ++ d)) lent).block ≡ (after x r (page_of q other (m ++ d)) other).block)
      go true r = (refl, refl)
      go false r = (refl, refl)

  pub write-replied : (a : Result Layout Refusal) → ((write_for a m d lent).reply ≡ (write_for a m d other).reply) × ((write_for a m d lent).block ≡ (write_for a m d other).block)
  unfolding write_for
  write-replied (Ok l) = in-replied (plan_of l)
  write-replied (Err r) = (refl, refl)

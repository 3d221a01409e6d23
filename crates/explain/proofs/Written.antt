-- The parts of a written page are what their names say.
--
-- Holds q lent payload p x     in the page that is written over the lent one, position p, of which x is answered, holds a bit of that byte of the metadata or
--                              of the data, a bit of the parity of that block, a one of the tail, or what the lent page held in the mark
-- part-holds                   each position of the page does
use mathlib.Core.Path.{◌≡◌, ap, ◌∙◌}
use mathlib.Core.Bool.{true}
use mathlib.Core.List.{List, ◌++◌}
use Prim.Native.Nat.{ℕ, ◌+◌, ◌-◌, ◌*◌, ◌/◌, ◌%◌, ◌≤◌, ◌<◌}
use native.Mathlib.Decide.{dec_lt}
use native.Mathlib.Omega.{arith}
use lib.ListN.{length, get_or, get_or-append}
use lib.Seq.{get_or-append-add}
use borrow.Author.Tests.{lt-ltb, le-ltb}
use Rattle.bits.specs.Bits.{bit_of}
use Rattle.bits.proofs.Runs.{run_at}
use Rattle.field.specs.Field.{degree}
use Rattle.mark.specs.Mark.{streamed}
use Rattle.layout_plan.specs.declared.Plan.{Plan}
use Rattle.std.specs.Prelude.{Result, Ok}
use Rattle.layout.specs.declared.BitPlace.{BitPlace}
use Rattle.layout.specs.declared.Refusal.{Refusal}
use Rattle.layout_plan.specs.Plan.{bits, field, level, covered, start, from, Valid}
use Rattle.layout.specs.Bits.{block_of, exponent_at}
use Rattle.page_bits.proofs.Placing.{block-lies}
use Rattle.page_bits.proofs.Inverse.{Belongs, Stands, in-mark, in_block, in_tail, bit-partition}
use Rattle.code.specs.Generator.{parity}
use Rattle.page_theory.specs.Page.{message, written, written_bit, page_bit}
use Rattle.page_theory.proofs.Blocks.{message-length, written-tail}
use Rattle.explain.specs.declared.Part.TheVariants as part
use Rattle.explain.specs.declared.Place.{Place}
use Rattle.explain.specs.declared.Why.{Why}
use Rattle.explain.specs.Parts.{place_at, message_place, covered_place, placed, part_by, bit_part}

pub data Holds (q : Plan) (lent payload : List ℕ) (p : ℕ) : Place → Type 0 where
  holds-metadata : (b i r : ℕ) → r < 8 → i < q.metadata → page_bit q lent payload p ≡ bit_of payload (8 * i + r)
      → Holds q lent payload p (place_at part.Metadata b i p)
  holds-data : (b i r : ℕ) → r < 8 → page_bit q lent payload p ≡ bit_of payload (8 * (q.metadata + i) + r)
      → Holds q lent payload p (place_at part.Data b i p)
  holds-parity : (b k : ℕ) → k < degree (field q b) * level q b
      → page_bit q lent payload p ≡ get_or (parity (field q b) (level q b) (message q payload b)) k true → Holds q lent payload p (place_at part.Parity b 0 p)
  holds-tail : page_bit q lent payload p ≡ true → Holds q lent payload p (place_at part.Tail 0 0 p)
  holds-mark : page_bit q lent payload p ≡ bit_of lent p → Holds q lent payload p (place_at part.Mark 0 0 p)

module _ (q : Plan) (v : Valid q) (lent payload : List ℕ) (p : ℕ) where
  module _ {b e : ℕ} (x : Belongs q p b e) where
    -- the bit of the block in which the position lies
    block-bit : page_bit q lent payload p ≡ get_or (written q payload b) (covered q b - 1 - e) true
    unfolding page_bit written_bit exponent_at
    block-bit =
        let s = streamed q.mark p in
        let k : block_of q s ≡ b = block-lies q x.number x.lies in
        let j : s - start q b ≡ covered q b - 1 - e = omega (arith, x.exponent, x.lies.from, x.lies.to) in
        rw (x.free, k, lt-ltb b q.blocks x.number, j)

    message-bit : covered q b - 1 - e < bits q b → page_bit q lent payload p ≡ bit_of payload (from q b + (covered q b - 1 - e))
    unfolding written message
    message-bit l =
        block-bit ∙ get_or-append (message q payload b) _ true (covered q b - 1 - e) (omega (arith, message-length q payload b))
        ∙ run_at (bit_of payload) (from q b) (bits q b) (covered q b - 1 - e) true l

    parity-bit : bits q b ≤ covered q b - 1 - e
        → page_bit q lent payload p ≡ get_or (parity (field q b) (level q b) (message q payload b)) (covered q b - 1 - e - bits q b) true
    unfolding written
    parity-bit l =
        let i : covered q b - 1 - e ≡ length (message q payload b) + (covered q b - 1 - e - bits q b) = omega (arith, message-length q payload b) in
        block-bit ∙ ap (λ n. get_or (message q payload b ++ parity (field q b) (level q b) (message q payload b)) n true) i
        ∙ get_or-append-add (message q payload b) _ (covered q b - 1 - e - bits q b) true

    covered-holds : Holds q lent payload p (covered_place q b e p)
    unfolding covered_place message_place
    covered-holds = elim (dec_lt (covered q b - 1 - e) (bits q b)) [
      | yes l ↦ (let j = from q b + (covered q b - 1 - e) in
          let m = message-bit l in
          let d : 8 * (j / 8) + j % 8 ≡ j = omega arith in
          let r : j % 8 < 8 = omega arith in
          rw (lt-ltb (covered q b - 1 - e) (bits q b) l) (elim (dec_lt (j / 8) q.metadata) [
            | yes k ↦ rw (lt-ltb (j / 8) q.metadata k) (holds-metadata b (j / 8) (j % 8) r k (rw d m))
            | no k ↦ (let i : q.metadata + (j / 8 - q.metadata) ≡ j / 8 = omega arith in
                rw (le-ltb (j / 8) q.metadata (omega arith)) (holds-data b (j / 8 - q.metadata) (j % 8) r (rw (i, d) m)))
          ]))
      | no l ↦ rw (le-ltb (covered q b - 1 - e) (bits q b) (omega arith))
          (holds-parity b (covered q b - 1 - e - bits q b) (omega (arith, v.sums b, x.exponent, x.lies.from, x.lies.to)) (parity-bit (omega arith)))
    ]

  at-injective : {x y : Place} → ◌≡◌ {A = Result Place Why} (Ok x) (Ok y) → x ≡ y
  at-injective h = cc

  stands-holds : {a : Result BitPlace Refusal} (x : Place) → Stands q p a → part_by q p a ≡ Ok x → Holds q lent payload p x
  unfolding part_by placed page_bit
  stands-holds x (in-mark m) h = rw (← at-injective h) (holds-mark (rw m))
  stands-holds x (in_block k) h = rw (← at-injective h) (covered-holds k)
  stands-holds x (in_tail m u) h = rw (← at-injective h) (holds-tail (rw m (written-tail q payload (streamed q.mark p) u)))

  pub part-holds : (x : Place) → p < 8 * q.size → bit_part q p ≡ Ok x → Holds q lent payload p x
  unfolding bit_part
  part-holds x l h = stands-holds x (bit-partition q p l) h

-- What the bits of a page are, step by step.
--
-- parity-place, message-place     a covered bit by where it stands in its block
-- covered-in     a bit that Bits answers with block and exponent: the page has that block, and the block that exponent
-- part-told      the answer to a position by what Bits answers
-- bit-told       what Bits answers for a record that is accepted
use mathlib.Core.Path.{◌≡◌, sym, ap, ◌∙◌}
use Prim.Native.Nat.{ℕ, ◌+◌, ◌-◌, ◌≤◌, ◌<◌}
use borrow.Author.Tests.{lt-ltb, le-ltb}
use Rattle.layout_plan.specs.declared.Shape.{Shape}
use Rattle.layout_plan.specs.declared.Plan.{Plan}
use Rattle.layout_plan.specs.declared.Layout.{Layout}
use Rattle.std.specs.Prelude.{Result, Ok}
use Rattle.layout.specs.declared.BitPlace.{BitPlace}
use Rattle.layout.specs.declared.BitPlace.TheVariants as bit
use Rattle.layout.specs.declared.Refusal.{Refusal}
use Rattle.layout_plan.specs.Record.{Words}
use Rattle.layout_plan.specs.Plan.{plan_of, shape, bits, covered, from}
use Rattle.layout.specs.Acceptance.{acceptance}
use Rattle.layout.specs.Bits.{bit_in, bit_for, bit_answer}
use Rattle.page_bits.proofs.Inverse.{bit-belongs, exponent-low}
use Rattle.explain.specs.declared.Part.TheVariants as part
use Rattle.explain.specs.declared.Place.{Place}
use Rattle.explain.specs.declared.Why.{Why}
use Rattle.explain.specs.Parts.{place_at, message_place, covered_place, part_by, bit_part}

module _ (q : Plan) (b e p : ℕ) {s : Shape} {n : ℕ} {x : Place} (es : s ≡ shape q b) (en : n ≡ covered q b) where
  pub parity-place : s.message ≤ n - 1 - e → x ≡ place_at part.Parity b 0 p → x ≡ covered_place q b e p
  unfolding covered_place
  parity-place l h = let k : bits q b ≤ covered q b - 1 - e = rw (es, en) at l in rw (le-ltb (covered q b - 1 - e) (bits q b) k) h

  pub message-place : {m : ℕ} → n - 1 - e < s.message → m ≡ from q b → x ≡ message_place q b (m + (n - 1 - e)) p → x ≡ covered_place q b e p
  unfolding covered_place
  message-place l f h =
      let k : covered q b - 1 - e < bits q b = rw (es, en) at l in
      rw (lt-ltb (covered q b - 1 - e) (bits q b) k) (rw (f, en) at h)

pub covered-in : (q : Plan) (p : ℕ) {a : BitPlace} {b e : ℕ} → Ok a ≡ bit_in q p → a ≡ bit.InBlock b e → (b < q.blocks) × (e < covered q b)
covered-in q p {b = b} {e = e} h k =
    let x = bit-belongs q p b e (sym h ∙ ap Ok k) in
    (x.number, rw x.exponent (exponent-low q x.lies))

pub part-told : (q : Plan) (p : ℕ) {a c : Result BitPlace Refusal} {y : Result Place Why} → a ≡ bit_in q p → a ≡ c → y ≡ part_by q p c → y ≡ bit_part q p
unfolding bit_part
part-told q p h k e = e ∙ ap (part_by q p) (sym k ∙ h)

pub bit-told : (w : Words) (p : ℕ) {a : Result BitPlace Refusal} {l : Layout} {q : Plan} → a ≡ bit_answer w p → acceptance w ≡ Ok l → q ≡ plan_of l → a ≡ bit_in q p
unfolding bit_answer bit_for
bit-told w p h k e = rw e (h ∙ ap (λ x. bit_for x p) k)

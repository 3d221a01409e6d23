-- The messages of a page's blocks, one after the other: the payload that they make.
use mathlib.Core.Path.{◌≡◌, refl, sym, ap, ◌∙◌}
use mathlib.Core.Bool.{false}
use mathlib.Core.List.{List, ◌++◌}
use Prim.Native.Nat.{ℕ, zero, suc, ◌+◌, ◌*◌, ◌≤◌, ◌<◌}
use native.Mathlib.Decide.{dec_lt}
use native.Mathlib.Nat.{zero-add}
use native.Mathlib.Numerals.{add-one}
use native.Mathlib.Omega.{arith}
use lib.ListN.{length, take, get_or, length-append, get_or-append}
use lib.Seq.{get_or-append-add, take_at}
use Rattle.bits.specs.Bits.{bit_of, run, placed, Bytes}
use Rattle.bits.proofs.Runs.{run_length, run_at, run-ext, run-append}
use Rattle.bits.proofs.Placed.{placed-inside, placed-append, placed-empty}
use Rattle.mark.specs.Mark.{stream_bit, InStream}
use Rattle.layout_plan.specs.declared.Plan.{Plan}
use Rattle.layout_plan.specs.Plan.{bits, start, room, from, payload, Valid}
use Rattle.page_theory.specs.Page.{message, block_word}
use Rattle.page_theory.proofs.Calls.{bytes-append}
use Rattle.page_theory.proofs.Reading.{from-order}
use Rattle.page_plan.specs.Plans.{Ready}
use Rattle.page_plan.proofs.Plans.{message-inside}
use Rattle.payload.specs.Payload.{Small, Joined}
use Rattle.page_copy.specs.Copying.{texts}

module _ (q : Plan) where
  module _ (page : List ℕ) where
    pub texts-length : (n : ℕ) → length (texts q page n) ≡ from q n
    unfolding texts from
    texts-length zero = refl
    texts-length (suc n) = length-append (texts q page n) _ ∙ rw (texts-length n, run_length (stream_bit q.mark page) (start q n) (bits q n))

    -- the bits of a message among those of all of them
    texts-bit : (n b j : ℕ) → b < n → j < bits q b → get_or (texts q page n) (from q b + j) false ≡ stream_bit q.mark page (start q b + j)
    unfolding texts
    texts-bit zero b j l k = absurd (omega arith)
    texts-bit (suc n) b j l k = elim (dec_lt b n) [
      | yes h ↦ (let o = from-order q b n h in
          get_or-append (texts q page n) _ false (from q b + j) (omega (arith, texts-length n)) ∙ texts-bit n b j h k)
      | no h ↦ (let e : b ≡ n = omega arith in
          let i : from q b + j ≡ length (texts q page n) + j = ap (λ x. from q x + j) e ∙ ap (λ x. x + j) (sym (texts-length n)) in
          ap (λ p. get_or (texts q page (suc n)) p false) i ∙ get_or-append-add (texts q page n) _ j false
          ∙ rw (← e) (run_at (stream_bit q.mark page) (start q b) (bits q b) j false k))
    ]

    -- the message of a block as it stands in the page
    pub block-message : Valid q → (b : ℕ) → take (bits q b) (block_word q page b) ≡ run (stream_bit q.mark page) (start q b) (bits q b)
    unfolding block_word
    block-message v b =
        ap (take (bits q b)) (ap (run (stream_bit q.mark page) (start q b)) (v.sums b) ∙ run-append (stream_bit q.mark page) (start q b) (bits q b) _)
        ∙ take_at _ _ _ (run_length (stream_bit q.mark page) (start q b) (bits q b))

    -- A payload into which the messages of all blocks were put has them.
    pub texts-message : Valid q → (old : List ℕ) → length old ≡ payload q → (b : ℕ) → b < q.blocks
        → message q (placed old 0 (texts q page q.blocks)) b ≡ take (bits q b) (block_word q page b)
    unfolding message
    texts-message v old s b l = rw (block-message v b) (run-ext _ (from q b) _ (bits q b) false (run_length _ _ _) (λ j k.
        let i = message-inside q v b l in
        let o = from-order q b q.blocks l in
        let z : from q b + j ≡ 0 + (from q b + j) = omega arith in
        ap (bit_of (placed old 0 (texts q page q.blocks))) z
        ∙ placed-inside old 0 (texts q page q.blocks) (from q b + j) false (omega (arith, texts-length q.blocks)) (omega arith)
        ∙ texts-bit q.blocks b j l k ∙ sym (run_at (stream_bit q.mark page) (start q b) (bits q b) j false k)))

    pub joined-start : (m d : List ℕ) → Bytes (length m) m → Bytes (length d) d → Joined m d m d (placed (m ++ d) 0 (texts q page 0))
    unfolding texts
    joined-start m d a b =
        record { metadata = refl; «data» = refl; both = sym (placed-empty (m ++ d) 0 (rw (length-append m d) (bytes-append a b))) }

    -- one message, from the numbers of its block
    pub joined-message : {m d m' d' : List ℕ} (b : ℕ) {s p n : ℕ} → s ≡ start q b → p ≡ from q b → n ≡ bits q b
        → Joined m d m' d' (placed (m ++ d) p (run (stream_bit q.mark page) s n))
        → Joined m d m' d' (placed (m ++ d) (from q b) (run (stream_bit q.mark page) (start q b) (bits q b)))
    joined-message b es ep en y = rw (es, ep, en) at y

    -- one message more
    pub joined-texts : (m d : List ℕ) {m₁ d₁ m₂ d₂ : List ℕ} (b : ℕ) → Joined m d m₁ d₁ (placed (m ++ d) 0 (texts q page b))
        → Joined m₁ d₁ m₂ d₂ (placed (m₁ ++ d₁) (from q b) (run (stream_bit q.mark page) (start q b) (bits q b)))
        → Joined m d m₂ d₂ (placed (m ++ d) 0 (texts q page (b + 1)))
    unfolding texts
    joined-texts m d {m₁} {d₁} b x y = record {
      metadata = y.metadata ∙ x.metadata;
      «data» = y.«data» ∙ x.«data»;
      both = y.both ∙ rw x.both
          (placed-append (m ++ d) 0 (from q b) (texts q page b) (run (stream_bit q.mark page) (start q b) (bits q b)) (sym (zero-add _ ∙ texts-length b))
          ∙ rw (add-one b));
    }

    -- the message of a block lies in the stream, and in the payload
    pub message-room : Ready q page → (b : ℕ) → b < q.blocks → {m d : List ℕ} → length m ≡ q.metadata → length d ≡ q.«data» → {s p n : ℕ}
        → s ≡ start q b → p ≡ from q b → n ≡ bits q b
        → ((InStream q.mark page s n) × Small m d) × (p + n ≤ 8 * (length m + length d))
    unfolding payload room
    message-room r b l em ed es ep en =
        let f = r.plan.size in
        let i = message-inside q r.plan.valid b l in
        let o = r.plan.valid.ends b l in
        let k = r.plan.valid.inside in
        let c = r.plan.valid.sums b in
        let z = r.size in
        let x = r.plan.metadata in
        let y = r.plan.«data» in
        ((record { inside = omega arith; ends = omega arith; fits = omega arith }, record { metadata = omega arith; «data» = omega arith }), omega arith)

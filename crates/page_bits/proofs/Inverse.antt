-- Position and exponent answer each other: the two directions of Bits are inverse on covered bits. Every other bit of the page is in the tail or
-- in the mark. That stream positions and page positions are one to one beside the mark is mark/Places.
use Rattle.std.specs.Prelude.{Result, Ok, Err}
use Rattle.layout.specs.declared.Refusal.{Refusal}
use Rattle.layout_plan.specs.declared.Layout.{Layout}
use mathlib.Core.Path.{◌≡◌, refl, sym, ap, ◌∙◌}
use mathlib.Core.Logic.{⊎_elim}
use mathlib.Core.Bool.{Bool, true, false, cond, true≢false}
use Prim.Native.Nat.{ℕ, ◌*◌, ◌<◌}
use native.Mathlib.Omega.{arith}
use lib.Dec.{ltb}
use borrow.Author.Tests.{ltb-true, lt-ltb}
use Rattle.mark.specs.Mark.{place, marked, streamed}
use Rattle.mark.proofs.Places.{streamed-place, place-free, place-streamed, place-below}
use Rattle.layout_plan.specs.declared.Plan.{Plan}
use Rattle.layout.specs.declared.BitPlace.{BitPlace}
use Rattle.layout.specs.declared.Refusal.TheVariants.{Range}
use Rattle.layout_plan.specs.Record.{Words}
use Rattle.layout_plan.specs.Plan.{plan_of, covered, room, Valid}
use Rattle.layout.specs.Acceptance.{acceptance}
use Rattle.layout.specs.Bits.{block_of, exponent_at, position_at, located, bit_in, bit_for, bit_answer, position_in, position_for, position_answer}
use Rattle.page_bits.proofs.Placing.{Lies, block-lies, block-holds, block-or-tail, tail-free, located-tail, located-block}
use Rattle.layout.proofs.Accepting.{accepted-valid}
use Rattle.layout.specs.declared.BitPlace.TheVariants as bit

module _ (q : Plan) where
  pub exponent-low : {b p : ℕ} → Lies q b p → exponent_at q b p < covered q b
  unfolding exponent_at
  exponent-low h = omega (arith, h.from, h.to)

  pub position-exponent : {b p : ℕ} → Lies q b p → position_at q b (exponent_at q b p) ≡ p
  unfolding exponent_at position_at
  position-exponent h = omega (arith, h.from, h.to)

  pub position-lies : (b e : ℕ) → e < covered q b → Lies q b (position_at q b e)
  unfolding position_at
  position-lies b e h = record { from = omega arith; to = omega arith }

  pub exponent-position : (b e : ℕ) → e < covered q b → exponent_at q b (position_at q b e) ≡ e
  unfolding exponent_at position_at
  exponent-position b e h = omega arith

  -- the two answers under a plan
  pub position_in_lem : (b e : ℕ) → b < q.blocks → e < covered q b → position_in q b e ≡ Ok (place q.mark (position_at q b e))
  unfolding position_in
  position_in_lem b e h k = simp (lt-ltb b q.blocks h, lt-ltb e (covered q b) k)

  -- outside the mark it is the stream that answers
  pub bit_in_lem : {p : ℕ} → p < 8 * q.size → marked q.mark p ≡ false → bit_in q p ≡ Ok (located q (streamed q.mark p))
  unfolding bit_in
  bit_in_lem {p} s m = simp (lt-ltb p (8 * q.size) s, m)

-- position p of the page belongs to block b and has the exponent e there: it is not in the mark, and the stream position that stands there does
pub record Belongs (q : Plan) (p b e : ℕ) : Type 0 where
  pub number : b < q.blocks
  pub free : marked q.mark p ≡ false
  pub lies : Lies q b (streamed q.mark p)
  pub exponent : e ≡ exponent_at q b (streamed q.mark p)

module _ (q : Plan) where
  located-belongs : (p b e : ℕ) → marked q.mark p ≡ false → located q (streamed q.mark p) ≡ bit.InBlock b e → Belongs q p b e
  unfolding located
  located-belongs p b e m h = go (ltb (block_of q s) q.blocks) refl h
    where
      s : ℕ
      s = streamed q.mark p

      found : bit.InBlock (block_of q s) (exponent_at q (block_of q s) s) ≡ bit.InBlock b e → block_of q s < q.blocks → Belongs q p b e
      found x k =
          let n : b ≡ block_of q s = cc in
          let y : e ≡ exponent_at q (block_of q s) s = cc in
          record { number = omega arith; free = m; lies = block-holds q s n (omega arith); exponent = rw n y }

      go : (t : Bool) → ltb (block_of q s) q.blocks ≡ t →
          cond t (bit.InBlock (block_of q s) (exponent_at q (block_of q s) s)) bit.Tail ≡ bit.InBlock b e → Belongs q p b e
      go true k x = found x (ltb-true _ _ k)
      go false k x = let z : ◌≡◌ {A = ℕ} 0 1 = cc x in absurd (omega arith)

  pub bit-belongs : (p b e : ℕ) → bit_in q p ≡ Ok (bit.InBlock b e) → Belongs q p b e
  unfolding bit_in
  bit-belongs p b e h = go (ltb p (8 * q.size)) (marked q.mark p) refl h
    where
      go : (t m : Bool) → marked q.mark p ≡ m →
          cond t (Ok (cond m bit.Mark (located q (streamed q.mark p)))) (Err Range) ≡ Ok (bit.InBlock b e) → Belongs q p b e
      go true false k x = let y : located q (streamed q.mark p) ≡ bit.InBlock b e = cc x in located-belongs p b e k y
      go true true k x = let z : ◌≡◌ {A = ℕ} 0 1 = cc x in absurd (omega arith)
      go false m k x = let z : ◌≡◌ {A = ℕ} 0 1 = cc x in absurd (omega arith)

  -- the page position of a code bit
  place-belongs : (b e : ℕ) → b < q.blocks → e < covered q b → Belongs q (place q.mark (position_at q b e)) b e
  place-belongs b e h k =
      let back = streamed-place q.mark (position_at q b e) in
      record {
        number = h;
        free = place-free q.mark (position_at q b e);
        lies = rw back (position-lies q b e k);
        exponent = rw back (sym (exponent-position q b e k));
      }

  pub position-belongs : (p b e : ℕ) → position_in q b e ≡ Ok p → Belongs q p b e
  unfolding position_in
  position-belongs p b e h = go (ltb b q.blocks) (ltb e (covered q b)) refl refl h
    where
      go : (s t : Bool) → ltb b q.blocks ≡ s → ltb e (covered q b) ≡ t →
          cond s (cond t (Ok (place q.mark (position_at q b e))) (Err Range)) (Err Range) ≡ Ok p →
          Belongs q p b e
      go true true k m x =
          let y : p ≡ place q.mark (position_at q b e) = cc x in
          rw y (place-belongs b e (ltb-true _ _ k) (ltb-true _ _ m))
      go true false k m x = let z : ◌≡◌ {A = ℕ} 0 1 = cc x in absurd (omega arith)
      go false t k m x = let z : ◌≡◌ {A = ℕ} 0 1 = cc x in absurd (omega arith)

  pub belongs-position : {p b e : ℕ} → Belongs q p b e → position_in q b e ≡ Ok p
  belongs-position {p} {b} {e} h =
      let back : position_at q b e ≡ streamed q.mark p = ap (position_at q b) h.exponent ∙ position-exponent q h.lies in
      position_in_lem q b e h.number (rw h.exponent (exponent-low q h.lies))
      ∙ ap Ok (ap (place q.mark) back ∙ place-streamed q.mark p h.free)

  belongs-located : {p b e : ℕ} → Belongs q p b e → located q (streamed q.mark p) ≡ bit.InBlock b e
  belongs-located {p} {b} h =
      sym (located-block q (streamed q.mark p) (sym (block-lies q h.number h.lies)) h.number) ∙ ap (bit.InBlock b) (sym h.exponent)

  pub belongs-bit : {p b e : ℕ} → p < 8 * q.size → Belongs q p b e → bit_in q p ≡ Ok (bit.InBlock b e)
  belongs-bit s h = bit_in_lem q s h.free ∙ ap Ok (belongs-located h)

  -- a bit of a block lies in the page
  pub belongs-page : {p b e : ℕ} → Valid q → Belongs q p b e → p < 8 * q.size
  unfolding room
  belongs-page {p} {b} v h =
      rw (sym (place-streamed q.mark p h.free))
      (place-below q.mark q.size v.inside (streamed q.mark p) (omega (arith, h.lies.to, v.ends b h.number)))

-- where position p of the page belongs: in the mark, in a block, or in the tail
pub data Stands (q : Plan) (p : ℕ) : Result BitPlace Refusal → Type 0 where
  in-mark : marked q.mark p ≡ true → Stands q p (Ok bit.Mark)
  in_block : {b e : ℕ} → Belongs q p b e → Stands q p (Ok (bit.InBlock b e))
  in_tail : marked q.mark p ≡ false → block_of q (streamed q.mark p) ≡ q.blocks → Stands q p (Ok bit.Tail)

module _ (q : Plan) (p : ℕ) where
  located-stands : marked q.mark p ≡ false → Stands q p (Ok (located q (streamed q.mark p)))
  located-stands m =
      ⊎_elim
      (λ (i : (b : ℕ) × (b < q.blocks) × Lies q b (streamed q.mark p)).
      let h : Belongs q p i.0 (exponent_at q i.0 (streamed q.mark p)) = record { number = i.1; free = m; lies = i.2; exponent = refl } in
      rw (belongs-located q h) (in_block h))
      (λ (u : block_of q (streamed q.mark p) ≡ q.blocks).
      rw (sym (located-tail q (streamed q.mark p) (sym u) (omega arith))) (in_tail m u))
      (block-or-tail q (streamed q.mark p))

  -- Every position of the page is in one block, in the tail or in the mark, and that is the answer,
  pub bit-partition : p < 8 * q.size → Stands q p (bit_in q p)
  unfolding bit_in
  bit-partition s = rw (lt-ltb p (8 * q.size) s) (go (marked q.mark p) refl)
    where
      go : (m : Bool) → marked q.mark p ≡ m → Stands q p (Ok (cond m bit.Mark (located q (streamed q.mark p))))
      go true e = in-mark e
      go false e = located-stands e

  -- and in no other.
  pub bit-once : {a c : Result BitPlace Refusal} → Stands q p a → Stands q p c → a ≡ c
  bit-once (in-mark m) (in-mark n) = refl
  bit-once (in-mark m) (in_block h) = absurd (true≢false (sym m ∙ h.free))
  bit-once (in-mark m) (in_tail n u) = absurd (true≢false (sym m ∙ n))
  bit-once (in_block h) (in-mark n) = absurd (true≢false (sym n ∙ h.free))
  bit-once (in_block h) (in_block k) = ap Ok (sym (belongs-located q h) ∙ belongs-located q k)
  bit-once (in_block h) (in_tail n u) = absurd (tail-free q u h.number h.lies)
  bit-once (in_tail m u) (in-mark n) = absurd (true≢false (sym n ∙ m))
  bit-once (in_tail m u) (in_block k) = absurd (tail-free q u k.number k.lies)
  bit-once (in_tail m u) (in_tail n w) = refl

-- Where a page bit answers block and exponent, these answer the bit's position.
pub bit-position : (w : Words) (p b e : ℕ) → bit_answer w p ≡ Ok (bit.InBlock b e) → position_answer w b e ≡ Ok p
unfolding bit_answer position_answer bit_for position_for
bit-position w p b e h = go (acceptance w) h
  where
    go : (a : Result Layout Refusal) → bit_for a p ≡ Ok (bit.InBlock b e) → position_for a b e ≡ Ok p
    go (Ok l) x = belongs-position (plan_of l) (bit-belongs (plan_of l) p b e x)
    go (Err r) x = let z : ◌≡◌ {A = ℕ} 0 1 = cc x in absurd (omega arith)

-- Where block and exponent answer a position, the page bit there answers them.
pub position-bit : (w : Words) (p b e : ℕ) → position_answer w b e ≡ Ok p → bit_answer w p ≡ Ok (bit.InBlock b e)
unfolding bit_answer position_answer bit_for position_for
position-bit w p b e h = go (acceptance w) refl h
  where
    go : (a : Result Layout Refusal) → acceptance w ≡ a → position_for a b e ≡ Ok p → bit_for a p ≡ Ok (bit.InBlock b e)
    go (Ok l) k x =
        let h = position-belongs (plan_of l) p b e x in
        belongs-bit (plan_of l) (belongs-page (plan_of l) (accepted-valid w l k) h) h
    go (Err r) k x = let z : ◌≡◌ {A = ℕ} 0 1 = cc x in absurd (omega arith)

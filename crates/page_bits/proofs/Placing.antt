-- Laws of Bits: each stream position lies in one block or in none, and which block it is.
use mathlib.Core.Path.{◌≡◌, refl, sym, ap, ◌∙◌}
use mathlib.Core.Logic.{◌⊎◌, inl, inr, ⊎_elim}
use mathlib.Core.Bool.{Bool, true, false, cond, true≢false}
use Prim.Native.Nat.{ℕ, zero, suc, ◌+◌, ◌-◌, ◌*◌, ◌/◌, ◌≤◌, ◌<◌}
use native.Mathlib.Omega.{arith}
use native.Mathlib.Decide.{dec_lt}
use native.Mathlib.Nat.{eq-or-lt_of_le, eq-zero-or-pos, div-add-mod', mod-lt, suc-mul, add-suc, div-lt_iff_lt-mul}
use lib.Dec.{leb, ltb}
use borrow.Author.Tests.{lt-ltb, le-ltb, le-leb, lt-leb, leb-true, ltb-true}
use Rattle.layout_plan.specs.declared.Plan.{Plan}
use Rattle.layout_plan.specs.Plan.{covered, start, used, Valid}
use Rattle.layout.specs.Bits.{within, block_below, block_of, exponent_at, located}
use Rattle.layout_plan.proofs.Plans.{pitch, start-next, start-firsts, start-laters, start-order, start_up}
use Rattle.page_bits.specs.Places.{Near}
use Rattle.layout.specs.declared.BitPlace.TheVariants as bit

-- stream position p lies in block b
pub record Lies (q : Plan) (b p : ℕ) : Type 0 where
  pub from : start q b ≤ p
  pub to : p < start q b + covered q b

split : (a b : ℕ) → (a < b) ⊎ (b ≤ a)
split a b = go (dec_lt a b)
  where
    go : Dec (a < b) → (a < b) ⊎ (b ≤ a)
    go (yes x) = inl x
    go (no x) = inr (omega arith)

module _ (q : Plan) where
  pub lies_within : {b p : ℕ} → Lies q b p → within q b p ≡ true
  unfolding within
  lies_within {b} {p} h = simp (le-leb (start q b) p h.from, lt-ltb p (start q b + covered q b) h.to)

  pub before-within : (b p : ℕ) → p < start q b → within q b p ≡ false
  unfolding within
  before-within b p h = simp (lt-leb (start q b) p h)

  pub after-within : (b p : ℕ) → start q b + covered q b ≤ p → within q b p ≡ false
  unfolding within
  after-within b p h = simp (le-leb (start q b) p (omega arith), le-ltb p (start q b + covered q b) h)

  -- no position lies in two blocks
  pub lies-once : {b c p : ℕ} → Lies q b p → Lies q c p → b ≡ c
  lies-once {b} {c} {p} h k =
      ⊎_elim
      (λ (x : b < c). absurd (let r = start-order q b c x in omega (arith, h.to, k.from)))
      (λ (y : c ≤ b).
      ⊎_elim
      (λ (e : c ≡ b). sym e)
      (λ (x : c < b). absurd (let r = start-order q c b x in omega (arith, k.to, h.from)))
      (eq-or-lt_of_le y))
      (split b c)

  below-lies : (n : ℕ) {b p : ℕ} → b < n → Lies q b p → block_below q n p ≡ b
  unfolding block_below
  below-lies zero h k = absurd (omega arith)
  below-lies (suc n) {b} {p} h k =
      ⊎_elim
      (λ (e : b ≡ n). rw (sym e) (simp (lies_within k)))
      (λ (x : b < n). let r = start-order q b n x in simp (before-within n p (omega (arith, k.to))) (below-lies n x k))
      (eq-or-lt_of_le {n = b} {m = n} (omega arith))

  below-past : (n : ℕ) {p : ℕ} → start q n ≤ p → block_below q n p ≡ q.blocks
  unfolding block_below
  below-past zero h = refl
  below-past (suc n) {p} h = let e = start-next q n in simp (after-within n p (omega arith)) (below-past n (omega arith))

  pub block-lies : {b p : ℕ} → b < q.blocks → Lies q b p → block_of q p ≡ b
  unfolding block_of
  block-lies h k = below-lies q.blocks h k

  within-lies : (b p : ℕ) → within q b p ≡ true → Lies q b p
  unfolding within
  within-lies b p h = go (leb (start q b) p) refl (ltb p (start q b + covered q b)) refl h
    where
      go : (x : Bool) → leb (start q b) p ≡ x → (y : Bool) → ltb p (start q b + covered q b) ≡ y → cond x y false ≡ true → Lies q b p
      go true ex true ey e = record { from = leb-true _ _ ex; to = ltb-true _ _ ey }
      go true ex false ey e = absurd (true≢false (sym e))
      go false ex y ey e = absurd (true≢false (sym e))

  below-or-none : (n p : ℕ) → ((b : ℕ) × (b < n) × Lies q b p) ⊎ (block_below q n p ≡ q.blocks)
  unfolding block_below
  below-or-none zero p = inr refl
  below-or-none (suc n) p = go (within q n p) refl (below-or-none n p)
    where
      go : (x : Bool) → within q n p ≡ x → ((b : ℕ) × (b < n) × Lies q b p) ⊎ (block_below q n p ≡ q.blocks)
          → ((b : ℕ) × (b < suc n) × Lies q b p) ⊎ (cond x n (block_below q n p) ≡ q.blocks)
      go true e r = inl (n, omega arith, within-lies n p e)
      go false e (inl i) = inl (i.0, omega (arith, i.1), i.2)
      go false e (inr h) = inr h

  -- Each position lies in a block of the page, and in no other, or in none of them: then it is in the tail.
  pub block-or-tail : (p : ℕ) → ((b : ℕ) × (b < q.blocks) × Lies q b p) ⊎ (block_of q p ≡ q.blocks)
  unfolding block_of
  block-or-tail p = below-or-none q.blocks p

  pub tail-free : {b p : ℕ} → block_of q p ≡ q.blocks → b < q.blocks → Lies q b p → ⊥
  tail-free u h k = omega (arith, block-lies h k)

  pub block-holds : (p : ℕ) {b : ℕ} → b ≡ block_of q p → b < q.blocks → Lies q b p
  block-holds p {b} e h =
      ⊎_elim
      (λ (f : (b : ℕ) × (b < q.blocks) × Lies q b p). rw (e ∙ block-lies f.1 f.2) f.2)
      (λ (x : block_of q p ≡ q.blocks). absurd (omega arith))
      (block-or-tail p)

  -- the pads of a block are in none
  pub pads-free : (b p : ℕ) → start q b + covered q b ≤ p → p < start q (suc b) → block_of q p ≡ q.blocks
  pads-free b p h k =
      ⊎_elim
      (λ (f : (c : ℕ) × (c < q.blocks) × Lies q c p). absurd (apart f.0 f.2))
      (λ (x : block_of q p ≡ q.blocks). x)
      (block-or-tail p)
    where
      apart : (c : ℕ) → Lies q c p → ⊥
      apart c l =
          ⊎_elim
          (λ (x : c < b). let r = start-order q c b x in omega (arith, l.to))
          (λ (y : b ≤ c).
          ⊎_elim
          (λ (e : b ≡ c). let r : p < start q b + covered q b = rw (sym e) at l.to in omega arith)
          (λ (x : b < c). let r = start_up q (suc b) c x in omega (arith, l.from))
          (eq-or-lt_of_le y))
          (split c b)

  -- The block that is near a position, by a division by n, the bits from the start of one block to the next one's.
  firsts-some : (p n : ℕ) → start q q.firsts ≡ q.firsts * n → p < start q q.firsts → 0 < n
  firsts-some p n s h =
      ⊎_elim
      (λ (z : n ≡ 0). absurd (let r : q.firsts * n ≡ q.firsts * 0 = ap (λ (x : ℕ). q.firsts * x) z in omega arith))
      (λ (x : 0 < n). x)
      (eq-zero-or-pos n)

  near-firsts : (p n : ℕ) → start q q.firsts ≡ q.firsts * n → ((b : ℕ) → b ≤ q.firsts → start q b ≡ b * n) → p < start q q.firsts → Near q p (p / n)
  near-firsts p n s f h =
      let k = firsts-some p n s h in
      let i : p / n < q.firsts = (div-lt_iff_lt-mul k).1 (omega arith) in
      let d = div-add-mod' p n in
      let m = mod-lt p k in
      let x = f (p / n) (omega arith) in
      let y = f (suc (p / n)) (omega arith) in
      let z = suc-mul (p / n) n in
      record { from = omega arith; to = λ l. omega arith }

  pub first_some : (p : ℕ) {a n : ℕ} → a ≡ start q q.firsts → n ≡ pitch q.first → p < a → 0 < n
  first_some p e f h = rw f (firsts-some p (pitch q.first) (start-firsts q q.firsts (omega arith)) (omega arith))

  pub near_first : (p : ℕ) {a n : ℕ} → a ≡ start q q.firsts → n ≡ pitch q.first → p < a → Near q p (p / n)
  near_first p {a} e f h = rw f (near-firsts p (pitch q.first) (start-firsts q q.firsts (omega arith)) (start-firsts q) (omega arith))

  near-laters : (p n : ℕ) → ((k : ℕ) → start q (q.firsts + k) ≡ start q q.firsts + k * n) → 0 < n → start q q.firsts ≤ p
      → Near q p (q.firsts + (p - start q q.firsts) / n)
  near-laters p n f k h =
      let r = p - start q q.firsts in
      let d = div-add-mod' r n in
      let m = mod-lt r k in
      let x = f (r / n) in
      let y = f (suc (r / n)) in
      let z = suc-mul (r / n) n in
      let e = ap (start q) (add-suc q.firsts (r / n)) in
      record { from = omega arith; to = λ l. omega arith }

  laters : (k : ℕ) → start q (q.firsts + k) ≡ start q q.firsts + k * pitch q.later
  laters k = start-laters q k ∙ ap (λ (x : ℕ). x + k * pitch q.later) (sym (start-firsts q q.firsts (omega arith)))

  pub near-later : (p : ℕ) {a n : ℕ} → a ≡ start q q.firsts → n ≡ pitch q.later → a ≤ p → 0 < n → Near q p (q.firsts + (p - a) / n)
  near-later p e f h k = rw (e, f) (near-laters p (pitch q.later) laters (rw f at k) (rw e at h))

  pub near_none : (p : ℕ) {a n : ℕ} → a ≡ start q q.firsts → n ≡ pitch q.later → a ≤ p → n ≡ 0 → Near q p q.blocks
  near_none p {a} e f h z = record { from = low; to = λ l. absurd (omega arith) }
    where
      up : (k : ℕ) → q.blocks ≤ q.firsts + k → start q q.blocks ≤ p
      up k l =
          let u = start_up q q.blocks (q.firsts + k) l in
          let r : k * pitch q.later ≡ k * 0 = ap (λ (x : ℕ). k * x) (sym f ∙ z) in
          omega (arith, laters k)

      low : start q q.blocks ≤ p
      low = up q.blocks (omega arith)

  -- after the blocks of the page there are none
  pub block-after : (p : ℕ) → start q q.blocks ≤ p → block_of q p ≡ q.blocks
  unfolding block_of
  block-after p h = below-past q.blocks h

  -- which block it is, of those that are near
  module _ {p b : ℕ} (near : Near q p b) where
    pub near-beyond : q.blocks ≤ b → q.blocks ≡ block_of q p
    near-beyond h = sym (block-after p (omega (arith, start_up q q.blocks b h, near.from)))

    pub near-lies : b < q.blocks → p < start q b + covered q b → b ≡ block_of q p
    near-lies h k = sym (block-lies h (record { from = near.from; to = k }))

    pub near-pads : b < q.blocks → start q b + covered q b ≤ p → q.blocks ≡ block_of q p
    near-pads h k = sym (pads-free b p k (near.to h))

  pub located-tail : (p : ℕ) {b : ℕ} → b ≡ block_of q p → q.blocks ≤ b → bit.Tail ≡ located q p
  unfolding located
  located-tail p e h = simp (sym e, le-ltb _ _ h)

  pub located-block : (p : ℕ) {b : ℕ} → b ≡ block_of q p → b < q.blocks → bit.InBlock b (exponent_at q b p) ≡ located q p
  unfolding located
  located-block p e h = simp (sym e, lt-ltb _ _ h)

-- What follows the used bits in the stream is in the tail.
pub block-past : (q : Plan) → Valid q → (p : ℕ) → used q ≤ p → block_of q p ≡ q.blocks
block-past q v p h = block-after q p (omega (arith, v.total))

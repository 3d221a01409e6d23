-- Laws of the round trip: what the writer, the mask, the look and the take leave adds up to its definition.
use mathlib.Core.Path.{◌≡◌, refl, sym, ap, ◌∙◌}
use mathlib.Core.Bool.{Bool, true, false, cond}
use mathlib.Core.List.{List, ◌++◌}
use Prim.Native.Nat.{ℕ, zero, ◌+◌, ◌*◌, ◌<◌}
use native.Mathlib.Omega.{arith}
use native.Mathlib.Decide.{ℕ_discrete}
use lib.ListN.{length, get_or}
use lib.Dec.{eqb}
use borrow.Author.Tests.{eqb-true, eq-eqb, ne_eqb}
use Rattle.bits.specs.Bits.{bit_of, run, Bytes}
use Rattle.bits.proofs.Runs.{run-cong}
use Rattle.bits.proofs.Pages.{bytes-length, bytes-bytes, bytes-bit}
use Rattle.replies.specs.declared.Refusal.{Refusal}
use Rattle.replies.specs.Replies.{verdict_number, verdict_block}
use Rattle.layout_plan.specs.Record.{Words}
use Rattle.layout_plan.specs.declared.Plan.{Plan}
use Rattle.layout.specs.Acceptance.{acceptance}
use Rattle.page_theory.specs.Page.{page_of}
use Rattle.page_theory.specs.Damage.{Accepts, Payload, flips, turn, WrittenAndDamaged}
use Rattle.page_theory.specs.Calls.{Written, write_ended, write_reply, write_in, write_of, look_ended, look_reply, look_of, take_ended, take_reply, take_of}
use Rattle.page_theory.proofs.Accepted.{write-accepted, look-accepted, take-accepted}
use Rattle.page_theory.proofs.Calls.{look-wrong, take-wrong}
use Rattle.page_theory.proofs.Damage.{mask_sets, mask-flips, mask-damaged}
use Rattle.page_theory.proofs.Demand2.{write_done}
use Rattle.page_theory.proofs.Demand3.{looks-back, takes_back}
use Rattle.std.specs.Prelude.{⊤, Result, Ok, Err}
use Rattle.roundtrip.specs.declared.Failure.{Failure}
use Rattle.roundtrip.specs.declared.Failure.TheVariants.{Refused, Mask}
use Rattle.roundtrip.specs.Mask.{named, allowed, overlaid}
use Rattle.roundtrip.specs.Round.{Round, round_ended, Back, back_ended, back_by, back_of, round_taken, round_read, round_in}
use Rattle.roundtrip.proofs.Masks.{Allowed, allowed-each}

-- a test that came out false of a number that is 0
never-zero : {A : Type 0} (n : ℕ) → eqb n 0 ≡ false → n ≡ 0 → A
never-zero n e h = let f = eq-eqb n 0 h in let z : ◌≡◌ {A = ℕ} 0 1 = cc in absurd (omega arith)

-- the calls, by their answers

pub write-told : (r : Result ⊤ Refusal) {n : ℕ} {page : List ℕ} {w : Written} → w.block ≡ 0 → n ≡ verdict_number r
    → write_ended (verdict_number r) (verdict_block r) page ≡ w → write_ended n 0 page ≡ w
write-told r {n} {page} b e h =
    let z : verdict_block r ≡ 0 = ap (λ (w : Written). w.block) h ∙ b in
    ap (λ y. write_ended y 0 page) e ∙ ap (λ k. write_ended (verdict_number r) k page) (sym z) ∙ h

-- a look that is refused ends the reading; after one that is not, the take does

pub back-refused : (r : Result ⊤ Refusal) {n : ℕ} {c : List ℕ} (rec : Words) (page m' d' c' : List ℕ)
    → look_ended (verdict_number r) (verdict_block r) c ≡ look_of rec page c' → n ≡ verdict_number r → (n ≡ 0 → ⊥) → back_ended n m' d' c ≡ back_of rec page m' d' c'
unfolding back_of back_by
back-refused r {n} {c} rec page m' d' c' e g h =
    let z : eqb (verdict_number r) 0 ≡ false = ne_eqb (verdict_number r) 0 (λ z. h (g ∙ z)) in
    rw (← e, z, g)

pub back-taken : (r s : Result ⊤ Refusal) {n k : ℕ} {m d c : List ℕ} (rec : Words) (page m' d' c' : List ℕ)
    → look_ended (verdict_number r) (verdict_block r) c ≡ look_of rec page c' → n ≡ verdict_number r → n ≡ 0
    → take_ended (verdict_number s) (verdict_block s) m d ≡ take_of rec page m' d' → k ≡ verdict_number s → back_ended k m d c ≡ back_of rec page m' d' c'
unfolding back_of back_by
back-taken r s {n} {k} rec page m' d' c' e f z g h =
    let x : eqb (verdict_number r) 0 ≡ true = eq-eqb (verdict_number r) 0 (sym f ∙ z) in
    rw (← e, x, ← g, h)

-- lengths that fit

record Fitting (q : Plan) (m d page : List ℕ) : Type 0 where
  metadata : length m ≡ q.metadata
  «data» : length d ≡ q.«data»
  size : length page ≡ q.size

write-fitting : (q : Plan) (m d page : List ℕ) → write_reply q (length m) (length d) (length page) ≡ 0 → Fitting q m d page
unfolding write_reply
write-fitting q m d page e = go (eqb (length page) q.size) refl (eqb (length m) q.metadata) refl (eqb (length d) q.«data») refl e
  where
    go : (x : Bool) → eqb (length page) q.size ≡ x → (y : Bool) → eqb (length m) q.metadata ≡ y
        → (z : Bool) → eqb (length d) q.«data» ≡ z → cond x (cond y (cond z zero 6) 6) 5 ≡ zero → Fitting q m d page
    go true ex true ey true ez e = record { metadata = eqb-true _ _ ey; «data» = eqb-true _ _ ez; size = eqb-true _ _ ex }
    go true ex true ey false ez e = absurd (omega arith)
    go true ex false ey z ez e = absurd (omega arith)
    go false ex y ey z ez e = absurd (omega arith)

take-fitting : (q : Plan) (m d : List ℕ) → take_reply q q.size (length m) (length d) ≡ 0 → (length m ≡ q.metadata) × (length d ≡ q.«data»)
unfolding take_reply
take-fitting q m d e = go (eqb q.size q.size) (eqb (length m) q.metadata) refl (eqb (length d) q.«data») refl e
  where
    go : (w x : Bool) → eqb (length m) q.metadata ≡ x → (y : Bool) → eqb (length d) q.«data» ≡ y
        → cond w (cond x (cond y zero 6) 6) 5 ≡ zero → (length m ≡ q.metadata) × (length d ≡ q.«data»)
    go true true ex true ey e = (eqb-true _ _ ex, eqb-true _ _ ey)
    go true true ex false ey e = absurd (omega arith)
    go true false ex y ey e = absurd (omega arith)
    go false x ex y ey e = absurd (omega arith)

look-fitting : (q : Plan) (c : List ℕ) → look_reply q q.size (length c) ≡ 0 → length c ≡ q.blocks
unfolding look_reply
look-fitting q c e = go (eqb q.size q.size) (eqb (length c) q.blocks) refl e
  where
    go : (w x : Bool) → eqb (length c) q.blocks ≡ x → cond w (cond x zero 6) 5 ≡ zero → length c ≡ q.blocks
    go true true ex e = eqb-true _ _ ex
    go true false ex e = absurd (omega arith)
    go false x ex e = absurd (omega arith)

-- the page that is written is damaged by an allowed mask

overlaid-bytes : (mask page : List ℕ) {n : ℕ} → length page ≡ n → Bytes n (overlaid mask page)
unfolding overlaid
overlaid-bytes mask page e = rw (← e) (bytes-bytes _ (length page))

overlaid-bit : (mask page : List ℕ) {n : ℕ} → length page ≡ n → (p : ℕ) → p < 8 * n → bit_of (overlaid mask page) p ≡ turn (bit_of mask p) (bit_of page p)
unfolding overlaid
overlaid-bit mask page e p l = bytes-bit _ (length page) p (omega arith)

page_of-length : (q : Plan) (lent d : List ℕ) → length (page_of q lent d) ≡ q.size
unfolding page_of
page_of-length q lent d = bytes-length _ q.size

module _ (rec : Words) (q : Plan) (h : Accepts (acceptance rec) q) (m d mask page m' d' c' : List ℕ) where
  -- a page that was not written
  pub trip-unwritten : {r : ℕ} {after : List ℕ} → write_ended r 0 after ≡ write_of rec m d page → (r ≡ 0 → ⊥)
      → round_ended (Err (Refused r)) after m' d' c' ≡ round_in q m d mask page m' d' c'
  unfolding round_in write_in
  trip-unwritten {r} {after} e n = go (eqb (write_reply q (length m) (length d) (length page)) 0) (e ∙ write-accepted (acceptance rec) q h m d page)
    where
      go : (b : Bool)
          → write_ended r 0 after ≡ cond b (write_ended 0 0 (page_of q page (m ++ d))) (write_ended (write_reply q (length m) (length d) (length page)) 0 page)
          → round_ended (Err (Refused r)) after m' d' c'
          ≡ cond b (cond (allowed q mask) (round_read q m d mask page m' d' c') (round_ended (Err Mask) (page_of q page (m ++ d)) m' d' c'))
          (round_ended (Err (Refused (write_reply q (length m) (length d) (length page)))) page m' d' c')
      go true e = absurd (n (ap (λ (w : Written). w.reply) e))
      go false e = rw (ap (λ (w : Written). w.reply) e, ap (λ (w : Written). w.page) e)

  -- what a page that was written has
  pub record Start (after : List ℕ) : Type 0 where
    pub reply : write_reply q (length m) (length d) (length page) ≡ 0
    pub stands : after ≡ page_of q page (m ++ d)

  pub trip-written : {r : ℕ} {after : List ℕ} → write_ended r 0 after ≡ write_of rec m d page → r ≡ 0 → Start after
  unfolding write_in
  trip-written {r} {after} e z =
      go (eqb (write_reply q (length m) (length d) (length page)) 0) refl (e ∙ write-accepted (acceptance rec) q h m d page)
    where
      go : (b : Bool) → eqb (write_reply q (length m) (length d) (length page)) 0 ≡ b
          → write_ended r 0 after ≡ cond b (write_ended 0 0 (page_of q page (m ++ d))) (write_ended (write_reply q (length m) (length d) (length page)) 0 page)
          → Start after
      go true x e = record { reply = eqb-true _ _ x; stands = ap (λ (w : Written). w.page) e }
      go false x e = never-zero _ x (sym (ap (λ (w : Written). w.reply) e) ∙ z)

  -- a mask that is not allowed
  pub trip-masked : {after : List ℕ} → Start after → false ≡ allowed q mask → round_ended (Err Mask) after m' d' c' ≡ round_in q m d mask page m' d' c'
  unfolding round_in
  trip-masked s n = rw (s.reply, ← n, s.stands)

  -- an allowed mask has the length of the written page
  pub trip-sizes : {after : List ℕ} → Start after → true ≡ allowed q mask → length mask ≡ length after
  trip-sizes s n = rw s.stands ((allowed-each q mask (sym n)).size ∙ sym (page_of-length q page (m ++ d)))

  -- the page after an allowed mask reads back
  module _ (small : (i : ℕ) → get_or m i 0 < 256) (small' : (i : ℕ) → get_or d i 0 < 256) where
    abbrev damaged_page : List ℕ
    damaged_page = overlaid mask (page_of q page (m ++ d))

    trip-damaged : Allowed q mask → Fitting q m d page → WrittenAndDamaged (acceptance rec) q m d damaged_page (mask_sets q mask)
    trip-damaged a f = record {
      payload = payload;
      lent = page;
      size = f.size;
      damaged = rw (write_done (acceptance rec) q h m d page payload f.size)
          (mask-damaged q h.valid (page_of q page (m ++ d)) damaged_page mask bytes-damaged bit-damaged (λ b l. unfold named in a.few b l));
    }
      where
        payload : Payload q m d
        payload = record { metadata = record { count = f.metadata; small = small }; «data» = record { count = f.«data»; small = small' } }

        bytes-damaged : Bytes q.size damaged_page
        bytes-damaged = overlaid-bytes mask (page_of q page (m ++ d)) (page_of-length q page (m ++ d))

        bit-damaged : (p : ℕ) → p < 8 * q.size → bit_of damaged_page p ≡ turn (bit_of mask p) (bit_of (page_of q page (m ++ d)) p)
        bit-damaged = overlaid-bit mask (page_of q page (m ++ d)) (page_of-length q page (m ++ d))

    abbrev flipped : List ℕ
    flipped = run (named q mask) 0 q.blocks

    abbrev looking : ℕ
    looking = look_reply q q.size (length c')

    abbrev taking : ℕ
    taking = take_reply q q.size (length m') (length d')

    trip-looked : Allowed q mask → Fitting q m d page → look_of rec damaged_page c' ≡ cond (eqb looking 0) (look_ended 0 0 flipped) (look_ended looking 0 c')
    unfolding named
    trip-looked a f = elim (ℕ_discrete looking 0) [
      | yes e ↦ looks-back (acceptance rec) q h m d damaged_page (mask_sets q mask) (trip-damaged a f) c' (look-fitting q c' e)
          ∙ ap (look_ended 0 0) (run-cong (flips q (mask_sets q mask)) (named q mask) 0 0 q.blocks (λ b l. mask-flips q mask (0 + b)))
          ∙ rw e
      | no n ↦ look-accepted (acceptance rec) q h damaged_page c' ∙ look-wrong q damaged_page c' (λ e. n (ap (λ k. look_reply q k (length c')) (sym size) ∙ e))
          ∙ ap (λ k. look_ended (look_reply q k (length c')) 0 c') size ∙ rw (ne_eqb looking 0 n)
    ]
      where
        size : length damaged_page ≡ q.size
        size = (trip-damaged a f).damaged.page.count

    trip-taken : Allowed q mask → Fitting q m d page → take_of rec damaged_page m' d' ≡ cond (eqb taking 0) (take_ended 0 0 m d) (take_ended taking 0 m' d')
    trip-taken a f = elim (ℕ_discrete taking 0) [
      | yes e ↦ (let fits = take-fitting q m' d' e in
          takes_back (acceptance rec) q h m d damaged_page (mask_sets q mask) (trip-damaged a f) m' d' fits.0 fits.1 ∙ rw e)
      | no n ↦ take-accepted (acceptance rec) q h damaged_page m' d'
          ∙ take-wrong q damaged_page m' d' (λ e. n (ap (λ k. take_reply q k (length m') (length d')) (sym size) ∙ e))
          ∙ ap (λ k. take_ended (take_reply q k (length m') (length d')) 0 m' d') size ∙ rw (ne_eqb taking 0 n)
    ]
      where
        size : length damaged_page ≡ q.size
        size = (trip-damaged a f).damaged.page.count

    -- how a trip ends that was read back
    abbrev ended : Back → Round
    ended b = round_ended (cond (eqb b.reply 0) (Ok _) (Err (Refused b.reply))) damaged_page b.metadata b.«data» b.counts

    trip-read : Allowed q mask → Fitting q m d page → ended (back_of rec damaged_page m' d' c') ≡ round_read q m d mask page m' d' c'
    unfolding back_of back_by round_read round_taken
    trip-read a f = rw (trip-looked a f, trip-taken a f) (go (eqb looking 0) refl (eqb taking 0) refl)
      where
        go : (x : Bool) → eqb looking 0 ≡ x → (y : Bool) → eqb taking 0 ≡ y
            → ended (back_by (cond x (look_ended 0 0 flipped) (look_ended looking 0 c')) (cond y (take_ended 0 0 m d) (take_ended taking 0 m' d')) m' d')
            ≡ cond x (cond y (round_ended (Ok _) damaged_page m d flipped) (round_ended (Err (Refused taking)) damaged_page m' d' flipped))
            (round_ended (Err (Refused looking)) damaged_page m' d' c')
        go true e true g = refl
        go true e false g = rw g
        go false e y g = rw e (rw e)

    trip-ended : {after damaged : List ℕ} {b : Back} → Start after → true ≡ allowed q mask → damaged ≡ overlaid mask after
        → b ≡ back_of rec damaged m' d' c'
        → round_ended (cond (eqb b.reply 0) (Ok _) (Err (Refused b.reply))) damaged b.metadata b.«data» b.counts ≡ round_in q m d mask page m' d' c'
    unfolding round_in
    trip-ended {after} {damaged} s a e b = rw (b, s.reply, ← a, same) (trip-read (allowed-each q mask (sym a)) (write-fitting q m d page s.reply))
      where
        same : damaged ≡ damaged_page
        same = e ∙ ap (overlaid mask) s.stands

    -- by the reply of the last call
    pub trip-done : {after damaged m₁ d₁ c₁ : List ℕ} {r : ℕ} → Start after → true ≡ allowed q mask → damaged ≡ overlaid mask after
        → back_ended r m₁ d₁ c₁ ≡ back_of rec damaged m' d' c' → r ≡ 0
        → round_ended (Ok _) damaged m₁ d₁ c₁ ≡ round_in q m d mask page m' d' c'
    trip-done {damaged = damaged} {m₁ = m₁} {d₁ = d₁} {c₁ = c₁} {r = r} s a e b z =
        sym (rw z) ∙ trip-ended s a e b

    pub trip-refused : {after damaged m₁ d₁ c₁ : List ℕ} {r : ℕ} → Start after → true ≡ allowed q mask → damaged ≡ overlaid mask after
        → back_ended r m₁ d₁ c₁ ≡ back_of rec damaged m' d' c' → (r ≡ 0 → ⊥)
        → round_ended (Err (Refused r)) damaged m₁ d₁ c₁ ≡ round_in q m d mask page m' d' c'
    trip-refused {damaged = damaged} {m₁ = m₁} {d₁ = d₁} {c₁ = c₁} {r = r} s a e b n =
        ap (λ (x : Result ⊤ Failure). round_ended x damaged m₁ d₁ c₁) (rw (ne_eqb r 0 n)) ∙ trip-ended s a e b

-- Where a message is cut does not matter, once over m and t (document 02, E4).
--
-- feed-append          of any state: feeding p and then q is feeding p ++ q
-- start-state          a block that is accepted, under an edition that is offered, starts in the state of no bytes
-- feed-state           feeding takes the state of l to the state of l ++ p
-- feed-over            a piece that would pass the length is 6, and the state is as it was
-- finish-state         finishing after all bytes gives the parity of the message, and the state is as it was
-- finish-short         finishing before that is 6, and finish-buffer: into a buffer of another length too
-- cutting              start, feed any pieces that make up the message, finish: the parity of the message
-- parity-last          the last mt bits of these bytes are the parity that a page has after the message
use mathlib.Core.Path.{◌≡◌, refl, sym, ap, ap₂, ◌∙◌}
use mathlib.Core.Bool.{Bool, true, false}
use mathlib.Core.List.{List, [], ◌∷◌, ◌++◌}
use Prim.Native.Nat.{ℕ, suc, ◌+◌, ◌-◌, ◌*◌, ◌/◌, ◌%◌, ◌^◌, ◌≤◌, ◌<◌}
use native.Mathlib.Omega.{arith}
use native.Mathlib.Nat.{add_assoc, mod-eq_of_lt, lt_of_lt_of_le}
use lib.ListN.{length, get_or, replicate, length-append, get_or-append}
use lib.Seq.{get_or-append-add}
use lib.Dec.{eqb, leb}
use lib.Pow.{pow_pos, pow_mono}
use borrow.Author.Tests.{leb-true}
use Rattle.replies.specs.Replies.{number as refusal-number}
use Rattle.replies.specs.Edition.{offered}
use Rattle.replies.proofs.Editions.{highest-small}
use Rattle.bits.specs.Bits.{bit, bit_at, bit_of, run, number, digits}
use Rattle.bits.proofs.Numbers.{digits-length, digits-at, number_digits}
use Rattle.bits.proofs.Runs.{run-append, run-cong, run-ext}
use Rattle.bits.proofs.Pages.{bytes_run}
use Rattle.field.specs.declared.Field.{Field}
use Rattle.field.specs.declared.Field.TheVariants.{Thirteen, Fourteen}
use Rattle.std.specs.Prelude.{Option}
use Rattle.std.specs.Prelude.{Some, None}
use Rattle.field.specs.Field.{degree, chosen}
use Rattle.code.specs.Generator.{remainder, parity}
use Rattle.code.specs.Register.{register}
use Rattle.code.proofs.Remainder.{remainder-below}
use Rattle.remainder.specs.Remainder.{bytes_for, bytes_of}
use Rattle.remainder.proofs.Fold.{parity-bits-below}
use Rattle.piece_parity.specs.Carried.{bits_of, carried}
use Rattle.piece_rules.specs.declared.State.{State}
use Rattle.piece_states.specs.State.{words_of, choice_of, state_of, after}
use Rattle.piece_rules.specs.Rules.{start_reply, usable}
use Rattle.piece_states.specs.Calls.{answered, finished, start_for, start_of, feed_in, feed_for, feed_of, finish_in, finish_for, finish_of}
use Rattle.pieces.specs.Cutting.{joined, feeds, parity_in}
use Rattle.piece_states.proofs.Words.{register-words}
use Rattle.piece_parity.proofs.Carrying.{carried-start, carried-append, carried-below}
use Rattle.piece_rules.proofs.Replies.{right-level, right-second, Going, usable-going, going-usable, finish-early, finish-bytes, finish-right}
use Rattle.piece_states.proofs.Replies.{start-done, feed-past, feed-taken, finish-refused, finish-done}

append_assoc : (u v w : List ℕ) → (u ++ v) ++ w ≡ u ++ (v ++ w)
append_assoc [] v w = refl
append_assoc (b ∷ u) v w = ap (λ x. b ∷ x) (append_assoc u v w)

append-nil : (u : List ℕ) → u ++ [] ≡ u
append-nil [] = refl
append-nil (b ∷ u) = ap (λ x. b ∷ x) (append-nil u)

-- The bits of bytes that are cut anywhere.
pub bits_of-append : (p q : List ℕ) → bits_of (p ++ q) ≡ bits_of p ++ bits_of q
unfolding bits_of bit_of bit_at
bits_of-append p q =
    let n : 8 * length (p ++ q) ≡ 8 * length p + 8 * length q = ap (λ k. 8 * k) (length-append p q) ∙ omega arith in
    let first : run (bit_of (p ++ q)) 0 (8 * length p) ≡ run (bit_of p) 0 (8 * length p) =
    run-cong (bit_of (p ++ q)) (bit_of p) 0 0 (8 * length p) (λ j h. ap (λ b. eqb (bit b (7 - (0 + j) % 8)) 1) (get_or-append p q 0 ((0 + j) / 8) (omega arith))) in
    let second : run (bit_of (p ++ q)) (0 + 8 * length p) (8 * length q) ≡ run (bit_of q) 0 (8 * length q) =
    run-cong (bit_of (p ++ q)) (bit_of q) (0 + 8 * length p) 0 (8 * length q)
    (λ j h.
    let d : (0 + 8 * length p + j) / 8 ≡ length p + (0 + j) / 8 = omega arith in
    let m : (0 + 8 * length p + j) % 8 ≡ (0 + j) % 8 = omega arith in
    rw (d, m) (ap (λ b. eqb (bit b (7 - (0 + j) % 8)) 1) (get_or-append-add p q ((0 + j) / 8) 0))) in
    rw n (run-append (bit_of (p ++ q)) 0 (8 * length p) (8 * length q) ∙ ap₂ ◌++◌ first second)

-- What is carried has room in fourteen words.
room : (f : Field) (level x : ℕ) → level ≤ 31 → x < 2 ^ (degree f * (2 * level)) → register (words_of x) ≡ x
room f level x h l =
    let b = parity-bits-below f (2 * level) (omega arith) in
    register-words x (lt_of_lt_of_le l (pow_mono {j = 896} (omega arith)))

-- ---- any state

module _ (f : Field) (s : State) (going : Going f s) where
  level-small : s.level ≤ 31
  level-small = omega (arith, right-level 2 f s.level s.size going.right, highest-small 2)

  after-register : (p : List ℕ) → register (after f s p).words ≡ carried f (2 * s.level) (register s.words) (bits_of p)
  unfolding after
  after-register p = room f s.level _ (let l = level-small in omega arith) (carried-below f (2 * s.level) (let l = level-small in omega arith) (register s.words) (bits_of p) going.below)

  after-going : (p : List ℕ) → s.fed + length p ≤ s.size → Going f (after f s p)
  unfolding after
  after-going p l = record {
    right = going.right;
    inside = l;
    below = rw (after-register p) (carried-below f (2 * s.level) (let h = level-small in omega arith) (register s.words) (bits_of p) going.below);
  }

  after-append : (p q : List ℕ) → after f (after f s p) q ≡ after f s (p ++ q)
  unfolding after
  after-append p q =
      rw (after-register p, carried-append f (2 * s.level) (register s.words) (bits_of p) (bits_of q) going.below, ← bits_of-append p q, length-append p q, add_assoc s.fed (length p) (length q))

taken : (f : Field) (s : State) (p : List ℕ) → Going f s → s.fed + length p ≤ s.size → feed_in f s p ≡ answered 0 (after f s p)
taken f s p g l = sym (feed-taken f s p (going-usable f s g) l refl)

-- what holds where a piece is taken
record Fits (f : Field) (s : State) (p : List ℕ) : Type 0 where
  going : Going f s
  short : s.fed + length p ≤ s.size

taken-fits : (f : Field) (s : State) (p : List ℕ) → (feed_in f s p).reply ≡ 0 → Fits f s p
unfolding feed_in refusal-number
taken-fits f s p = go (usable f s) (leb (s.fed + length p) s.size) refl refl
  where
    go : (a b : Bool) → usable f s ≡ a → leb (s.fed + length p) s.size ≡ b → (feed_in f s p).reply ≡ 0 → Fits f s p
    go true true ea eb h = record { going = usable-going f s ea; short = leb-true (s.fed + length p) s.size eb }
    go true false ea eb h = let z : ◌≡◌ {A = ℕ} 6 0 = rw (ea, eb) at h in absurd (omega arith)
    go false b ea eb h = let z : ◌≡◌ {A = ℕ} 7 0 = rw ea at h in absurd (omega arith)

fits_after : (f : Field) (s : State) (p q : List ℕ) → s.fed + length (p ++ q) ≤ s.size → (after f s p).fed + length q ≤ (after f s p).size
unfolding after
fits_after f s p q h = let n = length-append p q in omega arith

feed_in-append : (f : Field) (s : State) (p q : List ℕ) → (feed_in f s (p ++ q)).reply ≡ 0 → feed_in f (feed_in f s p).state q ≡ feed_in f s (p ++ q)
feed_in-append f s p q h =
    let fits = taken-fits f s (p ++ q) h in
    let g = fits.going in
    let n = length-append p q in
    let lp : s.fed + length p ≤ s.size = omega (arith, fits.short) in
    ap (λ a. feed_in f a.state q) (taken f s p g lp)
    ∙ taken f (after f s p) q (after-going f s g p lp) (fits_after f s p q fits.short)
    ∙ ap (answered 0) (after-append f s g p q)
    ∙ sym (taken f s (p ++ q) g fits.short)

-- the field choice of a state is the same after a piece
choice-kept : (c : Option Field) (s : State) (p : List ℕ) → (feed_for c s p).state.choice ≡ s.choice
unfolding feed_for feed_in after refusal-number
choice-kept None s p = refl
choice-kept (Some f) s p = go (usable f s) (leb (s.fed + length p) s.size) refl refl
  where
    go : (a b : Bool) → usable f s ≡ a → leb (s.fed + length p) s.size ≡ b → (feed_for (Some f) s p).state.choice ≡ s.choice
    go true true ea eb = rw (ea, eb)
    go true false ea eb = rw (ea, eb)
    go false b ea eb = rw ea

feed_for-append : (c : Option Field) (s : State) (p q : List ℕ) → (feed_for c s (p ++ q)).reply ≡ 0 → feed_for c (feed_for c s p).state q ≡ feed_for c s (p ++ q)
unfolding feed_for refusal-number
feed_for-append (Some f) s p q h = feed_in-append f s p q h
feed_for-append None s p q h = absurd (omega arith)

pub feed-append : (s : State) (p q : List ℕ) → (feed_of s (p ++ q)).reply ≡ 0 → feed_of (feed_of s p).state q ≡ feed_of s (p ++ q)
unfolding feed_of
feed-append s p q h = rw (choice-kept (chosen s.choice) s p) (feed_for-append (chosen s.choice) s p q h)

-- ---- the state of a message

chosen-choice : (f : Field) → chosen (choice_of f) ≡ Some f
unfolding chosen choice_of
chosen-choice Thirteen = refl
chosen-choice Fourteen = refl

module _ (f : Field) (level n : ℕ) (right : start_reply 2 f level n ≡ 0) where
  low : level ≤ 31
  low = omega (arith, right-level 2 f level n right, highest-small 2)

  below : (l : List ℕ) → remainder f (2 * level) (bits_of l ++ replicate (degree f * (2 * level)) false) < 2 ^ (degree f * (2 * level))
  below l = remainder-below f (2 * level) _ (let h = low in omega arith)

  state-register : (l : List ℕ) → register (state_of f level n l).words ≡ remainder f (2 * level) (bits_of l ++ replicate (degree f * (2 * level)) false)
  unfolding state_of
  state-register l = room f level _ (let h = low in omega arith) (below l)

  state-going : (l : List ℕ) → length l ≤ n → Going f (state_of f level n l)
  unfolding state_of
  state-going l h = record { right = right; inside = h; below = rw (state-register l) (below l) }

  state-after : (l p : List ℕ) → after f (state_of f level n l) p ≡ state_of f level n (l ++ p)
  unfolding after state_of
  state-after l p =
      rw (
        state-register l,
        ← carried-start f (2 * level) (bits_of l),
        carried-append f (2 * level) 0 (bits_of l) (bits_of p) (pow_pos _),
        ← bits_of-append l p,
        carried-start f (2 * level) (bits_of (l ++ p)),
        length-append l p,
      )

  fed-in : (l p : List ℕ) → feed_of (state_of f level n l) p ≡ feed_in f (state_of f level n l) p
  unfolding feed_of feed_for state_of refusal-number
  fed-in l p = rw (chosen-choice f)

  room-left : (l p : List ℕ) → length (l ++ p) ≤ n → (state_of f level n l).fed + length p ≤ (state_of f level n l).size
  unfolding state_of
  room-left l p h = omega (arith, length-append l p)

  room-over : (l p : List ℕ) → n < length (l ++ p) → (state_of f level n l).size < (state_of f level n l).fed + length p
  unfolding state_of
  room-over l p h = omega (arith, length-append l p)

  pub feed-state : (l p : List ℕ) → length (l ++ p) ≤ n → feed_of (state_of f level n l) p ≡ answered 0 (state_of f level n (l ++ p))
  feed-state l p h =
      fed-in l p
      ∙ taken f (state_of f level n l) p (state-going l (omega (arith, length-append l p))) (room-left l p h)
      ∙ ap (answered 0) (state-after l p)

  pub feed-over : (l p : List ℕ) → length l ≤ n → n < length (l ++ p) → feed_of (state_of f level n l) p ≡ answered 6 (state_of f level n l)
  feed-over l p k h =
      fed-in l p ∙ sym (feed-past f (state_of f level n l) p (going-usable f (state_of f level n l) (state-going l k)) (room-over l p h))

  -- all pieces, each of them taken
  pub feeds-state : (l : List ℕ) (ps : List (List ℕ)) → length (l ++ joined ps) ≤ n → feeds (state_of f level n l) ps ≡ state_of f level n (l ++ joined ps)
  unfolding feeds joined
  feeds-state l [] h = rw (append-nil l)
  feeds-state l (p ∷ ps) h =
      let e : l ++ (p ++ joined ps) ≡ (l ++ p) ++ joined ps = sym (append_assoc l p (joined ps)) in
      let k : length ((l ++ p) ++ joined ps) ≤ n = rw e at h in
      let c = length-append (l ++ p) (joined ps) in
      rw (feed-state l p (omega arith), e) (feeds-state (l ++ p) ps k)

  finished-in : (l b : List ℕ) → finish_of (state_of f level n l) b ≡ finish_in f (state_of f level n l) b
  unfolding finish_of finish_for state_of refusal-number
  finished-in l b = rw (chosen-choice f)

  number-parity : (l : List ℕ) → number (parity f (2 * level) (bits_of l)) ≡ remainder f (2 * level) (bits_of l ++ replicate (degree f * (2 * level)) false)
  unfolding parity
  number-parity l = number_digits _ (degree f * (2 * level)) ∙ mod-eq_of_lt (below l)

  pub finish-state : (l b : List ℕ) → length l ≡ n → length b ≡ bytes_for (degree f * (2 * level))
      → finish_of (state_of f level n l) b ≡ finished (answered 0 (state_of f level n l)) (parity_in f (2 * level) l)
  unfolding parity_in
  finish-state l b e k =
      let s : State = state_of f level n l in
      let u = going-usable f s (state-going l (omega arith)) in
      finished-in l b
      ∙ sym (finish-done f s b (sym (finish-right f s (length b) u (unfold state_of in e) (unfold state_of in k))) refl)
      ∙ ap (finished (answered 0 s)) (rw (k, number-parity l, state-register l))

  pub finish-short : (l b : List ℕ) → length l < n → finish_of (state_of f level n l) b ≡ finished (answered 6 (state_of f level n l)) b
  finish-short l b h =
      let s : State = state_of f level n l in
      let u = going-usable f s (state-going l (omega arith)) in
      finished-in l b ∙ sym (finish-refused f s b (finish-early f s (length b) u (λ e. let z : length l ≡ n = unfold state_of in e in omega arith)) (λ z. omega arith))

  pub finish-buffer : (l b : List ℕ) → length l ≡ n → (length b ≡ bytes_for (degree f * (2 * level)) → ⊥)
      → finish_of (state_of f level n l) b ≡ finished (answered 6 (state_of f level n l)) b
  finish-buffer l b e h =
      let s : State = state_of f level n l in
      let u = going-usable f s (state-going l (omega arith)) in
      finished-in l b ∙ sym (finish-refused f s b (finish-bytes f s (length b) u (unfold state_of in e) (unfold state_of in h)) (λ z. omega arith))

module _ (edition : ℕ) (f : Field) (level n : ℕ) (known : offered edition ≡ true) (right : start_reply edition f level n ≡ 0) where
  pub start-state : (s : State) → start_of s edition level (choice_of f) n ≡ answered 0 (state_of f level n [])
  unfolding start_of start_for refusal-number
  start-state s = rw (known, chosen-choice f) (sym (start-done f s edition level n right refl))

  -- A message in any pieces: finishing gives the parity of the whole.
  pub cutting : (s : State) (ps : List (List ℕ)) (b : List ℕ) → length (joined ps) ≡ n → length b ≡ bytes_for (degree f * (2 * level))
      → finish_of (feeds (start_of s edition level (choice_of f) n).state ps) b ≡ finished (answered 0 (state_of f level n (joined ps))) (parity_in f (2 * level) (joined ps))
  cutting s ps b e k =
      let second = right-second edition f level n right in
      rw (start-state s, feeds-state f level n second [] ps (omega arith)) (finish-state f level n second (joined ps) b e k)

-- The last mt bits of a parity's bytes are the parity; the bits before them are zeros.
pub parity-last : (f : Field) (level : ℕ) (l : List ℕ) → level ≤ 31
    → run (bit_of (parity_in f (2 * level) l)) (8 * bytes_for (degree f * (2 * level)) - degree f * (2 * level)) (degree f * (2 * level)) ≡ parity f (2 * level) (bits_of l)
unfolding parity_in bytes_of bytes_for parity
parity-last f level l h =
    let d : ℕ = degree f * (2 * level) in
    let k : ℕ = (d + 7) / 8 in
    let x : ℕ = remainder f (2 * level) (bits_of l ++ replicate d false) in
    let e : number (digits x d) ≡ x = number_digits x d ∙ mod-eq_of_lt (remainder-below f (2 * level) _ (omega arith)) in
    rw e (bytes_run (λ p. get_or (digits x (8 * k)) p false) k (8 * k - d) d (omega arith)
    ∙ run-ext (λ p. get_or (digits x (8 * k)) p false) (8 * k - d) (digits x d) d false (digits-length x d)
    (λ j m.
    let a : 8 * k - suc (8 * k - d + j) ≡ d - suc j = omega arith in
    digits-at x (8 * k) (8 * k - d + j) false (omega arith) ∙ rw a (sym (digits-at x d j false m))))

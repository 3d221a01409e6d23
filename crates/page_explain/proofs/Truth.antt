-- The flips that are listed are true, and all of them: each position is that of a covered bit in which page and codeword differ, no such bit is
-- missing, the positions ascend, and each is answered as a bit of the block.
--
-- FlipAt q page b c p    position p of the page is a covered bit of block b, and page and codeword c differ there
-- flip-each              each listed position is such a bit
-- flip-all               each such bit is listed
-- flip-ascending         each listed position is larger than the one before
-- flip-belongs           Bits answers each listed position with the block, and an exponent of it
use mathlib.Core.Path.{◌≡◌, sym, ap, ◌∙◌}
use mathlib.Core.Bool.{Bool, true, false}
use mathlib.Core.List.{List, [], ◌∷◌}
use Prim.Native.Nat.{ℕ, zero, suc, ◌+◌, ◌-◌, ◌*◌, ◌<◌}
use native.Mathlib.Omega.{arith}
use native.Mathlib.Decide.{dec_lt}
use lib.ListN.{length, get_or}
use Rattle.bits.specs.Bits.{bit_of}
use Rattle.bits.proofs.Runs.{run_at}
use Rattle.algebra.specs.Word.{differ}
use Rattle.mark.specs.Mark.{place, stream_bit}
use Rattle.mark.proofs.Places.{place-before, place_after}
use Rattle.layout_plan.specs.declared.Plan.{Plan}
use Rattle.layout_plan.specs.Plan.{covered, start, Valid}
use Rattle.layout.specs.Bits.{position_at}
use Rattle.page_bits.proofs.Inverse.{Belongs}
use Rattle.code.specs.Word.{Word, descending}
use Rattle.code.specs.Locations.{listed}
use Rattle.code.proofs.Distance.{coefficient, coefficient-head, coefficient-tail}
use Rattle.code.proofs.Flips.{each_below}
use Rattle.code.proofs.Locations.{listed_below, listed-falls}
use Rattle.page_theory.specs.Page.{block_word}
use Rattle.page_theory.proofs.Blocks.{block_word-length}
use Rattle.page_explain.specs.Explain.{differing, position_of, flips}
use Rattle.page_explain.proofs.Listing.{differing-length, differing-at, positions-length, positions-at}
use Rattle.page_explain.proofs.Positions.{position-belongs-to}

-- a listed exponent has a one, and each exponent with a one is listed

listed-one : (s : Word) (i : ℕ) → i < length (listed s) → coefficient s (get_or (listed s) i 0) ≡ true
unfolding listed descending
listed-one [] i l = absurd (omega arith)
listed-one (true ∷ s) zero l = coefficient-head true s
listed-one (true ∷ s) (suc i) l =
    let b : get_or (listed s) i 0 < length s = each_below (length s) (listed s) (listed_below s) i (omega arith) in
    coefficient-tail true s _ b ∙ listed-one s i (omega arith)
listed-one (false ∷ s) i l =
    let b : get_or (listed s) i 0 < length s = each_below (length s) (listed s) (listed_below s) i l in
    coefficient-tail false s _ b ∙ listed-one s i l

abbrev Found : ℕ → Word → Type 0
Found p s = (i : ℕ) × (i < length (listed s)) × (get_or (listed s) i 0 ≡ p)

listed-all : (s : Word) (p : ℕ) → p < length s → coefficient s p ≡ true → Found p s
unfolding listed descending
listed-all [] p l h = absurd (omega arith)
listed-all (b ∷ s) p l h = go b (dec_lt p (length s)) h (listed-all s p)
  where
    go : (b : Bool) → Dec (p < length s) → coefficient (b ∷ s) p ≡ true → (p < length s → coefficient s p ≡ true → Found p s) → Found p (b ∷ s)
    go true (yes k) h r = let x = r k (sym (coefficient-tail true s p k) ∙ h) in (suc x.0, omega (arith, x.1), x.2)
    go false (yes k) h r = let x = r k (sym (coefficient-tail false s p k) ∙ h) in (x.0, x.1, x.2)
    go true (no k) h r = (0, omega arith, omega arith)
    go false (no k) h r =
        let e : p ≡ length s = omega arith in
        let z : false ≡ true = sym (coefficient-head false s) ∙ (rw e at h) in
        let y : ◌≡◌ {A = ℕ} 0 1 = cc z in absurd (omega arith)

pub record FlipAt (q : Plan) (page : List ℕ) (b : ℕ) (c : Word) (p : ℕ) : Type 0 where
  pub at : ℕ
  pub low : at < covered q b
  pub is : p ≡ place q.mark (start q b + at)
  pub differs : differ (bit_of page p) (get_or c at false) ≡ true

module _ (q : Plan) (page : List ℕ) (b : ℕ) (c : Word) (same : length c ≡ covered q b) where
  w : Word
  w = block_word q page b

  s : Word
  s = differing w c

  w-length : length c ≡ length (block_word q page b)
  w-length = same ∙ sym (block_word-length q page b)

  s-length : length (differing (block_word q page b) c) ≡ covered q b
  s-length = differing-length (block_word q page b) c w-length ∙ block_word-length q page b

  -- the bit at a place of the block
  s-at : (j : ℕ) → j < covered q b → get_or (differing (block_word q page b) c) j false ≡ differ (stream_bit q.mark page (start q b + j)) (get_or c j false)
  unfolding block_word
  s-at j l =
      differing-at (block_word q page b) c j w-length (omega (arith, block_word-length q page b))
      ∙ ap (λ x. differ x (get_or c j false)) (run_at (stream_bit q.mark page) (start q b) (covered q b) j false l)

  s-coefficient : (e : ℕ) → coefficient (differing (block_word q page b) c) e ≡ get_or (differing (block_word q page b) c) (covered q b - suc e) false
  unfolding coefficient
  s-coefficient e = ap (λ n. get_or (differing (block_word q page b) c) (n - suc e) false) s-length

  count : length (flips q b (block_word q page b) c) ≡ length (listed (differing (block_word q page b) c))
  unfolding flips
  count = positions-length q b (listed (differing (block_word q page b) c))

  exponent : ℕ → ℕ
  exponent i = get_or (listed (differing (block_word q page b) c)) i 0

  module _ (i : ℕ) (l : i < length (flips q b (block_word q page b) c)) where
    flip-position : get_or (flips q b (block_word q page b) c) i 0 ≡ place q.mark (start q b + (covered q b - 1 - exponent i))
    unfolding flips position_of position_at exponent
    flip-position = positions-at q b (listed (differing (block_word q page b) c)) i (omega (arith, count))

    exponent-low : exponent i < covered q b
    unfolding exponent
    exponent-low =
        let r = each_below _ (listed (differing (block_word q page b) c)) (listed_below (differing (block_word q page b) c)) i (omega (arith, count)) in
        omega (arith, r, s-length)

    pub flip-each : FlipAt q page b c (get_or (flips q b (block_word q page b) c) i 0)
    unfolding exponent stream_bit
    flip-each =
        let low = exponent-low in
        let j : covered q b - suc (exponent i) ≡ covered q b - 1 - exponent i = omega arith in
        record {
          at = covered q b - 1 - exponent i;
          low = omega arith;
          is = flip-position;
          differs = rw flip-position (sym (s-at (covered q b - 1 - exponent i) (omega arith)) ∙ ap (λ k. get_or (differing (block_word q page b) c) k false) (sym j)
              ∙ sym (s-coefficient (exponent i)) ∙ listed-one (differing (block_word q page b) c) i (omega (arith, count)));
        }

  pub flip-all : (j : ℕ) → j < covered q b → differ (stream_bit q.mark page (start q b + j)) (get_or c j false) ≡ true
      → (i : ℕ) × (i < length (flips q b (block_word q page b) c)) × (get_or (flips q b (block_word q page b) c) i 0 ≡ place q.mark (start q b + j))
  unfolding exponent
  flip-all j l h =
      let e : covered q b - suc (covered q b - suc j) ≡ j = omega arith in
      let d = s-coefficient (covered q b - suc j) ∙ ap (λ k. get_or (differing (block_word q page b) c) k false) e ∙ s-at j l ∙ h in
      let x = listed-all (differing (block_word q page b) c) (covered q b - suc j) (omega (arith, s-length)) d in
      let m : x.0 < length (flips q b (block_word q page b) c) = omega (arith, count, x.1) in
      let f : covered q b - 1 - exponent x.0 ≡ j = omega (arith, x.2) in
      (x.0, m, flip-position x.0 m ∙ ap (λ k. place q.mark (start q b + k)) f)

  -- a stream position further on stands further on in the page
  place_up : (x y : ℕ) → x < y → place q.mark x < place q.mark y
  place_up x y l = elim (dec_lt x (8 * q.mark.offset)) [
    | yes k ↦ elim (dec_lt y (8 * q.mark.offset)) [
      | yes m ↦ rw (place-before q.mark x k, place-before q.mark y m) l
      | no m ↦ rw (place-before q.mark x k, place_after q.mark y (omega arith)) (omega arith)
    ]
    | no k ↦ rw (place_after q.mark x (omega arith), place_after q.mark y (omega arith)) (omega arith)
  ]

  pub flip-ascending : (i j : ℕ) → i < j → j < length (flips q b (block_word q page b) c)
      → get_or (flips q b (block_word q page b) c) i 0 < get_or (flips q b (block_word q page b) c) j 0
  unfolding exponent
  flip-ascending i j l m =
      let f = listed-falls (differing (block_word q page b) c) i j l (omega (arith, count)) in
      let low = exponent-low i (omega arith) in
      rw (flip-position i (omega arith), flip-position j m) (place_up _ _ (omega arith))

  pub flip-belongs : Valid q → b < q.blocks → (i : ℕ) → i < length (flips q b (block_word q page b) c)
      → (e : ℕ) × Belongs q (get_or (flips q b (block_word q page b) c) i 0) b e
  unfolding position_of position_at
  flip-belongs v inside i l = (exponent i, rw (flip-position i l) (position-belongs-to q b (exponent i) inside (exponent-low i l)))

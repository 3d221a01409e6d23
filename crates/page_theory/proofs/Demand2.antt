-- Demand 2. "A written page is the one that the layout words and the BCH definition in document 01 give, tail bits included.
-- A page that is read gives, block by block, the message of a codeword at most t bit flips away, and the reported flips are
-- exactly that distance." Document 02, E1, adds the erased block: there is no such codeword, the covered bits hold at most t zeros,
-- the message is all ones, and the count is 128 plus the zeros. Document 02, E6, parts reading: looking gives the counts, 255 for a ruined
-- block, and taking gives the messages. Document 02, E7, leaves the mark out: a written page has there what the lent page held.
use Rattle.std.specs.Prelude.{Result}
use Rattle.layout.specs.declared.Refusal.{Refusal}
use Rattle.layout_plan.specs.declared.Layout.{Layout}
use mathlib.Core.Path.{◌≡◌, refl, sym, ap, ◌∙◌, subst}
use mathlib.Core.Bool.{true, false}
use mathlib.Core.List.{List, ◌++◌}
use Prim.Native.Nat.{ℕ, ◌+◌, ◌*◌, ◌<◌}
use native.Mathlib.Omega.{arith}
use native.Mathlib.Decide.{ℕ_discrete}
use lib.ListN.{length, get_or}
use Rattle.bits.specs.Bits.{bit_of}
use Rattle.bits.proofs.Runs.{run-cong}
use Rattle.mark.specs.Mark.{marked, stream_bit}
use Rattle.layout_plan.specs.declared.Plan.{Plan}
use Rattle.layout_plan.specs.Plan.{bits, field, level, room, from, payload, Valid}
use Rattle.layout.specs.Bits.{block_of}
use Rattle.code.specs.Word.{Word}
use Rattle.code.specs.Code.{Codeword}
use Rattle.code.specs.Generator.{parity}
use Rattle.page_theory.specs.Page.{message, written, page_of, block_word}
use Rattle.page_theory.specs.Reading.{GivesAt, Reading, done, refused, outcome, reading, count_of, counts}
use Rattle.page_theory.specs.Damage.{Accepts, Payload}
use Rattle.page_theory.specs.Demands.{Stands, Looks, Takes, Reads}
use Rattle.page_theory.specs.Calls.{write_ended, write_for, Looked, look_reply, look_by, look_in, look_for}
use Rattle.page_theory.specs.Calls.{Taken, take_reply, bytes_at, take_by, take_in, take_for}
use Rattle.page_theory.proofs.Blocks.{written-code, page-block, page-tail, page-mark}
use Rattle.page_theory.proofs.Writing.{stands-page}
use Rattle.page_theory.proofs.Reading.{from-order, reading-parts, counts-at, counts-length, counts-reported}
use Rattle.page_theory.proofs.Calls.{bytes_at-bytes, bytes_at-join, write-right, look-right, look-wrong, take-wrong}
use Rattle.page_theory.proofs.Accepted.{write-accepted, look-accepted, take-accepted}

module _ (a : Result Layout Refusal) (q : Plan) (accepted : Accepts a q) where
  -- "A written page is the one that the layout words and the BCH definition give."
  module _ (m d page : List ℕ) (payload : Payload q m d) (lent : length page ≡ q.size) where
    pub write_done : write_for a m d page ≡ write_ended 0 0 (page_of q page (m ++ d))
    write_done = write-accepted a q accepted m d page ∙ write-right q m d page lent payload

    -- Block by block it holds the message followed by the parity,
    pub write-blocks : (b : ℕ) → b < q.blocks
        → block_word q (write_for a m d page).page b ≡ message q (m ++ d) b ++ parity (field q b) (level q b) (message q (m ++ d) b)
    write-blocks b l = rw write_done (page-block q page (m ++ d) accepted.valid b l ∙ (unfold written in refl))

    -- which is a codeword of the block's level,
    pub write-codewords : (b : ℕ) → b < q.blocks
        → Codeword (field q b) (level q b) (block_word q (write_for a m d page).page b)
    write-codewords b l = let v = accepted.valid in
        rw (write_done, page-block q page (m ++ d) v b l) (written-code q (m ++ d) b (v.strong b l))

    -- "tail bits included": the bits of no block are ones, the pads among them (document 02, E12).
    pub write-tail : (p : ℕ) → block_of q p ≡ q.blocks → p < room q → stream_bit q.mark (write_for a m d page).page p ≡ true
    write-tail p h l = rw write_done (page-tail q accepted.valid page (m ++ d) p h l)

    -- The mark is the lent page's.
    pub write-mark : (p : ℕ) → p < 8 * q.size → marked q.mark p ≡ true → bit_of (write_for a m d page).page p ≡ bit_of page p
    write-mark p l e = rw write_done (page-mark q page (m ++ d) p l e)

    -- No other page has these blocks, this tail and this mark.
    pub write-only : (other : List ℕ) → Stands q page (m ++ d) other → other ≡ (write_for a m d page).page
    write-only other h = rw write_done (stands-page q accepted.valid page (m ++ d) other h)

-- what a page gives that is looked at

module _ (q : Plan) (page : List ℕ) where
  by-looked : (r : Reading) → (look_by r (counts q page)).counts ≡ counts q page
  unfolding look_by
  by-looked (done w) = refl
  by-looked (refused b) = refl

  in-looked : (c : List ℕ) → length page ≡ q.size → length c ≡ q.blocks → (look_in q page c).counts ≡ counts q page
  in-looked c a l = rw (look-right q page c a l) (by-looked (reading q page))

  -- with reply 0, whatever was lent
  in-counts : (c : List ℕ) → (look_in q page c).reply ≡ 0 → (look_in q page c).counts ≡ counts q page
  unfolding look_in
  in-counts c h = elim (ℕ_discrete (look_reply q (length page) (length c)) 0) [
    | yes e ↦ rw e (by-looked (reading q page))
    | no n ↦ absurd (n (ap (λ (r : Looked). r.reply) (sym (look-wrong q page c n)) ∙ h))
  ]

-- and what one that is taken

-- The blocks give the messages of the payload, and what is reported of each belongs to it.
record Gave (q : Plan) (page : List ℕ) (r : Taken) : Type 0 where
  payload : Payload q r.metadata r.«data»
  blocks : (b : ℕ) → b < q.blocks → GivesAt q page b (message q (r.metadata ++ r.«data») b) (count_of (outcome q page b))

module _ (q : Plan) (v : Valid q) (page m d : List ℕ) where
  by-taken : (r : Reading) → reading q page ≡ r → (take_by q r m d).reply ≡ 0 → Gave q page (take_by q r m d)
  unfolding take_by message
  by-taken (refused b) e h = absurd (omega arith)
  by-taken (done w) e h = let p = reading-parts q v page w e in record {
    payload = record { metadata = bytes_at-bytes w 0 q.metadata; «data» = bytes_at-bytes w (8 * q.metadata) q.«data» };
    blocks = λ b k.
        subst (λ (x : Word). GivesAt q page b x (count_of (outcome q page b)))
        (run-cong _ _ (from q b) (from q b) (bits q b) (λ j i. sym (same b j k i))) (p.each b k);
  }
    where
      same : (b j : ℕ) → b < q.blocks → j < bits q b
          → bit_of (bytes_at w 0 q.metadata ++ bytes_at w (8 * q.metadata) q.«data») (from q b + j) ≡ get_or w (from q b + j) false
      same b j k i = bytes_at-join w q.metadata q.«data» (from q b + j)
          (let o = from-order q b q.blocks k in let w = v.whole in unfold payload in omega arith)

  in_taken : (take_in q page m d).reply ≡ 0 → Gave q page (take_in q page m d)
  unfolding take_in
  in_taken h = elim (ℕ_discrete (take_reply q (length page) (length m) (length d)) 0) [
    | yes e ↦ rw e (by-taken (reading q page) refl (rw e at h))
    | no n ↦ absurd (n (ap (λ (r : Taken). r.reply) (sym (take-wrong q page m d n)) ∙ h))
  ]

module _ (a : Result Layout Refusal) (q : Plan) (accepted : Accepts a q) (page : List ℕ) where
  take-gave : (m d : List ℕ) → (take_for a page m d).reply ≡ 0 → Gave q page (take_for a page m d)
  take-gave m d h = let e = take-accepted a q accepted page m d in
      rw e (in_taken q accepted.valid page m d (ap (λ (r : Taken). r.reply) (sym e) ∙ h))

  look-counts : (c : List ℕ) → (look_for a page c).reply ≡ 0 → (look_for a page c).counts ≡ counts q page
  look-counts c h = let e = look-accepted a q accepted page c in rw e (in-counts q page c (ap (λ (r : Looked). r.reply) (sym e) ∙ h))

  -- "A page that is read gives, block by block, the message of a codeword at most t bit flips away, and the reported flips are
  -- exactly that distance." Whatever was lent: reply 0 of both says that the page was read.
  pub read-blocks : (c m d : List ℕ) → (look_for a page c).reply ≡ 0 → (take_for a page m d).reply ≡ 0
      → Reads q page (look_for a page c) (take_for a page m d)
  read-blocks c m d h k = let e = look-counts c h in let g = take-gave m d k in record {
    payload = g.payload;
    counts = ap length e ∙ counts-length q page;
    blocks = λ b l. rw (e, counts-at q page b l) (g.blocks b l);
  }

  -- Taking by itself, whether or not the page is looked at.
  pub take-blocks : (m d : List ℕ) → (take_for a page m d).reply ≡ 0 → Takes q page (take_for a page m d)
  take-blocks m d h = let g = take-gave m d h in record { payload = g.payload; blocks = λ b l. (_, g.blocks b l) }

  -- Looking by itself, under reply 9 too: with right lengths it reports of every block what it gives, or 255 where it is ruined.
  pub look-blocks : (c : List ℕ) → length page ≡ q.size → length c ≡ q.blocks → Looks q page (look_for a page c)
  look-blocks c size lent = let e = ap (λ (r : Looked). r.counts) (look-accepted a q accepted page c) ∙ in-looked q page c size lent in record {
    counts = ap length e ∙ counts-length q page;
    blocks = λ b l. rw (e, counts-at q page b l) (counts-reported q page b);
  }

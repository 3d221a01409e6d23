-- Demand 3, of any accepted layout and of the calls as they are lent anything: two different payloads never make the same page,
-- every page that was written and damaged reads back, and a page is refused exactly where a block is ruined. Document 02, E6: reading back is
-- looking, then taking the same page, and each of the two refuses so.
use Rattle.std.specs.Prelude.{Result}
use Rattle.layout.specs.declared.Refusal.{Refusal}
use Rattle.layout_plan.specs.declared.Layout.{Layout}
use mathlib.Core.Path.{◌≡◌, refl, sym, ap, ◌∙◌}
use mathlib.Core.Bool.{Bool}
use mathlib.Core.List.{List, ◌++◌}
use Prim.Native.Nat.{ℕ, ◌<◌}
use native.Mathlib.Omega.{arith}
use lib.ListN.{length}
use Rattle.bits.specs.Bits.{run}
use Rattle.layout_plan.specs.declared.Plan.{Plan}
use Rattle.layout_plan.specs.Plan.{Valid}
use Rattle.page_theory.specs.Page.{page_of}
use Rattle.page_theory.specs.Reading.{RefusedAt, Lowest, Reading, reading, counts}
use Rattle.page_theory.specs.Damage.{Accepts, Outputs, flips, Damaged, WrittenAndDamaged}
use Rattle.page_theory.specs.Calls.{Looked, look_ended, look_by, look_for, Taken, take_ended, take_by, take_for}
use Rattle.page_theory.proofs.Reading.{refused-lowest, ruined-lowest}
use Rattle.page_theory.proofs.Damage.{damaged-reading, damaged-counts}
use Rattle.page_theory.proofs.Calls.{Replied, whole, named, look-replied, take-replied}
use Rattle.page_theory.proofs.Calls.{look-right, look-refuses, take-right, take-refuses, take_by-payload}
use Rattle.page_theory.proofs.Accepted.{look-accepted, take-accepted}
use Rattle.page_theory.proofs.Demand2.{write_done}

module _ (a : Result Layout Refusal) (q : Plan) (accepted : Accepts a q) where
  module _ (m d page : List ℕ) (s : ℕ → ℕ → Bool) (h : WrittenAndDamaged a q m d page s) where
    as_written : Damaged q (page_of q h.lent (m ++ d)) page s
    as_written = rw (write_done a q accepted m d h.lent h.payload h.size) at h.damaged

    -- "Every page so written and damaged reads back: it gives the payload that was written, and for each block the number of
    -- its covered bits that flipped." Looking gives the numbers, taking the payload.

    pub looks-back : (c : List ℕ) → length c ≡ q.blocks → look_for a page c ≡ look_ended 0 0 (run (flips q s) 0 q.blocks)
    unfolding look_by
    looks-back c l =
        look-accepted a q accepted page c
        ∙ look-right q page c h.damaged.page.count l
        ∙ rw (damaged-reading q valid h.lent (m ++ d) page s as_written, damaged-counts q valid h.lent (m ++ d) page s as_written)
      where
        valid : Valid q
        valid = accepted.valid

    pub takes_back : (old-m old-d : List ℕ) → length old-m ≡ q.metadata → length old-d ≡ q.«data» → take_for a page old-m old-d ≡ take_ended 0 0 m d
    takes_back old-m old-d i j =
        take-accepted a q accepted page old-m old-d
        ∙ take-right q page old-m old-d h.damaged.page.count i j
        ∙ ap (λ (r : Reading). take_by q r old-m old-d) (damaged-reading q accepted.valid h.lent (m ++ d) page s as_written)
        ∙ take_by-payload q m d h.payload old-m old-d

    pub reads-back : (old-m old-d old-c : List ℕ) → Outputs q old-m old-d old-c
        → (look_for a page old-c ≡ look_ended 0 0 (run (flips q s) 0 q.blocks)) × (take_for a page old-m old-d ≡ take_ended 0 0 m d)
    reads-back old-m old-d old-c o = (looks-back old-c o.counts, takes_back old-m old-d o.metadata o.«data»)

  -- "Take one accepted layout and any two different payloads (metadata and data), each written to a page. Whichever covered bits
  -- then flip in either page, at most t in each block, and whatever becomes of the tail bits, the two pages are never the same."
  -- Document 02, E7, counts the bits of the mark with the tail.
  pub told-apart : (m d page : List ℕ) (s : ℕ → ℕ → Bool) → WrittenAndDamaged a q m d page s
      → (m' d' page' : List ℕ) (s' : ℕ → ℕ → Bool) → WrittenAndDamaged a q m' d' page' s'
      → (m ≡ m' → d ≡ d' → ⊥)
      → page ≡ page' → ⊥
  told-apart m d page s h m' d' page' s' h' different same =
      different (ap (λ (r : Taken). r.metadata) equal) (ap (λ (r : Taken). r.«data») equal)
    where
      equal : take_ended 0 0 m d ≡ take_ended 0 0 m' d'
      equal =
          let i = h.payload.metadata.count in let j = h.payload.«data».count in
          sym (takes_back m d page s h m d i j) ∙ ap (λ p. take_for a p m d) same ∙ takes_back m' d' page' s' h' m d i j

  -- "Whatever a page of the right length holds, with outputs of the right length it is refused as uncorrectable exactly when some
  -- block has no codeword of its shortened length within t flips, and the lowest such block is named. Here t is the block's own
  -- level, 0 where it has no ECC." Document 02, E1, adds: and more than t zeros among its covered bits.
  module _ (page : List ℕ) (size : length page ≡ q.size) where
    -- what a reply says of the page
    replied-only : {r : Reading} {x b : ℕ} → reading q page ≡ r → Replied r x b → x ≡ 9 → Lowest q page b
    replied-only e (whole w) h = absurd (omega arith)
    replied-only e (named b) h = refused-lowest q page b e

    replied-otherwise : {r : Reading} {x b : ℕ} → Replied r x b → (x ≡ 9 → ⊥) → x ≡ 0
    replied-otherwise (whole w) h = refl
    replied-otherwise (named b) h = absurd (h refl)

    -- Looking.
    module _ (c : List ℕ) (lent : length c ≡ q.blocks) where
      looked : Replied (reading q page) (look_for a page c).reply (look_for a page c).block
      looked = rw (look-accepted a q accepted page c, look-right q page c size lent) (look-replied (reading q page) (counts q page))

      -- the lowest ruined block is named, and the counts of all blocks are written
      pub look-refused-naming : (b : ℕ) → Lowest q page b → look_for a page c ≡ look_ended 9 b (counts q page)
      look-refused-naming b h = look-accepted a q accepted page c ∙ look-refuses q page c b size lent h

      -- some block is ruined: the page is refused
      pub look-refused-when : (b : ℕ) → b < q.blocks → RefusedAt q page b → (look_for a page c).reply ≡ 9
      look-refused-when b l h = let r = ruined-lowest q page b l h in ap (λ (r : Looked). r.reply) (look-refused-naming r.0 r.1)

      -- the page is refused: a block is ruined, and the lowest such block is named
      pub look-refused-only : (look_for a page c).reply ≡ 9 → Lowest q page (look_for a page c).block
      look-refused-only h = replied-only refl looked h

      -- a page that is not refused so gives its counts
      pub look-otherwise : ((look_for a page c).reply ≡ 9 → ⊥) → (look_for a page c).reply ≡ 0
      look-otherwise h = replied-otherwise looked h

    -- Taking.
    module _ (m d : List ℕ) (lent-m : length m ≡ q.metadata) (lent-d : length d ≡ q.«data») where
      taken : Replied (reading q page) (take_for a page m d).reply (take_for a page m d).block
      taken = rw (take-accepted a q accepted page m d, take-right q page m d size lent-m lent-d) (take-replied q (reading q page) m d)

      -- the lowest ruined block is named, and every output is as it was lent
      pub take-refused-naming : (b : ℕ) → Lowest q page b → take_for a page m d ≡ take_ended 9 b m d
      take-refused-naming b h = take-accepted a q accepted page m d ∙ take-refuses q page m d b size lent-m lent-d h

      -- some block is ruined: the page is refused
      pub take-refused-when : (b : ℕ) → b < q.blocks → RefusedAt q page b → (take_for a page m d).reply ≡ 9
      take-refused-when b l h = let r = ruined-lowest q page b l h in ap (λ (r : Taken). r.reply) (take-refused-naming r.0 r.1)

      -- the page is refused: a block is ruined, and the lowest such block is named
      pub take-refused-only : (take_for a page m d).reply ≡ 9 → Lowest q page (take_for a page m d).block
      take-refused-only h = replied-only refl taken h

      -- a page that is not refused so gives its payload
      pub take-otherwise : ((take_for a page m d).reply ≡ 9 → ⊥) → (take_for a page m d).reply ≡ 0
      take-otherwise h = replied-otherwise taken h

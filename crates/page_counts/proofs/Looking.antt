-- The counts of a page, block after block.
--
-- underway-start                       the blocks before the first damaged one have the count 0
-- clean-sound                          where no block is damaged, none is ruined
-- underway-left, underway-reached      the block at hand has its remainder
-- underway-next                        one damaged block more
-- underway-end                         no block is left
-- first-lowest, first-sound            the first block with the count 255 is the lowest ruined one
use mathlib.Core.Path.{◌≡◌, refl, sym, ap, ◌∙◌}
use mathlib.Core.List.{List}
use Prim.Native.Nat.{ℕ, zero, suc, ◌+◌, ◌≤◌, ◌<◌}
use native.Mathlib.Decide.{dec_lt, ℕ_discrete}
use native.Mathlib.Omega.{arith}
use lib.ListN.{length, get_or, set, replicate, length-set, length-replicate}
use lib.Seq.{get_or-set_same, get_or-set_other, ext_get_or}
use Rattle.layout_plan.specs.declared.Plan.{Plan}
use Rattle.code.specs.Outcome.{Outcome, good, erased, ruined, erased_count}
use Rattle.code.proofs.Outcome.{gives-count}
use Rattle.page_theory.specs.Reading.{RefusedAt, Lowest, outcome, count_of, counts}
use Rattle.page_theory.proofs.Reading.{of-good, of-erased, gives-outcome, outcome-ruined, ruined-outcome, counts-at, counts-length}
use Rattle.page_plan.specs.Plans.{Planned}
use Rattle.page_decide.specs.declared.Scan.{Scan}
use Rattle.page_decide.specs.Scanning.{Reached, Scanned, Left}
use Rattle.page_decide.specs.Deciding.{DecidedAt}
use Rattle.page_decide.proofs.Deciding.{clean-decided, decided-sound, decided-count}
use Rattle.page_counts.specs.Looking.{Underway, FirstRuined}

-- counts of 0

pub zeros-at : (n i : ℕ) → ◌≡◌ {A = ℕ} (get_or (replicate n 0) i 0) 0
zeros-at zero i = refl
zeros-at (suc n) zero = refl
zeros-at (suc n) (suc i) = zeros-at n i

module _ (q : Plan) (page : List ℕ) (planned : Planned q) where
  -- a block that is not damaged
  clean-count : (from b : ℕ) (s : Scan) → Scanned q page from s → from ≤ b → b < s.block → 0 ≡ count_of (outcome q page b)
  clean-count from b s n l m =
      let inside : b < q.blocks = omega (arith, n.inside) in
      decided-count q page planned.valid b inside (clean-decided q page planned.valid b inside (n.clean b l m))

  pub underway-start : {s : Scan} {l : List ℕ} {n : ℕ} → Scanned q page 0 s → l ≡ replicate n 0 → n ≡ q.blocks → Underway q page s l
  underway-start {s} {l} {n} x e k = rw e (record {
    inside = x.inside;
    counted = λ b m. zeros-at n b ∙ clean-count 0 b s x (omega arith) m;
    fresh = λ b m. zeros-at n b;
    left = x.left;
    ahead = x.ahead;
    size = length-replicate {A = ℕ} n 0 ∙ k;
  })

  pub clean-sound : {s : Scan} → Scanned q page 0 s → s.block ≡ q.blocks → (b : ℕ) → b < q.blocks → RefusedAt q page b → ⊥
  clean-sound x e b l = let v = planned.valid in
      decided-sound q page v b l (clean-decided q page v b l (x.clean b (omega arith) (omega arith))) (omega arith)

  module _ {s : Scan} {l : List ℕ} (u : Underway q page s l) where
    pub underway-left : s.block < q.blocks → Left q page s
    underway-left k = record { inside = k; is = u.left k }

    pub underway-reached : Reached q page s
    underway-reached = record { inside = u.inside; left = u.left; ahead = u.ahead }

    pub underway-next : {b n : ℕ} {ps : List ℕ} {s' : Scan} → s.block ≡ b → b < q.blocks → DecidedAt q page b ps n → Scanned q page (b + 1) s'
        → Underway q page s' (set l b n)
    underway-next {b} {n} {ps} {s'} at inside d x = record {
      inside = x.inside;
      counted = counted;
      fresh = λ c k. get_or-set_other l b c n 0 (λ e. omega (arith, x.low)) ∙ u.fresh c (omega (arith, x.low));
      left = x.left;
      ahead = x.ahead;
      size = length-set l b n ∙ u.size;
    }
      where
        counted : (c : ℕ) → c < s'.block → get_or (set l b n) c 0 ≡ count_of (outcome q page c)
        counted c k = elim (ℕ_discrete c b) [
          | yes e ↦ rw e (get_or-set_same l b n 0 (omega (arith, u.size)) ∙ decided-count q page planned.valid b inside d)
          | no e ↦ get_or-set_other l b c n 0 e ∙ elim (dec_lt c b) [
            | yes m ↦ u.counted c (omega arith)
            | no m ↦ u.fresh c (omega arith) ∙ clean-count (b + 1) c s' x (omega arith) k
          ]
        ]

    pub underway-end : q.blocks ≤ s.block → l ≡ counts q page
    underway-end k = ext_get_or 0 l (counts q page) (u.size ∙ sym (counts-length q page))
        (λ i m. let inside : i < q.blocks = omega (arith, u.size) in u.counted i (omega arith) ∙ sym (counts-at q page i inside))

  -- only a ruined block has the count 255

  ruined-count : (b : ℕ) → RefusedAt q page b → count_of (outcome q page b) ≡ 255
  unfolding count_of
  ruined-count b h = rw (outcome-ruined q page b h)

  count-ruined : (b : ℕ) → b < q.blocks → count_of (outcome q page b) ≡ 255 → RefusedAt q page b
  unfolding count_of
  count-ruined b l e = go (outcome q page b) refl e
    where
      go : (o : Outcome) → outcome q page b ≡ o → count_of o ≡ 255 → RefusedAt q page b
      go (good m n) f k = absurd (omega (arith, gives-count _ _ _ _ m n (planned.valid.strong b l) (gives-outcome q page b m n (rw f of-good))))
      go (erased m z) f k = absurd (omega (arith, gives-count _ _ _ _ m (erased_count z) (planned.valid.strong b l) (gives-outcome q page b m (erased_count z) (rw f of-erased))))
      go ruined f k = ruined-outcome q page b f

  module _ {l : List ℕ} (same : l ≡ counts q page) where
    count_at_lem : (c : ℕ) → c < q.blocks → get_or l c 0 ≡ count_of (outcome q page c)
    count_at_lem c k = rw same (counts-at q page c k)

    count-size : length l ≡ q.blocks
    count-size = ap length same ∙ counts-length q page

    pub first-lowest : {b : ℕ} → b < length l → FirstRuined l b → Lowest q page b
    first-lowest {b} n f =
        let size = count-size in
        let inside : b < q.blocks = omega arith in
        record {
          inside = inside;
          ruins = count-ruined b inside (sym (count_at_lem b inside) ∙ f.ruined n);
          lower = λ c k h. f.lower c k (count_at_lem c (omega arith) ∙ ruined-count c h);
        }

    pub first-sound : FirstRuined l (length l) → (c : ℕ) → c < q.blocks → RefusedAt q page c → ⊥
    first-sound f c k h = let size = count-size in f.lower c (omega arith) (count_at_lem c k ∙ ruined-count c h)

-- Deciding blocks one after the other, and keeping what repairs them.
--
-- kept-length, kept-none               the exponents that are kept for a block
-- kept_for-none, kept_for-next           keeping one exponent more
-- block_kept-some, block_kept-none       a block with exponents, and one without
-- zeros-at, underway-start             nothing is kept at first
-- underway-left, underway-reached      the block at hand has its remainder
-- decided-room                         its exponents have room in the table
-- underway-ruined                      the first ruined block is the lowest
-- underway-next                        one damaged block more
-- underway-sound                       no block is left
-- decided-kept                         what is kept when every block is decided
use mathlib.Core.Path.{◌≡◌, refl, sym, ◌∙◌}
use mathlib.Core.List.{List, []}
use Prim.Native.Nat.{ℕ, zero, suc, ◌+◌, ◌*◌, ◌≤◌, ◌<◌}
use native.Mathlib.Decide.{dec_lt, ℕ_discrete}
use native.Mathlib.Omega.{arith}
use lib.ListN.{length, take, get_or, set, replicate, length-set}
use lib.Seq.{get_or-set_same, get_or-set_other, get_or-take, length-take-le}
use Rattle.bits.specs.Bits.{run}
use Rattle.bits.proofs.Runs.{run_length, run-ext, run-cong}
use Rattle.layout_plan.specs.declared.Plan.{Plan}
use Rattle.page_theory.specs.Reading.{Lowest}
use Rattle.page_plan.specs.Plans.{Planned}
use Rattle.page_decide.specs.declared.Scan.{Scan}
use Rattle.page_decide.specs.Scanning.{remainder_at, Reached, Scanned, Left}
use Rattle.page_decide.specs.Deciding.{DecidedAt}
use Rattle.page_decide.proofs.Remainders.{located-below}
use Rattle.page_decide.proofs.Deciding.{clean-decided, decided-few, decided-sound}
use Rattle.page_keep.specs.Keeping.{kept, KeptFor, BlockKept, AllDecided, Underway, Kept}

-- keeping exponents

pub kept-length : (places : List ℕ) (b n : ℕ) → length (kept places b n) ≡ n
unfolding kept
kept-length places b n = run_length _ _ _

kept-none : (places : List ℕ) (b : ℕ) → kept places b 0 ≡ []
unfolding kept run
kept-none places b = refl

pub kept_for-none : (b : ℕ) (ps places : List ℕ) → KeptFor b 0 ps places places
kept_for-none b ps places = record { same = refl; own = λ i l. absurd (omega arith); others = λ k o. refl }

pub kept_for-next : (b i : ℕ) (ps before after : List ℕ) → KeptFor b i ps before after → i < 64 → 64 * b + 64 ≤ length before
    → KeptFor b (i + 1) ps before (set after (64 * b + i) (get_or ps i 0))
kept_for-next b i ps before after h l m =
    let z = h.same in
    record {
      same = length-set after (64 * b + i) _ ∙ h.same;
      own = λ j k. elim (dec_lt j i) [
        | yes y ↦ get_or-set_other after (64 * b + i) (64 * b + j) _ 0 (λ e. omega arith) ∙ h.own j y
        | no y ↦ (let e : j ≡ i = omega arith in rw e (get_or-set_same after (64 * b + i) _ 0 (omega arith)))
      ];
      others = λ k o. get_or-set_other after (64 * b + i) k _ 0 (λ e. o (omega arith) (omega arith)) ∙ h.others k o;
    }

module _ {b n : ℕ} {ps before after : List ℕ} (h : KeptFor b n ps before after) where
  kept-own : n ≤ length ps → kept after b n ≡ take n ps
  unfolding kept
  kept-own l = run-ext _ (64 * b) (take n ps) n 0 (length-take-le n ps l) (λ j k. h.own j k ∙ sym (get_or-take n ps j 0 k))

  kept-others : (c k : ℕ) → (c ≡ b → ⊥) → k ≤ 64 → kept after c k ≡ kept before c k
  unfolding kept
  kept-others c k o l = run-cong _ _ (64 * c) (64 * c) k (λ j i. h.others (64 * c + j) (λ x y. o (omega arith)))

module _ (b n : ℕ) (ps places flips : List ℕ) (inside : b < length flips) where
  pub block_kept-none : 128 ≤ n → BlockKept b n ps places flips places (set flips b n)
  block_kept-none l = record {
    own = λ k. absurd (omega arith);
    count = get_or-set_same flips b n 0 inside;
    other-places = λ c k o m. refl;
    other-flips = λ c o. get_or-set_other flips b c n 0 o;
    places-length = refl;
    flips-length = length-set flips b n;
  }

  pub block_kept-some : {k : ℕ} {places' : List ℕ} → k ≡ n → n ≤ length ps → KeptFor b k ps places places'
      → BlockKept b n ps places flips places' (set flips b n)
  block_kept-some e l h = let g = rw e at h in record {
    own = λ k. kept-own g l;
    count = get_or-set_same flips b n 0 inside;
    other-places = kept-others g;
    other-flips = λ c o. get_or-set_other flips b c n 0 o;
    places-length = g.same;
    flips-length = length-set flips b n;
  }

-- nothing is kept at first

pub zeros-at : (n i : ℕ) → ◌≡◌ {A = ℕ} (get_or (replicate n 0) i 0) 0
zeros-at zero i = refl
zeros-at (suc n) zero = refl
zeros-at (suc n) (suc i) = zeros-at n i

-- block after block

module _ (q : Plan) (page : List ℕ) (planned : Planned q) where
  -- a block that is not damaged
  clean-kept : (b n : ℕ) (places : List ℕ) → b < q.blocks → remainder_at q page b ≡ 0 → n ≡ 0 → DecidedAt q page b (kept places b n) n
  clean-kept b n places i e z = rw (z, kept-none places b) (clean-decided q page planned.valid b i e)

  pub underway-start : (s : Scan) (places flips : List ℕ) → Scanned q page 0 s → 64 * q.blocks ≤ length places → length flips ≡ 256
      → ((c : ℕ) → get_or flips c 0 ≡ 0) → Underway q page s places flips
  underway-start s places flips n a b z = record {
    inside = n.inside;
    decided = record {
      each = λ c l. clean-kept c _ places (omega (arith, n.inside)) (n.clean c (omega arith) l) (z c);
      sound = λ c l. omega (arith, z c);
    };
    fresh = λ c l. z c;
    left = n.left;
    ahead = n.ahead;
    room = a;
    flips-length = b;
  }

  -- the exponents of a decided block have room
  pub decided-room : {b n : ℕ} {ps : List ℕ} → b < q.blocks → DecidedAt q page b ps n → n < 128 → n ≤ 64
  decided-room {b} i d l = omega (arith, decided-few q page planned.valid b i d l)

  module _ {s : Scan} {places flips : List ℕ} (u : Underway q page s places flips) where
    pub underway-left : s.block < q.blocks → Left q page s
    underway-left k = record { inside = k; is = u.left k }

    pub underway-reached : Reached q page s
    underway-reached = record { inside = u.inside; left = u.left; ahead = u.ahead }

    pub underway-sound : q.blocks ≤ s.block → AllDecided q page q.blocks places flips
    underway-sound l = let e : s.block ≡ q.blocks = omega (arith, u.inside) in rw e at u.decided

    module _ {b n : ℕ} {ps : List ℕ} (at : s.block ≡ b) (inside : b < q.blocks) (d : DecidedAt q page b ps n) where
      pub underway-ruined : n ≡ 255 → Lowest q page b
      underway-ruined e = record {
        inside = inside;
        ruins = d.ruined (omega arith);
        lower = λ c l. decided-sound q page planned.valid c (omega arith) (u.decided.each c (omega arith)) (u.decided.sound c (omega arith));
      }

      pub underway-next : {s' : Scan} {xs places' flips' : List ℕ} → (n ≡ 255 → ⊥) → ps ≡ take n xs → BlockKept b n xs places flips places' flips'
          → Scanned q page (b + 1) s' → Underway q page s' places' flips'
      underway-next {s'} {xs} {places'} {flips'} e same k x = record {
        inside = x.inside;
        decided = record { each = each; sound = sound };
        fresh = λ c l. k.other-flips c (λ i. omega (arith, x.low)) ∙ u.fresh c (omega (arith, x.low));
        left = x.left;
        ahead = x.ahead;
        room = rw k.places-length u.room;
        flips-length = k.flips-length ∙ u.flips-length;
      }
        where
          before : (c : ℕ) → c < s.block → (c ≡ b → ⊥) → DecidedAt q page c (kept places' c (get_or flips c 0)) (get_or flips c 0)
          before c y o = let h = u.decided.each c y in
              let same-places : get_or flips c 0 < 128 → kept places' c (get_or flips c 0) ≡ kept places c (get_or flips c 0) =
              (λ l. k.other-places c (get_or flips c 0) o (decided-room (omega (arith, u.inside)) h l)) in
              record {
                repaired = λ l. rw (same-places l) (h.repaired l);
                flips = λ l. kept-length places' c (get_or flips c 0);
                erased = h.erased;
                ruined = h.ruined;
                small = h.small;
              }

          own : DecidedAt q page b (kept places' b n) n
          own = record {
            repaired = λ l. rw (k.own l, ← same) (d.repaired l);
            flips = λ l. kept-length places' b n;
            erased = d.erased;
            ruined = d.ruined;
            small = d.small;
          }

          each : (c : ℕ) → c < s'.block → DecidedAt q page c (kept places' c (get_or flips' c 0)) (get_or flips' c 0)
          each c l = elim (ℕ_discrete c b) [
            | yes i ↦ rw (i, k.count) own
            | no i ↦ elim (dec_lt c b) [
              | yes y ↦ rw (k.other-flips c i) (before c (omega arith) i)
              | no y ↦ clean-kept c _ places' (omega (arith, x.inside)) (x.clean c (omega arith) l) (k.other-flips c i ∙ u.fresh c (omega arith))
            ]
          ]

          sound : (c : ℕ) → c < s'.block → get_or flips' c 0 < 255
          sound c l = elim (ℕ_discrete c b) [
            | yes i ↦ rw (i, k.count) (omega (arith, d.small, e))
            | no i ↦ rw (k.other-flips c i) (elim (dec_lt c b) [
              | yes y ↦ u.decided.sound c (omega arith)
              | no y ↦ omega (arith, u.fresh c (omega arith))
            ])
          ]

-- what is kept when every block is decided

pub decided-kept : (q : Plan) (page places flips : List ℕ) → Planned q → AllDecided q page q.blocks places flips → Kept q places flips
decided-kept q page places flips planned d = record {
  few = λ b l m. decided-room q page planned l (d.each b l) m;
  below = λ b l m. located-below q page b _ ((d.each b l).repaired m);
}

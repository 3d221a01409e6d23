-- An accepted layout of sectors makes a valid plan.
--
-- one-plan, more-plan       the plan of one sector, and of more
-- sectors-taken             what holds of numbers that are accepted
-- sectors-valid             their plan is valid
use Rattle.std.specs.Prelude.{⊤, Result, Ok, Err}
use Rattle.layout.specs.declared.Reason.{Reason}
use mathlib.Core.Path.{◌≡◌, refl, ap}
use mathlib.Core.Bool.{Bool, true, false, cond}
use Prim.Native.Nat.{ℕ, suc, ◌+◌, ◌-◌, ◌*◌, ◌≤◌, ◌<◌}
use native.Mathlib.Omega.{arith}
use native.Mathlib.Decide.{ℕ_discrete, dec_lt}
use native.Mathlib.Nat.{one-mul, zero-mul}
use lib.Dec.{leb, ltb}
use borrow.Author.Tests.{eq-eqb, ne_eqb, lt-ltb, le-ltb, leb-true}
use Rattle.field.specs.declared.Field.{Field}
use Rattle.field.specs.Field.{longest}
use Rattle.replies.specs.Edition.{offered, highest}
use Rattle.replies.proofs.Editions.{highest-small}
use Rattle.layout_plan.specs.declared.Sectors.{Sectors}
use Rattle.layout_plan.specs.declared.Shape.{Shape}
use Rattle.layout_plan.specs.declared.Layout.{Layout}
use Rattle.layout_plan.specs.declared.Plan.{Plan}
use Rattle.layout.specs.declared.Refusal.TheVariants as refusal
use Rattle.layout_plan.specs.Plan.{plan_of, shape, start, used, room, from, payload, Summed, Valid}
use Rattle.layout_plan.specs.SectorPlan.{sector_shape, own_shape, last_shape, sectors_plan, sector_plan, sector_layout}
use Rattle.layout.specs.Acceptance.{finding_of, judged}
use Rattle.layout_plan.proofs.Plans.{pitch, start-next, start-order, start_up, start-firsts, start-laters, from-firsts, from-laters}
use Rattle.layout.proofs.Accepting.{Keeps, keeps}
use Rattle.sectors.specs.Sectors.{in_count, block_fields, sector_fields, sector_found, sector_acceptance}
use Rattle.sectors.proofs.Answering.{count-range}

-- ---- plans whose first n sectors have the shape a, and the last one the shape b

module _ (s : Sectors) (n : ℕ) (a b : Shape) where
  abbrev made : Plan
  made = sectors_plan s n a b

  module _ (k : Keeps (sector_fields s) made) (some : 0 < n) (last : (c : ℕ) → c < s.count → n ≤ c → 0 < s.count - 1)
      (total : used made ≡ start made s.count) (whole : from made s.count ≡ 8 * made.«data») (sa : Summed a) (sb : Summed b)
      (la : a.level ≤ 62) (lb : b.level ≤ 62) where
    -- what holds of both shapes holds of each sector
    by_shape : (P : Shape → Type 0) → P a → (0 < s.count - 1 → P b) → (c : ℕ) → c < s.count → P (shape made c)
    unfolding shape sectors_plan
    by_shape P x y c h = elim (dec_lt c n) [
      | yes l ↦ rw (lt-ltb c n l) x
      | no l ↦ rw (le-ltb c n (omega arith)) (y (last c h (omega arith)))
    ]

    shape-sums : (c : ℕ) → Summed (shape made c)
    unfolding shape sectors_plan
    shape-sums c = go (ltb c n)
      where
        go : (x : Bool) → Summed (cond x a b)
        go true = sa
        go false = sb

    made-valid : Valid made
    unfolding sectors_plan sector_fields payload room
    made-valid = record {
      order = λ c d h x. start-order made c d h;
      ends = λ c h. omega (arith, start-next made c, start_up made (suc c) s.count h, total, k.fits);
      fits = k.fits;
      inside = omega arith;
      short = λ c h. by_shape (λ (x : Shape). 0 < x.level → x.covered ≤ longest x.field) k.lengths (λ m. k.lengths-later m) c h;
      strong = λ c h. by_shape (λ (x : Shape). x.level ≤ 62) la (λ m. lb) c h;
      filled = λ c h. by_shape (λ (x : Shape). 0 < x.message) k.messages (λ m. k.messages-later m) c h;
      whole = omega (arith, whole);
      sums = shape-sums;
      total = total;
    }

-- ---- one sector, and more

module _ (s : Sectors) where
  pub one-plan : s.count ≡ 1 → sector_plan s ≡ sectors_plan s 1 (last_shape s) (last_shape s)
  unfolding sector_plan
  one-plan e = rw (eq-eqb s.count 1 e)

  pub more-plan : (s.count ≡ 1 → ⊥) → sector_plan s ≡ sectors_plan s (s.count - 1) (own_shape s) (last_shape s)
  unfolding sector_plan
  more-plan n = rw (ne_eqb s.count 1 n)

  one-total : s.count ≡ 1 → (b : Shape) → used (sectors_plan s 1 b b) ≡ start (sectors_plan s 1 b b) s.count
  unfolding sectors_plan
  one-total e b =
      let z : s.count - 1 ≡ 0 = omega arith in
      let m : (s.count - 1) * pitch b ≡ 0 * pitch b = ap (λ (x : ℕ). x * pitch b) z in
      omega (arith, ap (start (sectors_plan s 1 b b)) e, start-firsts (sectors_plan s 1 b b) 1 (omega arith), one-mul (pitch b), zero-mul (pitch b))

  more-total : (n : ℕ) → s.count ≡ n + 1 → (a b : Shape) → used (sectors_plan s n a b) ≡ start (sectors_plan s n a b) s.count
  unfolding sectors_plan
  more-total n e a b =
      let z : s.count - 1 ≡ n = omega arith in
      let m : (s.count - 1) * pitch a ≡ n * pitch a = ap (λ (x : ℕ). x * pitch a) z in
      omega (arith, ap (start (sectors_plan s n a b)) e, start-laters (sectors_plan s n a b) 1, one-mul (pitch b))

  one-whole : s.count ≡ 1 → (b : Shape) → b.message ≡ 8 * s.last → from (sectors_plan s 1 b b) s.count ≡ 8 * (sectors_plan s 1 b b).«data»
  unfolding sectors_plan
  one-whole e b h =
      let z : s.count - 1 ≡ 0 = omega arith in
      let m : (s.count - 1) * s.size ≡ 0 * s.size = ap (λ (x : ℕ). x * s.size) z in
      omega (arith, ap (from (sectors_plan s 1 b b)) e, from-firsts (sectors_plan s 1 b b) 1 (omega arith), one-mul b.message, zero-mul s.size)

  more-whole : (n : ℕ) → s.count ≡ n + 1 → (a b : Shape) → a.message ≡ 8 * s.size → b.message ≡ 8 * s.last
      → from (sectors_plan s n a b) s.count ≡ 8 * (sectors_plan s n a b).«data»
  unfolding sectors_plan
  more-whole n e a b h i =
      let z : s.count - 1 ≡ n = omega arith in
      let m : (s.count - 1) * s.size ≡ n * s.size = ap (λ (x : ℕ). x * s.size) z in
      let p : n * a.message ≡ n * (8 * s.size) = ap (λ (x : ℕ). n * x) h in
      omega (arith, ap (from (sectors_plan s n a b)) e, from-laters (sectors_plan s n a b) 1, one-mul b.message)

  shape-summed : (size : ℕ) (f : Field) (t : ℕ) → Summed (sector_shape size f t)
  unfolding sector_shape
  shape-summed size f t = refl

  shape-level : (size : ℕ) (f : Field) → s.level ≤ highest s.edition → (sector_shape size f (2 * s.level)).level ≤ 62
  unfolding sector_shape
  shape-level size f l = omega (arith, l, highest-small s.edition)

  shape-message : (size : ℕ) (f : Field) (t : ℕ) → (sector_shape size f t).message ≡ 8 * size
  unfolding sector_shape
  shape-message size f t = refl

  plan-valid : 0 < s.count → Keeps (sector_fields s) (sector_plan s) → s.level ≤ highest s.edition → Valid (sector_plan s)
  plan-valid some k l = elim (ℕ_discrete s.count 1) [
    | yes e ↦ rw (one-plan e)
        (let b = last_shape s in made-valid s 1 b b (rw (one-plan e) at k) (omega arith) (λ c x y. absurd (omega arith)) (one-total e b)
        (one-whole e b (shape-message _ _ _)) (shape-summed _ _ _) (shape-summed _ _ _) (shape-level _ _ l) (shape-level _ _ l))
    | no n ↦ rw (more-plan n)
        (let a = own_shape s in let b = last_shape s in let e : s.count ≡ (s.count - 1) + 1 = omega arith in
        made-valid s (s.count - 1) a b (rw (more-plan n) at k) (omega arith) (λ c x y. omega arith) (more-total (s.count - 1) e a b)
        (more-whole (s.count - 1) e a b (shape-message _ _ _) (shape-message _ _ _)) (shape-summed _ _ _) (shape-summed _ _ _) (shape-level _ _ l) (shape-level _ _ l))
  ]

-- ---- accepted numbers

pub record Taken (s : Sectors) (l : Layout) : Type 0 where
  pub count : (0 < s.count) × (s.count ≤ 16)
  pub choice : s.choice ≤ 1
  pub edition : offered s.edition ≡ true
  pub layout : l ≡ sector_layout s
  pub kept : finding_of (sector_fields s) (sector_plan s) ≡ Ok _

pub sectors-taken : (s : Sectors) (l : Layout) → sector_acceptance s ≡ Ok l → Taken s l
unfolding sector_acceptance sector_found judged
sectors-taken s l h = go (in_count s.count) refl (leb s.choice 1) refl (offered s.edition) refl (finding_of (sector_fields s) (sector_plan s)) refl h
  where
    go : (c : Bool) → in_count s.count ≡ c → (g : Bool) → leb s.choice 1 ≡ g → (o : Bool) → offered s.edition ≡ o
        → (f : Result ⊤ Reason) → finding_of (sector_fields s) (sector_plan s) ≡ f
        → cond c (cond g (cond o (judged (sector_layout s) f) (Err refusal.Edition)) (Err refusal.Range)) (Err refusal.Range) ≡ Ok l
        → Taken s l
    go true ec true eg true eo (Ok _) ef x =
        let y : l ≡ sector_layout s = cc x in record { count = count-range _ ec; choice = leb-true _ _ eg; edition = eo; layout = y; kept = ef }
    go true ec true eg true eo (Err r) ef x = let z : ◌≡◌ {A = ℕ} 0 1 = cc x in absurd (omega arith)
    go true ec true eg false eo f ef x = let z : ◌≡◌ {A = ℕ} 0 1 = cc x in absurd (omega arith)
    go true ec false eg o eo f ef x = let z : ◌≡◌ {A = ℕ} 0 1 = cc x in absurd (omega arith)
    go false ec g eg o eo f ef x = let z : ◌≡◌ {A = ℕ} 0 1 = cc x in absurd (omega arith)

module _ (s : Sectors) (l : Layout) (h : sector_acceptance s ≡ Ok l) where
  pub sectors-plan : plan_of l ≡ sector_plan s
  unfolding plan_of sector_layout
  sectors-plan = rw (sectors-taken s l h).layout

  -- the level field is one of the edition's
  pub sectors-level : s.level ≤ highest s.edition
  unfolding sector_fields block_fields
  sectors-level = (keeps (sector_fields s) (sector_plan s) (sectors-taken s l h).kept).levels

  pub sectors-valid : Valid (plan_of l)
  sectors-valid =
      let t = sectors-taken s l h in
      rw sectors-plan (plan-valid s t.count.0 (keeps (sector_fields s) (sector_plan s) t.kept) sectors-level)

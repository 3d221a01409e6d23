-- A plan whose numbers hold together has what the page calls count on, and the plan of an accepted layout is such a plan.
--
-- Shaped, Together                     the comparisons as facts
-- test-together, together-test         the test answers true exactly where they hold
-- together-planned                     a plan that passes has what the page calls count on
-- accepted-together                    the plan of an accepted layout passes
use mathlib.Core.Path.{◌≡◌, refl, sym, ap, ◌∙◌}
use mathlib.Core.Bool.{Bool, true, false, cond, false≢true, ◌&&◌, ◌||◌}
use mathlib.Core.Logic.{◌⊎◌, inl, inr, ⊎_elim}
use Prim.Native.Nat.{ℕ, zero, suc, ◌+◌, ◌-◌, ◌*◌, ◌%◌, ◌≤◌, ◌<◌}
use native.Mathlib.Nat.{eq-zero-or-pos}
use native.Mathlib.Omega.{arith}
use lib.Dec.{eqb, leb, ltb}
use lib.ListN.{get_or}
use borrow.Author.Tests.{eqb-true, leb-true, leb-false, ltb-true, eq-eqb, le-leb, lt-ltb}
use Rattle.std.specs.Prelude.{Ok}
use Rattle.field.specs.Field.{longest}
use Rattle.field.specs.declared.Field.TheVariants.{Thirteen}
use Rattle.layout_plan.specs.declared.Fields.{Fields}
use Rattle.layout_plan.specs.declared.Layout.{Layout}
use Rattle.layout_plan.specs.declared.Shape.{Shape}
use Rattle.layout_plan.specs.declared.Plan.{Plan}
use Rattle.layout_plan.specs.Record.{Words, fields_in}
use Rattle.layout_plan.specs.Plan.{shape_with, shape_of, later_shape, plan_for, plan_of, shape, field, level, start, room, from, payload, Summed, Valid}
use Rattle.layout.specs.Acceptance.{acceptance}
use Rattle.layout_plan.proofs.Plans.{pitch, later-none, shape-first, shape-later, start-next, start-order, start_up, start-product}
use Rattle.layout.proofs.Accepting.{Keeps, keeps, plan-sums, accepted-plan, accepted-kept}
use Rattle.page_plan.specs.Plans.{Planned}
use Rattle.page_plan.proofs.Plans.{accepted-planned, from-product}
use Rattle.plan_test.specs.Together.{counted, shaped, filled, placed, laters, summed, holds_together}
use Rattle.plan_test.proofs.Shapes.{shaped-none, shaped-code}

pub record Shaped (s : Shape) : Type 0 where
  pub even : s.level % 2 ≡ 0
  pub small : s.level ≤ 62
  pub none : s.pads ≡ 0
  pub sum : Summed s
  pub short : 0 < s.level → s.covered ≤ longest s.field

pub record Together (q : Plan) : Type 0 where
  pub firsts : q.firsts ≡ 1
  pub few : q.blocks ≤ 256
  pub metadata : q.metadata < 256
  pub first : Shaped q.first
  pub later : Shaped q.later
  pub message : 0 < q.first.message
  pub messages : 1 < q.blocks → 0 < q.later.message
  pub inside : q.mark.offset + q.mark.length ≤ q.size
  pub fits : q.used ≤ room q
  pub some : 0 < q.blocks
  pub used : q.used ≡ q.first.covered + laters q * q.later.covered
  pub payload : q.first.message + laters q * q.later.message ≡ 8 * payload q

-- ---- the test and the facts

both : (a b : Bool) → (a && b) ≡ true → (a ≡ true) × (b ≡ true)
both true b e = (refl, e)
both false b e = absurd (false≢true e)

either : (a b : Bool) → (a || b) ≡ true → (a ≡ true) ⊎ (b ≡ true)
either true b e = inl refl
either false b e = inr e

test_shape : (s : Shape) → shaped s ≡ true → Shaped s
unfolding shaped
test_shape s e =
    let d = both _ _ e in
    let c = both _ _ d.0 in
    let b = both _ _ c.0 in
    let a = both _ _ b.0 in
    record {
      even = eqb-true _ _ a.0;
      small = leb-true _ _ a.1;
      none = eqb-true _ _ b.1;
      sum = eqb-true _ _ c.1;
      short = λ t. ⊎_elim (λ (z : eqb s.level 0 ≡ true). absurd (omega (arith, t, eqb-true s.level 0 z))) (λ x. leb-true _ _ x) (either _ _ d.1);
    }

shape-test : (s : Shape) → Shaped s → shaped s ≡ true
shape-test s h =
    ⊎_elim
    (λ (z : s.level ≡ 0). sym (shaped-none s h.even h.small h.none h.sum z))
    (λ (t : 0 < s.level). sym (shaped-code s h.even h.small h.none h.sum (λ z. omega arith)) ∙ le-leb _ _ (h.short t))
    (eq-zero-or-pos s.level)

test-messages : (q : Plan) → 1 < q.blocks → (leb q.blocks 1 || ltb 0 q.later.message) ≡ true → 0 < q.later.message
test-messages q n e =
    ⊎_elim (λ (k : leb q.blocks 1 ≡ true). absurd (omega (arith, leb-true q.blocks 1 k))) (λ k. ltb-true _ _ k) (either _ _ e)

pub test-together : (q : Plan) → holds_together q ≡ true → Together q
unfolding holds_together counted filled placed summed
test-together q e =
    let x = both _ _ e in
    let y = both _ _ x.0 in
    let z = both _ _ y.0 in
    let u = both _ _ z.0 in
    let v = both _ _ u.0 in
    let c = both _ _ v.0 in
    let d = both _ _ c.0 in
    let f = both _ _ z.1 in
    let p = both _ _ y.1 in
    let s = both _ _ x.1 in
    let t = both _ _ s.0 in
    record {
      firsts = eqb-true _ _ d.0;
      few = leb-true _ _ d.1;
      metadata = ltb-true _ _ c.1;
      first = test_shape _ v.1;
      later = test_shape _ u.1;
      message = ltb-true _ _ f.0;
      messages = λ n. test-messages q n f.1;
      inside = leb-true _ _ p.0;
      fits = leb-true _ _ p.1;
      some = ltb-true _ _ t.0;
      used = eqb-true _ _ t.1;
      payload = eqb-true _ _ s.1;
    }

-- the messages of the later blocks, where there are some
filled-test : (q : Plan) → Together q → filled q ≡ true
unfolding filled
filled-test q t = go (leb q.blocks 1) refl
  where
    go : (x : Bool) → leb q.blocks 1 ≡ x → (ltb 0 q.first.message && (x || ltb 0 q.later.message)) ≡ true
    go true e = rw (lt-ltb _ _ t.message)
    go false e = rw (lt-ltb _ _ t.message) (lt-ltb _ _ (t.messages (leb-false _ _ e)))

pub together-test : (q : Plan) → Together q → holds_together q ≡ true
unfolding holds_together counted placed summed
together-test q t =
    simp (
      eq-eqb _ _ t.firsts,
      le-leb _ _ t.few,
      lt-ltb _ _ t.metadata,
      shape-test _ t.first,
      shape-test _ t.later,
      filled-test q t,
      le-leb _ _ t.inside,
      le-leb _ _ t.fits,
      lt-ltb _ _ t.some,
      eq-eqb _ _ t.used,
      eq-eqb _ _ t.payload,
    )

-- ---- a plan that passes

module _ (q : Plan) (t : Together q) where
  -- what holds of block 0, and of the later blocks where there are some, holds of every block
  by_shape : (P : Shape → Type 0) → P q.first → (1 < q.blocks → P q.later) → (b : ℕ) → b < q.blocks → P (shape q b)
  by_shape P x y zero h = rw (← shape-first q 0 (omega (arith, t.firsts))) x
  by_shape P x y (suc b) h = rw (← shape-later q (suc b) (omega (arith, t.firsts))) (y (omega arith))

  every-sum : (b : ℕ) → Summed (shape q b)
  every-sum zero = rw (← shape-first q 0 (omega (arith, t.firsts))) t.first.sum
  every-sum (suc b) = rw (← shape-later q (suc b) (omega (arith, t.firsts))) t.later.sum

  total : q.used ≡ start q q.blocks
  total =
      let a = start-product q q.blocks (omega (arith, t.firsts, t.some)) in
      let f : q.firsts * pitch q.first ≡ 1 * pitch q.first = ap (λ (n : ℕ). n * pitch q.first) t.firsts in
      let z : (q.blocks - q.firsts) * pitch q.later ≡ laters q * pitch q.later = ap (λ (n : ℕ). (q.blocks - n) * pitch q.later) t.firsts in
      let p : pitch q.later ≡ q.later.covered = omega (arith, t.later.none) in
      let l : laters q * pitch q.later ≡ laters q * q.later.covered = ap (λ (x : ℕ). laters q * x) p in
      omega (arith, t.used, t.first.none)

  whole : from q q.blocks ≡ 8 * payload q
  whole =
      let a = from-product q q.blocks (omega (arith, t.firsts, t.some)) in
      let f : q.firsts * q.first.message ≡ 1 * q.first.message = ap (λ (n : ℕ). n * q.first.message) t.firsts in
      let z : (q.blocks - q.firsts) * q.later.message ≡ laters q * q.later.message = ap (λ (n : ℕ). (q.blocks - n) * q.later.message) t.firsts in
      omega (arith, t.payload)

  valid : Valid q
  valid = record {
    order = λ b c h x. start-order q b c h;
    ends = λ b h. omega (arith, start-next q b, start_up q (suc b) q.blocks h, total, t.fits);
    fits = t.fits;
    inside = t.inside;
    short = by_shape (λ (s : Shape). 0 < s.level → s.covered ≤ longest s.field) t.first.short (λ n. t.later.short);
    strong = by_shape (λ (s : Shape). s.level ≤ 62) t.first.small (λ n. t.later.small);
    filled = by_shape (λ (s : Shape). 0 < s.message) t.message t.messages;
    whole = whole;
    sums = every-sum;
    total = total;
  }

  -- after block 0 there is one shape
  behind : (b : ℕ) → 0 < b → (field q b ≡ q.later.field) × (level q b ≡ q.later.level)
  behind b l =
      let e = shape-later q b (omega (arith, t.firsts)) in
      (ap (λ (s : Shape). s.field) (sym e), ap (λ (s : Shape). s.level) (sym e))

  facts-planned : q.size < 65536 → q.«data» < 4294967296 → Planned q
  facts-planned x y = record {
    valid = valid;
    first = record { even = t.first.even; small = t.first.small };
    later = record { even = t.later.even; small = t.later.small };
    own = omega (arith, t.firsts);
    behind = λ b l i. behind b l;
    size = x;
    some = t.some;
    few = t.few;
    metadata = t.metadata;
    «data» = y;
  }

pub together-planned : (q : Plan) → q.size < 65536 → q.«data» < 4294967296 → holds_together q ≡ true → Planned q
together-planned q x y e = facts-planned q (test-together q e) x y

-- ---- the plan of an accepted layout

module _ (f : Fields) (k : Keeps f (plan_for f)) (p : Planned (plan_for f)) where
  first-shaped : Shaped (plan_for f).first
  unfolding plan_for shape_of shape_with
  first-shaped = record { even = p.first.even; small = p.first.small; none = refl; sum = refl; short = k.lengths }

  later-shaped : Shaped (plan_for f).later
  unfolding plan_for shape_of shape_with later_shape
  later-shaped = record {
    even = p.later.even;
    small = p.later.small;
    none = none (eqb f.nblocks 0);
    sum = sum (eqb f.nblocks 0);
    short = short;
  }
    where
      none : (t : Bool) → (cond t (shape_with 0 Thirteen 0) (shape_of 0 f.later)).pads ≡ 0
      none true = refl
      none false = refl

      sum : (t : Bool) → Summed (cond t (shape_with 0 Thirteen 0) (shape_of 0 f.later))
      sum true = refl
      sum false = refl

      short : 0 < (later_shape f).level → (later_shape f).covered ≤ longest (later_shape f).field
      short t =
          ⊎_elim
          (λ (e : f.nblocks ≡ 0). absurd (omega (arith, t, ap (λ (s : Shape). s.level) (later-none f e))))
          (λ (n : 0 < f.nblocks). k.lengths-later n t)
          (eq-zero-or-pos f.nblocks)

  fields-together : Together (plan_for f)
  unfolding plan_for
  fields-together =
      let l : laters (plan_for f) ≡ f.nblocks = omega arith in
      record {
        firsts = refl;
        few = p.few;
        metadata = p.metadata;
        first = first-shaped;
        later = later-shaped;
        message = k.messages;
        messages = λ n. k.messages-later (omega arith);
        inside = p.valid.inside;
        fits = p.valid.fits;
        some = p.some;
        used = rw l (plan-sums f).used;
        payload = let w = from-product (plan_for f) (plan_for f).blocks (omega arith) in omega (arith, p.valid.whole);
      }

pub accepted-together : (w : Words) (l : Layout) → ((i : ℕ) → get_or w.bytes i 0 < 256) → acceptance w ≡ Ok l → holds_together (plan_of l) ≡ true
accepted-together w l b e =
    let f = fields_in w in
    let p = accepted-plan w l e in
    let k = keeps f (plan_for f) (accepted-kept w l e) in
    rw p (together-test (plan_for f) (fields-together f k (rw p at (accepted-planned w l b e))))

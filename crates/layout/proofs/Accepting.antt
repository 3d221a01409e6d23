-- What an accepted layout keeps, that it makes a valid plan, and that the numbers kept with it are document 01's sums.
use Rattle.std.specs.Prelude.{⊤, Result, Ok, Err}
use Rattle.layout.specs.declared.Reason.{Reason}
use mathlib.Core.Path.{◌≡◌, refl, sym, ap, ◌∙◌}
use mathlib.Core.Bool.{Bool, true, false, cond}
use mathlib.Core.Logic.{⊎_elim}
use Prim.Native.Nat.{ℕ, zero, suc, ◌+◌, ◌*◌, ◌≤◌, ◌<◌}
use native.Mathlib.Omega.{arith}
use native.Mathlib.Nat.{eq-zero-or-pos, zero-mul, mul-zero, mul-add, lt_of_not-le}
use lib.Dec.{eqb, ltb}
use borrow.Author.Tests.{le-ltb}
use lib.ListN.{length}
use Rattle.field.specs.Field.{degree, longest}
use Rattle.field.specs.declared.Field.TheVariants.{Thirteen}
use Rattle.replies.specs.Edition.{offered, highest}
use Rattle.replies.proofs.Editions.{highest-small}
use Rattle.layout_plan.specs.declared.Fields.{Fields}
use Rattle.layout_plan.specs.declared.Layout.{Layout}
use Rattle.layout_plan.specs.declared.Shape.{Shape}
use Rattle.layout_plan.specs.declared.Plan.{Plan}
use Rattle.layout.specs.declared.Refusal.TheVariants as refusal
use Rattle.layout_plan.specs.Record.{Words, fields_in, layout_of, record_length}
use Rattle.layout_plan.specs.Plan.{shape_with, shape_of, later_shape, data_bytes, plan_for, layout_for, plan_of, Sums, shape, bits, field, level, covered, start, used, room, from, payload, Summed, Valid}
use Rattle.layout.specs.Acceptance.{finding_of, judged, acceptance}
use Rattle.layout_plan.proofs.Plans.{later-none, later-some, start-next, start-order, start_up, start-laters, from-laters}
use Rattle.layout.proofs.Reasons.{level-first, level-later, message-first, message-later, length-first, length-later, mark-outside, zeros-set, page-room, kept_free}

-- the rules, of a layout that keeps them
pub record Keeps (f : Fields) (q : Plan) : Type 0 where
  pub levels : f.first.ecc ≤ highest f.edition
  pub levels-later : 0 < f.nblocks → f.later.ecc ≤ highest f.edition
  pub messages : 0 < q.first.message
  pub messages-later : 0 < f.nblocks → 0 < q.later.message
  pub lengths : 0 < q.first.level → q.first.covered ≤ longest q.first.field
  pub lengths-later : 0 < f.nblocks → 0 < q.later.level → q.later.covered ≤ longest q.later.field
  pub inside : f.mark.offset + f.mark.length ≤ f.page
  pub zeros : f.zeros ≡ 0
  pub fits : used q ≤ room q

not-less : (a b : ℕ) → (a < b → ⊥) → b ≤ a
not-less a b h = let k = lt_of_not-le {n = suc a} {m = b} h in omega arith

pub keeps : (f : Fields) (q : Plan) → finding_of f q ≡ Ok _ → Keeps f q
keeps f q e =
    let free = kept_free f q e in
    let inside = not-less _ _ (λ x. free _ (mark-outside x)) in
    record {
      levels = not-less _ _ (λ x. free _ (level-first x));
      levels-later = λ n. not-less _ _ (λ x. free _ (level-later n x));
      messages = not-less _ _ (λ x. free _ (message-first x));
      messages-later = λ n. not-less _ _ (λ x. free _ (message-later n x));
      lengths = λ t. not-less _ _ (λ x. free _ (length-first t x));
      lengths-later = λ n t. not-less _ _ (λ x. free _ (length-later n t x));
      inside = inside;
      zeros = let z = not-less 0 f.zeros (λ x. free _ (zeros-set inside x)) in omega arith;
      fits = not-less _ _ (λ x. free _ (page-room x));
    }

-- ---- the sums

module _ (f : Fields) where
  -- The numbers kept in a plan are document 01's sums of its fields.
  pub plan-sums : Sums f (plan_for f)
  unfolding plan_for shape_of shape_with data_bytes
  plan-sums = record {
    «data» = refl;
    first = refl;
    none = λ e. rw (later-none f e) (omega (arith, mul-zero (degree Thirteen)));
    later = λ n. rw (later-some f n) (omega arith);
    used = refl;
  }

  -- message and parity of each block
  shape-sums : (b : ℕ) → Summed (shape (plan_for f) b)
  unfolding shape plan_for shape_of shape_with later_shape
  shape-sums b = go (ltb b 1) (eqb f.nblocks 0)
    where
      go : (s t : Bool) → Summed (cond s (shape_of f.metadata f.first) (cond t (shape_with 0 Thirteen 0) (shape_of 0 f.later)))
      go true t = refl
      go false true = refl
      go false false = refl

  -- no pads
  first-pads : (plan_for f).first.pads ≡ 0
  unfolding plan_for shape_of shape_with
  first-pads = refl

  later-pads : (plan_for f).later.pads ≡ 0
  unfolding plan_for later_shape shape_of shape_with
  later-pads = go (eqb f.nblocks 0)
    where
      go : (t : Bool) → (cond t (shape_with 0 Thirteen 0) (shape_of 0 f.later)).pads ≡ 0
      go true = refl
      go false = refl

  -- all blocks together
  plan-total : used (plan_for f) ≡ start (plan_for f) (plan_for f).blocks
  unfolding plan_for
  plan-total =
      let e : f.nblocks + 1 ≡ 1 + f.nblocks = omega arith in
      let p : f.nblocks * (plan_for f).later.pads ≡ f.nblocks * 0 = ap (λ (x : ℕ). f.nblocks * x) later-pads in
      omega (arith, ap (start (plan_for f)) e, start-laters (plan_for f) f.nblocks, first-pads, mul-add f.nblocks (later_shape f).covered (plan_for f).later.pads)

  later-message : f.nblocks * (later_shape f).message ≡ 32 * (f.nblocks * f.later.units)
  unfolding shape_of shape_with
  later-message =
      ⊎_elim
      (λ (e : f.nblocks ≡ 0). rw e (omega (arith, zero-mul (later_shape f).message, zero-mul f.later.units)))
      (λ (n : 0 < f.nblocks). rw (later-some f n) (omega arith))
      (eq-zero-or-pos f.nblocks)

  -- the messages of the blocks are the payload
  whole : from (plan_for f) (f.nblocks + 1) ≡ 8 * (f.metadata + data_bytes f)
  unfolding plan_for shape_of shape_with data_bytes
  whole =
      let e : f.nblocks + 1 ≡ 1 + f.nblocks = omega arith in
      omega (arith, ap (from (plan_for f)) e, from-laters (plan_for f) f.nblocks, later-message)

-- ---- the rules

module _ (f : Fields) (k : Keeps f (plan_for f)) where
  -- what holds of block 0, and of the later blocks where there are some, holds of every block
  by_shape : (P : Shape → Type 0) → P (plan_for f).first → (0 < f.nblocks → P (plan_for f).later) → (b : ℕ) → b < (plan_for f).blocks → P (shape (plan_for f) b)
  unfolding plan_for shape
  by_shape P x y zero h = x
  by_shape P x y (suc b) h = rw (le-ltb (suc b) 1 (omega arith)) (y (omega arith))

  ends : (b : ℕ) → b < (plan_for f).blocks → start (plan_for f) b + covered (plan_for f) b ≤ room (plan_for f)
  ends b h = omega (arith, start-next (plan_for f) b, start_up (plan_for f) (suc b) (plan_for f).blocks h, plan-total f, k.fits)

  short : (b : ℕ) → b < (plan_for f).blocks → 0 < level (plan_for f) b → covered (plan_for f) b ≤ longest (field (plan_for f) b)
  short b h = by_shape (λ (s : Shape). 0 < s.level → s.covered ≤ longest s.field) k.lengths (λ n. k.lengths-later n) b h

  strong : (b : ℕ) → b < (plan_for f).blocks → level (plan_for f) b ≤ 62
  unfolding plan_for shape_of shape_with
  strong =
      by_shape (λ (s : Shape). s.level ≤ 62) (omega (arith, k.levels, highest-small f.edition))
      (λ n. rw (later-some f n) (omega (arith, k.levels-later n, highest-small f.edition)))

  filled : (b : ℕ) → b < (plan_for f).blocks → 0 < bits (plan_for f) b
  filled = by_shape (λ (s : Shape). 0 < s.message) k.messages (λ n. k.messages-later n)

  keeps-valid : Valid (plan_for f)
  unfolding plan_for payload
  keeps-valid = record {
    order = λ b c h x. start-order (plan_for f) b c h;
    ends = ends;
    fits = k.fits;
    inside = k.inside;
    short = short;
    strong = strong;
    filled = filled;
    whole = whole f;
    sums = shape-sums f;
    total = plan-total f;
  }

-- A layout that keeps the rules makes a valid plan.
pub plan-valid : (f : Fields) → finding_of f (plan_for f) ≡ Ok _ → Valid (plan_for f)
plan-valid f e = keeps-valid f (keeps f (plan_for f) e)

-- ---- accepted records

-- the edition beside an accepted record is offered, the record is of eight or twelve bytes, and its layout breaks no rule
pub record Taken (w : Words) (l : Layout) : Type 0 where
  pub edition : offered w.edition ≡ true
  pub right : record_length (length w.bytes) ≡ true
  pub layout : l ≡ layout_of w
  pub kept : finding_of (fields_in w) (plan_of l) ≡ Ok _

pub accepted-taken : (w : Words) (l : Layout) → acceptance w ≡ Ok l → Taken w l
unfolding acceptance judged
accepted-taken w l h = go (offered w.edition) (record_length (length w.bytes)) (finding_of (fields_in w) (plan_of (layout_of w))) refl refl refl h
  where
    go : (o t : Bool) (f : Result ⊤ Reason) → offered w.edition ≡ o → record_length (length w.bytes) ≡ t
        → finding_of (fields_in w) (plan_of (layout_of w)) ≡ f
        → cond o (cond t (judged (layout_of w) f) (Err refusal.RecordLength)) (Err refusal.Edition) ≡ Ok l
        → Taken w l
    go true true (Ok _) o e k x = let y : l ≡ layout_of w = cc x in record { edition = o; right = e; layout = y; kept = rw y k }
    go true true (Err r) o e k x = let z : ◌≡◌ {A = ℕ} 0 1 = cc x in absurd (omega arith)
    go true false f o e k x = let z : ◌≡◌ {A = ℕ} 0 1 = cc x in absurd (omega arith)
    go false t f o e k x = let z : ◌≡◌ {A = ℕ} 0 1 = cc x in absurd (omega arith)

-- The layout of an accepted record makes a valid plan, and what is kept with it are the sums of the record's fields.
module _ (w : Words) (l : Layout) (h : acceptance w ≡ Ok l) where
  -- the plan that is kept is that of the record's fields
  pub accepted-plan : plan_of l ≡ plan_for (fields_in w)
  unfolding layout_of layout_for plan_of
  accepted-plan = rw (accepted-taken w l h).layout

  pub accepted-kept : finding_of (fields_in w) (plan_for (fields_in w)) ≡ Ok _
  accepted-kept = ap (finding_of (fields_in w)) (sym accepted-plan) ∙ (accepted-taken w l h).kept

  pub accepted-valid : Valid (plan_of l)
  accepted-valid = rw accepted-plan (plan-valid (fields_in w) accepted-kept)

  pub accepted-sums : Sums (fields_in w) (plan_of l)
  accepted-sums = rw accepted-plan (plan-sums (fields_in w))

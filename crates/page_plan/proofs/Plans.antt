-- The plan of an accepted layout has what the code counts on.
--
-- accepted-planned           the plan of an accepted layout is such a plan
-- words-sound                so the answer to layout words is sound
-- shape-stored               each of its blocks has a stored generator
-- shape-zero                 block 0 has the first shape
-- block-fits, shape-fits     each of its blocks is as long as its code allows
-- block_inside, pads-inside  each of its blocks lies in the stream of the page, without its pads and with them
-- from_first, from-product   where the message of a block starts in the payload
-- message-inside             each message lies in the payload
use mathlib.Core.Path.{◌≡◌, sym, ap, ◌∙◌}
use mathlib.Core.Bool.{Bool, true, false, cond}
use mathlib.Core.Logic.{⊎_elim}
use mathlib.Core.List.{List}
use Prim.Native.Nat.{ℕ, suc, ◌+◌, ◌-◌, ◌*◌, ◌≤◌, ◌<◌}
use lib.Dec.{ltb}
use native.Mathlib.Nat.{eq-zero-or-pos}
use native.Mathlib.Omega.{arith}
use lib.ListN.{length, get_or}
use Rattle.std.specs.Prelude.{Ok}
use Rattle.mark.specs.Mark.{InStream}
use Rattle.replies.proofs.Editions.{highest-small}
use Rattle.layout_plan.specs.declared.Fields.{Fields}
use Rattle.layout_plan.specs.declared.Layout.{Layout}
use Rattle.layout_plan.specs.declared.Shape.{Shape}
use Rattle.layout_plan.specs.declared.Plan.{Plan}
use Rattle.layout_plan.specs.Record.{Words, block_fields, fields_at, fields_under, fields_in}
use Rattle.layout_plan.specs.Plan.{shape_with, shape_of, data_bytes, plan_for, plan_of, shape, field, level, bits, covered, start, room, from, payload, Valid}
use Rattle.layout.specs.Acceptance.{finding_of, acceptance}
use Rattle.layout_plan.proofs.Plans.{product_le, later-none, later-some, shape-first, shape-later, start-next, start_up, from-firsts, from-laters}
use Rattle.layout.proofs.Accepting.{Keeps, keeps, plan-valid, accepted-plan, accepted-kept}
use Rattle.code.specs.Code.{Fits}
use Rattle.page_theory.proofs.Reading.{from-order}
use Rattle.page_plan.specs.Plans.{Stored, Planned, Sound}

module _ (f : Fields) (k : Keeps f (plan_for f)) where
  first-stored : Stored (plan_for f).first
  unfolding plan_for shape_of shape_with
  first-stored = record { even = omega arith; small = omega (arith, k.levels, highest-small f.edition) }

  later-stored : Stored (plan_for f).later
  unfolding plan_for shape_of shape_with
  later-stored =
      ⊎_elim
      (λ (e : f.nblocks ≡ 0). rw (later-none f e) (record { even = omega arith; small = omega arith }))
      (λ (n : 0 < f.nblocks). rw (later-some f n) (record { even = omega arith; small = omega (arith, k.levels-later n, highest-small f.edition) }))
      (eq-zero-or-pos f.nblocks)

-- What a record of bytes can hold.
record Ranges (f : Fields) : Type 0 where
  nblocks : f.nblocks < 256
  metadata : f.metadata < 256
  first : f.first.units < 1024
  later : f.later.units < 1024
  page : f.page < 65536

ranges : (rec : Words) → ((i : ℕ) → get_or rec.bytes i 0 < 256) → Ranges (fields_in rec)
unfolding fields_under fields_at block_fields
ranges rec b = record {
  nblocks = b 0;
  metadata = b 1;
  first = omega (arith, b 2, b 3);
  later = omega (arith, b 6, b 7);
  page = omega (arith, b 4, b 5);
}

-- after block 0 there is one shape
one_later : (f : Fields) (b : ℕ) → 0 < b → (field (plan_for f) b ≡ (plan_for f).later.field) × (level (plan_for f) b ≡ (plan_for f).later.level)
unfolding plan_for
one_later f b l = let e = shape-later (plan_for f) b l in (ap (λ (s : Shape). s.field) (sym e), ap (λ (s : Shape). s.level) (sym e))

fields-planned : (f : Fields) → Ranges f → finding_of f (plan_for f) ≡ Ok _ → Planned (plan_for f)
unfolding plan_for data_bytes
fields-planned f r e =
    let k = keeps f (plan_for f) e in
    let n = r.nblocks in
    let u = r.first in
    let p = product_le 255 1023 {a = f.nblocks} {b = f.later.units} (omega arith) (omega (arith, r.later)) in
    record {
      valid = plan-valid f e;
      first = first-stored f k;
      later = later-stored f k;
      own = omega arith;
      behind = λ b l i. one_later f b l;
      size = r.page;
      some = omega arith;
      few = omega arith;
      metadata = r.metadata;
      «data» = omega arith;
    }

pub accepted-planned : (rec : Words) (l : Layout) → ((i : ℕ) → get_or rec.bytes i 0 < 256) → acceptance rec ≡ Ok l → Planned (plan_of l)
accepted-planned rec l b e = rw (accepted-plan rec l e) (fields-planned (fields_in rec) (ranges rec b) (accepted-kept rec l e))

-- so the answer to layout words is sound
pub words-sound : (rec : Words) → ((i : ℕ) → get_or rec.bytes i 0 < 256) → Sound (acceptance rec)
words-sound rec b l e = accepted-planned rec l b e

pub shape-stored : (q : Plan) (b : ℕ) → Planned q → Stored (shape q b)
unfolding shape
shape-stored q b p = go (ltb b q.firsts)
  where
    go : (x : Bool) → Stored (cond x q.first q.later)
    go true = p.first
    go false = p.later

-- block 0 has the first shape
pub shape-zero : (q : Plan) → Planned q → q.first ≡ shape q 0
shape-zero q p = shape-first q 0 p.own

pub block-fits : (q : Plan) → Valid q → (b : ℕ) → b < q.blocks → Fits (field q b) (level q b) (covered q b)
block-fits q v b inside = record { short = v.short b inside; level = v.strong b inside }

module _ (q : Plan) (planned : Planned q) (b : ℕ) (inside : b < q.blocks) {s : Shape} (es : s ≡ shape q b) where
  pub shape-fits : Fits s.field s.level s.covered
  shape-fits = rw es (block-fits q planned.valid b inside)

  pub block_inside : {page : List ℕ} {position : ℕ} → length page ≡ q.size → position ≡ start q b
      → InStream q.mark page position s.covered
  unfolding room
  block_inside h e =
      let x = planned.size in
      let k = planned.valid.ends b inside in
      let m = planned.valid.inside in
      rw (e, es) (record { inside = omega arith; ends = omega arith; fits = omega arith })

  -- and so does it with its pads
  pub pads-inside : {page : List ℕ} {position : ℕ} → length page ≡ q.size → position ≡ start q b
      → InStream q.mark page position (s.covered + s.pads)
  unfolding room
  pads-inside h e =
      let x = planned.size in
      let v = planned.valid in
      let k = start_up q (suc b) q.blocks inside in
      let n = start-next q b in
      let t = v.total in
      let f = v.fits in
      let m = v.inside in
      rw (e, es) (record { inside = omega arith; ends = omega arith; fits = omega arith })

module _ (q : Plan) where
  pub from_first : (b : ℕ) → b ≤ q.firsts → b * q.first.message ≡ from q b
  from_first b l = sym (from-firsts q b l)

  pub from-product : (b : ℕ) → q.firsts ≤ b → q.firsts * q.first.message + (b - q.firsts) * q.later.message ≡ from q b
  from-product b l = let e : q.firsts + (b - q.firsts) ≡ b = omega arith in sym (from-laters q (b - q.firsts)) ∙ ap (from q) e

  pub message-inside : Valid q → (b : ℕ) → b < q.blocks → from q b + bits q b ≤ 8 * payload q
  message-inside v b l = let o = from-order q b q.blocks l in omega (arith, v.whole)

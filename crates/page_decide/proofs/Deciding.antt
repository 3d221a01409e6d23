-- Deciding blocks by what was found for their remainders.
--
-- clean-decided                   a block that is not damaged is decided with the count 0
-- decided-gives                   what a block gives whose count is below 255
-- decided-few                     a block is repaired by at most 62 exponents
-- decided-sound                   a block is not ruined where its count is below 255
-- decided-count                   its count is what is reported of it
-- found-few, found-decided        what was found for a block's remainder decides it
-- remembers-nothing               nothing is remembered at first
-- alike-nothing, alike-shape, alike-words    whether a block is like the last decided one
-- alike-finds                     what was found for the last decided block is right for one that is alike
-- block-decided                   what was found for a block decides it, and is remembered
-- later-field, same-field         the fields of the blocks
-- levels-below                    the levels of the blocks
-- one-field-serves                the tables of the later blocks' field serve all blocks that have it
use mathlib.Core.Path.{◌≡◌, refl, sym, ap, ◌∙◌, subst}
use mathlib.Core.Bool.{Bool, true, false, not, beq}
use mathlib.Core.List.{List, []}
use Prim.Native.Nat.{ℕ, zero, suc, ◌≤◌, ◌<◌}
use native.Mathlib.Decide.{dec_lt}
use native.Mathlib.Omega.{arith}
use lib.ListN.{take}
use lib.Seq.{length-take-le}
use lib.Dec.{ltb}
use Rattle.bits.specs.Decides.{Decides}
use Rattle.field.specs.Field.{degree}
use Rattle.layout_plan.specs.declared.Shape.{Shape}
use Rattle.layout_plan.specs.declared.Plan.{Plan}
use Rattle.layout_plan.specs.Plan.{shape, field, level, covered, Valid}
use Rattle.code.specs.Outcome.{Outcome}
use Rattle.code.specs.Locations.{nowhere, locate}
use Rattle.code.proofs.Outcome.{gives-sound}
use Rattle.code.specs.Register.{register}
use Rattle.syndrome_lanes.specs.Lanes.{Decoding}
use Rattle.syndrome_lanes.proofs.Rows.{decoding-fewer}
use Rattle.decoder.specs.declared.Found.{Found}
use Rattle.decoder.specs.Locating.{answer, Finds}
use Rattle.page_theory.specs.Reading.{GivesAt, RefusedAt, outcome, count_of}
use Rattle.page_theory.proofs.Reading.{Hands, of-good, of-erased, outcome-gives, outcome-ruined}
use Rattle.page_plan.specs.Plans.{Planned}
use Rattle.page_plan.proofs.Plans.{shape-zero}
use Rattle.page_plan.proofs.Tables.{degree-field}
use Rattle.page_decide.specs.declared.Decided.{Decided}
use Rattle.page_decide.specs.Scanning.{remainder_at}
use Rattle.block_outcome.specs.Counts.{erased_at, count_at}
use Rattle.block_outcome.proofs.Counts.{erased_at-range}
use Rattle.page_decide.specs.Deciding.{DecidedAt, Remembers, Alike, BlockDecided, OneField, Serves}
use Rattle.page_decide.proofs.Remainders.{located-clean, located-gives, nowhere-erased, nowhere-ruined, located-few}

false-true : false ≡ true → ⊥
false-true e = let z : ◌≡◌ {A = ℕ} 0 1 = cc in omega arith

module _ (q : Plan) (page : List ℕ) (v : Valid q) (b : ℕ) (inside : b < q.blocks) where
  pub clean-decided : remainder_at q page b ≡ 0 → DecidedAt q page b [] 0
  clean-decided e = record {
    repaired = λ l. located-clean q page v b inside e;
    flips = λ l. refl;
    erased = λ l. absurd (omega arith);
    ruined = λ l. absurd (omega arith);
    small = omega arith;
  }

  module _ {ps : List ℕ} {n : ℕ} (d : DecidedAt q page b ps n) where
    pub decided-few : n < 128 → n ≤ 62
    decided-few l = omega (arith, located-few q page b ps (d.repaired l), d.flips l, v.strong b inside)

    -- what the block gives
    pub decided-gives : n < 255 → (w : List Bool) × GivesAt q page b w n
    decided-gives l = elim (dec_lt n 128) [
      | yes k ↦ (_, rw (d.flips k) at (located-gives q page v b inside ps (d.repaired k)))
      | no k ↦ (_, d.erased (omega arith) l)
    ]

    pub decided-sound : n < 255 → RefusedAt q page b → ⊥
    decided-sound l h = gives-sound _ _ _ _ _ _ (decided-gives l).1 h

    pub decided-count : n ≡ count_of (outcome q page b)
    unfolding count_of
    decided-count = elim (dec_lt n 255) [
      | yes l ↦ (let g = decided-gives l in handed (outcome q page b) _ n (outcome-gives q page v b _ n inside g.1))
      | no l ↦ (let e : n ≡ 255 = omega (arith, d.small) in e ∙ rw (outcome-ruined q page b (d.ruined (omega arith))))
    ]
      where
        handed : (o : Outcome) (w : List Bool) (n : ℕ) → Hands o w n → n ≡ count_of o
        handed o w n of-good = refl
        handed o w n of-erased = refl

  -- what was found for the block's remainder
  module _ {x : ℕ} (left : x ≡ remainder_at q page b) {r : Found} (finds : Finds (field q b) (level q b) (covered q b) x r) where
    pub found-few : r.count ≤ 62
    found-few = omega (arith, finds.few, v.strong b inside)

    found-is : locate (field q b) (level q b) (covered q b) (remainder_at q page b) ≡ answer r
    found-is = ap (locate _ _ _) (sym left) ∙ sym finds.is

    pub found-decided : {n : ℕ} → n ≡ count_at q page b r → DecidedAt q page b (take n r.exponents) n
    unfolding count_at answer
    found-decided {n} e = go r.located refl
      where
        go : (z : Bool) → r.located ≡ z → DecidedAt q page b (take n r.exponents) n
        go true t =
            let k : n ≡ r.count = e ∙ rw t in
            let few = found-few in
            let size = finds.size in
            record {
              repaired = λ l. found-is ∙ rw (t, k);
              flips = λ l. length-take-le n r.exponents (omega arith);
              erased = λ l. absurd (omega arith);
              ruined = λ l. absurd (omega arith);
              small = omega arith;
            }
        go false t =
            let k : n ≡ erased_at q page b = e ∙ rw t in
            let range = erased_at-range q page v b inside in
            let none : locate (field q b) (level q b) (covered q b) (remainder_at q page b) ≡ nowhere = found-is ∙ rw t in
            record {
              repaired = λ l. absurd (omega arith);
              flips = λ l. absurd (omega arith);
              erased = λ l m. rw k (nowhere-erased q page v b inside none (omega arith));
              ruined = λ l. nowhere-ruined q page v b inside none (omega arith);
              small = omega arith;
            }

-- what is remembered

pub remembers-nothing : (q : Plan) (d : Decided) → d.known ≡ false → Remembers q d
remembers-nothing q d e = record { finds = λ t. absurd (false-true (sym e ∙ t)) }

-- whether a block is like the last decided one

beq-other : (x y : Bool) → not (beq x y) ≡ true → x ≡ y → ⊥
beq-other true true e h = false-true e
beq-other true false e h = false-true (sym h)
beq-other false true e h = false-true h
beq-other false false e h = false-true e

beq_same : (x y : Bool) → not (beq x y) ≡ false → x ≡ y
beq_same true true e = refl
beq_same true false e = absurd (false-true (sym e))
beq_same false true e = absurd (false-true (sym e))
beq_same false false e = refl

module _ {q : Plan} {d : Decided} {b : ℕ} {words : List ℕ} where
  pub alike-nothing : d.known ≡ false → Decides false (Alike q d b words)
  alike-nothing e = record { holds = λ t. absurd (false-true t); fails = λ t a. false-true (sym e ∙ a.known) }

  pub alike-shape : not (beq (ltb b q.firsts) d.first) ≡ true → Decides false (Alike q d b words)
  alike-shape n = record { holds = λ t. absurd (false-true t); fails = λ t a. beq-other _ _ n (sym a.first) }

  pub alike-words : {r : Bool} → d.known ≡ true → not (beq (ltb b q.firsts) d.first) ≡ false → Decides r (d.remainder.words ≡ words) → Decides r (Alike q d b words)
  alike-words e n s = record {
    holds = λ t. record { known = e; first = sym (beq_same _ _ n); same = s.holds t };
    fails = λ t a. s.fails t a.same;
  }

pub alike-finds : (q : Plan) {d : Decided} {b : ℕ} {words : List ℕ} → Remembers q d → Alike q d b words
    → Finds (field q b) (level q b) (covered q b) (register words) d.found
alike-finds q {b = b} m a = rw (← a.same) (m.finds a.known b a.first)

-- two blocks of which both are of the first, or both are not, have one shape
one-shape : (q : Plan) (b c : ℕ) → ltb b q.firsts ≡ ltb c q.firsts → shape q b ≡ shape q c
unfolding shape
one-shape q b c e = rw e

-- what was found for a block, to be remembered
pub block-decided : (q : Plan) (page : List ℕ) (b : ℕ) {d : Decided} → Valid q → b < q.blocks → register d.remainder.words ≡ remainder_at q page b
    → Finds (field q b) (level q b) (covered q b) (register d.remainder.words) d.found → d.count ≡ count_at q page b d.found
    → d.first ≡ ltb b q.firsts → BlockDecided q page b d
block-decided q page b {d} v inside left finds count first = record {
  at = found-decided q page v b inside left finds count;
  size = finds.size;
  remembers = record {
    finds = λ t c e.
        subst (λ (s : Shape). Finds s.field s.level s.covered (register d.remainder.words) d.found)
        (one-shape q b c (sym first ∙ e)) finds;
  };
}

-- the fields of the blocks

pub later-field : (q : Plan) (b : ℕ) → Planned q → 0 < b → OneField q b
later-field q b p l = record { each = λ c m i. (p.behind c (omega arith) i).0 }

pub same-field : (q : Plan) (b : ℕ) → Planned q → degree q.first.field ≡ degree q.later.field → OneField q b
same-field q b p e = record { each = λ c m i. at c i }
  where
    at : (c : ℕ) → c < q.blocks → field q c ≡ q.later.field
    at zero i = ap (λ (s : Shape). s.field) (sym (shape-zero q p)) ∙ degree-field _ _ e
    at (suc c) i = (p.behind (suc c) (omega arith) i).0

pub levels-below : (q : Plan) (t : ℕ) → Planned q → q.first.level ≤ t → q.later.level ≤ t → (b : ℕ) → b < q.blocks → level q b ≤ t
levels-below q t p l m zero i = let e : level q 0 ≡ q.first.level = ap (λ (s : Shape). s.level) (sym (shape-zero q p)) in omega (arith, e)
levels-below q t p l m (suc b) i = let e : level q (suc b) ≡ q.later.level = (p.behind (suc b) (omega arith) i).1 in omega (arith, e)

pub one-field-serves : (q : Plan) (t : ℕ) {powers logs rows : List ℕ} → ((b : ℕ) → b < q.blocks → level q b ≤ t)
    → Decoding q.later.field t powers logs rows → (b : ℕ) → OneField q b → Serves q b powers logs rows
one-field-serves q t h d b o = record { each = λ c l i. rw (o.each c l i) (decoding-fewer _ _ _ (h c i) d) }

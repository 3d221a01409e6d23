-- How explaining a block ends, by what is decided of it.
--
-- explain-flips     the exponents that repair the block
-- explain-erased, explain-ruined    none, and at most t zeros, or more
-- decided-flips, decided-erased, decided-ruined, clean-explained    the same of a decided block, by its count
-- list-short, list-long    a list with too few places, and with enough
-- page-unequal, block-outside, block_within    the length of the page, and the block number
-- layout-refused    a record that is refused
use mathlib.Core.Path.{◌≡◌, refl, sym, ◌∙◌}
use mathlib.Core.Bool.{Bool, true, false}
use mathlib.Core.List.{List, ◌++◌}
use Prim.Native.Nat.{ℕ, ◌-◌, ◌≤◌, ◌<◌}
use native.Mathlib.Omega.{arith}
use lib.ListN.{length, drop}
use lib.Dec.{leb}
use borrow.Author.Tests.{le-leb, lt-leb, lt-ltb, le-ltb, eq-eqb, ne_eqb}
use Rattle.layout_plan.specs.declared.Shape.{Shape}
use Rattle.layout_plan.specs.declared.Plan.{Plan}
use Rattle.layout.specs.declared.Refusal.{Refusal}
use Rattle.layout_plan.specs.declared.Layout.{Layout}
use Rattle.std.specs.Prelude.{Result, Ok, Err}
use Rattle.layout_plan.specs.Plan.{shape, bits, field, level, Valid}
use Rattle.replies.specs.declared.Refusal.TheVariants as row
use Rattle.code.specs.Word.{Word, zeros}
use Rattle.code.specs.Code.{Near, Ruined}
use Rattle.code.specs.Outcome.{nearest, erased_count}
use Rattle.code.specs.Locations.{listed, exponents}
use Rattle.code.proofs.Locations.{exponents-locate, locates-near}
use Rattle.code.proofs.Outcome.{count_zeros}
use Rattle.page_theory.specs.Page.{block_word}
use Rattle.page_theory.proofs.Blocks.{block_word-length, block_word-fits}
use Rattle.page_decide.specs.Scanning.{remainder_at, LocatedAt}
use Rattle.page_decide.specs.Deciding.{DecidedAt}
use Rattle.page_decide.proofs.Deciding.{clean-decided}
use Rattle.explain.specs.declared.About.TheVariants as about
use Rattle.explain.specs.declared.Why.{Why}
use Rattle.explain.specs.Reasons.{why, why_of}
use Rattle.page_explain.specs.declared.BlockFinding.TheVariants as finding
use Rattle.page_explain.specs.Explain.{differing, positions, flips, Explained, explained, listing, explain_by, explain_at, explain_asked, explain_in, explain_for}
use Rattle.page_explain.proofs.Listing.{near-exponents, positions-length}

exponents-injective : {ps qs : List ℕ} → exponents ps ≡ exponents qs → ps ≡ qs
exponents-injective e = cc

module _ (q : Plan) (page : List ℕ) (v : Valid q) (b : ℕ) (inside : b < q.blocks) (list : List ℕ) where
  module _ (ps : List ℕ) (located : LocatedAt q page b ps) where
    -- the flips, as locating lists them
    pub explain-flips : explained (Ok (finding.Flips (length ps) (level q b))) (positions q b ps ++ drop (length ps) list) ≡ explain_at q page b list
    unfolding explain_at explain_by flips listing remainder_at
    explain-flips = go (nearest (field q b) (level q b) (block_word q page b))
      where
        w : Word
        w = block_word q page b

        go : (d : Dec ((c : Word) × Near (field q b) (level q b) w c))
            → explained (Ok (finding.Flips (length ps) (level q b))) (positions q b ps ++ drop (length ps) list) ≡ explain_by q b list d (leb (zeros w) (level q b))
        go (yes (c, near)) =
            let e : exponents ps ≡ exponents (listed (differing w c)) =
            sym located ∙ (rw (block_word-length q page b) at (near-exponents _ _ w c (block_word-fits q v page b inside) near)) in
            let l : ps ≡ listed (differing w c) = exponents-injective e in
            rw (← l, positions-length q b ps)
        go (no none) =
            let x = exponents-locate _ _ _ _ ps located in
            absurd (none (_, locates-near _ _ w x.set (v.strong b inside) (rw (block_word-length q page b) x.locates)))

  module _ (none : Ruined (field q b) (level q b) (block_word q page b)) where
    nowhere-explained : (few : Bool) {e : Explained}
        → ((n : ((c : Word) × Near (field q b) (level q b) (block_word q page b) c) → ⊥) → e ≡ explain_by q b list (no n) few)
        → e ≡ explain_by q b list (nearest (field q b) (level q b) (block_word q page b)) few
    nowhere-explained few {e} h = go (nearest (field q b) (level q b) (block_word q page b))
      where
        go : (d : Dec ((c : Word) × Near (field q b) (level q b) (block_word q page b) c)) → e ≡ explain_by q b list d few
        go (yes (c, near)) = absurd (none.none c near)
        go (no n) = h n

    pub explain-erased : zeros (block_word q page b) ≤ level q b → explained (Ok (finding.Erased (zeros (block_word q page b)) (level q b))) list ≡ explain_at q page b list
    unfolding explain_at explain_by
    explain-erased few = rw (le-leb (zeros (block_word q page b)) (level q b) few) (nowhere-explained true (λ n. refl))

    pub explain-ruined : level q b < zeros (block_word q page b) → explained (Ok (finding.Ruined b (level q b))) list ≡ explain_at q page b list
    unfolding explain_at explain_by
    explain-ruined many = rw (lt-leb (zeros (block_word q page b)) (level q b) many) (nowhere-explained false (λ n. refl))

  -- a decided block of the shape s, by its count
  module _ {s : Shape} (es : s ≡ shape q b) where
    module _ {ps : List ℕ} {n : ℕ} (d : DecidedAt q page b ps n) where
      pub decided-flips : n < 128 → {l : List ℕ} → l ≡ positions q b ps ++ drop n list
          → explained (Ok (finding.Flips n s.level)) l ≡ explain_at q page b list
      decided-flips low e = rw (es, e, ← d.flips low) (explain-flips ps (d.repaired low))

      pub decided-erased : 128 ≤ n → ¬ (n ≡ 255) → explained (Ok (finding.Erased (n - 128) s.level)) list ≡ explain_at q page b list
      unfolding erased_count
      decided-erased low other =
          let g = count_zeros _ _ (bits q b) _ _ n (v.strong b inside) (d.erased low (omega (arith, d.small, other))) low in
          let z : n - 128 ≡ zeros (block_word q page b) = omega (arith, g.count) in
          rw (es, z) (explain-erased g.none g.few)

      pub decided-ruined : n ≡ 255 → explained (Ok (finding.Ruined b s.level)) list ≡ explain_at q page b list
      decided-ruined e = let h = d.ruined (omega arith) in rw es (explain-ruined h.none h.many)

    pub clean-explained : remainder_at q page b ≡ 0 → explained (Ok (finding.Flips 0 s.level)) list ≡ explain_at q page b list
    unfolding positions
    clean-explained e = decided-flips (clean-decided q page v b inside e) (omega arith) refl

-- the length of the list
module _ (q : Plan) (page : List ℕ) (b : ℕ) (list : List ℕ) where
  module _ {s : Shape} (es : s ≡ shape q b) where
    pub list-short : length list < s.level
        → explained (Err (why row.BufferLength about.List (length list) s.level)) list ≡ explain_asked q page b list
    unfolding explain_asked
    list-short l = let k : length list < level q b = rw es at l in rw (es, lt-leb (level q b) (length list) k)

    pub list-long : s.level ≤ length list → {e : Explained} → e ≡ explain_at q page b list → e ≡ explain_asked q page b list
    unfolding explain_asked
    list-long l h = let k : level q b ≤ length list = rw es at l in rw (le-leb (level q b) (length list) k) h

  -- the length of the page, and the block number
  pub page-unequal : ¬ (length page ≡ q.size) → explained (Err (why row.PageLength about.Lent (length page) q.size)) list ≡ explain_in q page b list
  unfolding explain_in
  page-unequal h = rw (ne_eqb (length page) q.size h)

  module _ (size : length page ≡ q.size) where
    pub block-outside : q.blocks ≤ b → explained (Err (why row.OutOfRange about.Block b q.blocks)) list ≡ explain_in q page b list
    unfolding explain_in
    block-outside l = rw (eq-eqb (length page) q.size size, le-ltb b q.blocks l)

    pub block_within : b < q.blocks → {e : Explained} → e ≡ explain_asked q page b list → e ≡ explain_in q page b list
    unfolding explain_in
    block_within l h = rw (eq-eqb (length page) q.size size, lt-ltb b q.blocks l) h

-- the record is refused
pub layout-refused : (e n : ℕ) (page : List ℕ) (b : ℕ) (list : List ℕ) {a : Result Layout Refusal} {x : Refusal} {y : Why} → y ≡ why_of e n x → a ≡ Err x
    → explained (Err y) list ≡ explain_for e n a page b list
unfolding explain_for
layout-refused e n page b list h k = rw (h, k)

-- The two calls on two pages reply as their lists of rules say, so each reply is given exactly if its rule applies and none before it does; after the
-- edition and the record's length the turns never fall (replies/Given). No block goes with a reply. Reply 9 is never given.
--
-- compare-replies, compare-exactly, compare-ascending               comparing two pages
-- difference-replies, difference-exactly, difference-ascending      the next position
-- compare-other, difference-other                                   the reply is not 9
use mathlib.Core.Path.{◌≡◌, refl}
use mathlib.Core.Bool.{Bool, true, false, cond}
use mathlib.Core.List.{List, [], ◌∷◌, ◌++◌}
use Prim.Native.Nat.{ℕ}
use native.Mathlib.Omega.{arith}
use lib.ListN.{length, drop}
use lib.Dec.{eqb, leb}
use Rattle.replies.specs.declared.Refusal.TheVariants.{PageLength, BufferLength}
use Rattle.replies.specs.Replies as replies
use Rattle.replies.specs.Replies.{number, block, verdict_number, verdict_block, unequal, rule, verdict, reply, reply_block}
use Rattle.replies.specs.Given.{Follows, Exactly, turn, at_most, ascending}
use Rattle.replies.proofs.Given.{exactly}
use Rattle.layout_plan.specs.declared.Plan.{Plan}
use Rattle.layout.specs.declared.Rule.{Rule}
use Rattle.layout.specs.declared.Rule.TheVariants as rule
use Rattle.layout.specs.declared.Refusal.{Refusal}
use Rattle.layout.specs.declared.Refusal.TheVariants as refusal
use Rattle.layout_plan.specs.declared.Layout.{Layout}
use Rattle.std.specs.Prelude.{None, Result, Ok, Err}
use Rattle.layout_plan.specs.Record.{Words}
use Rattle.layout_plan.specs.Plan.{plan_of}
use Rattle.layout.specs.Acceptance.{acceptance, rule_refusal, refusal_of, refusal_reply}
use Rattle.layout_replies.specs.ReplyRules.{Ruled, accepts, refuses, field_rules, layout_rules}
use Rattle.layout_replies.proofs.ReplyRules.{words-ruled, accepted-follows, refused-follows}
use Rattle.page_theory.specs.Reading.{counts}
use Rattle.differences.specs.Differences.{next}
use Rattle.compare.specs.Calls as call
use Rattle.compare.specs.Calls.{pages_reply, counts_reply, Compared, compared, compare_lent, compare_for, compare_of, Found, found, difference_for, difference_of}
use Rattle.compare.specs.ReplyRules as rules
use Rattle.compare.specs.ReplyRules.{too_large, compare_rules, difference_rules}

-- no layout is refused with 9
layout-other : (r : Refusal) → refusal_reply r ≡ 9 → ⊥
unfolding refusal_reply refusal_of rule_refusal number
layout-other refusal.Edition e = absurd (omega arith)
layout-other refusal.RecordLength e = absurd (omega arith)
layout-other (refusal.Rule r) e = go r.rule e
  where
    go : (x : Rule) → number (rule_refusal x) ≡ 9 → ⊥
    go rule.Level e = absurd (omega arith)
    go rule.Message e = absurd (omega arith)
    go rule.Length e = absurd (omega arith)
    go rule.Outside e = absurd (omega arith)
    go rule.Room e = absurd (omega arith)
layout-other refusal.Range e = absurd (omega arith)

module _ (first second lent other : List ℕ) where
  -- how a comparison ends by what is right: both pages, PAGE_SIZE, both counts
  abbrev ends : Plan → (a b c x y : Bool) → Compared
  ends q a b c x y =
      cond (eqb (cond a (cond b (cond c 0 6) 5) 5) 0)
      (cond (eqb (cond x (cond y 0 6) 6) 0) (compared 0 (counts q first) (counts q second)) (compared (cond x (cond y 0 6) 6) lent other))
      (compared (cond a (cond b (cond c 0 6) 5) 5) lent other)

  compare-in : (q : Plan) → Follows (rules.compare_in q first second lent other) (call.compare_in q first second lent other).reply 0
  unfolding rules.compare_in too_large call.compare_in compare_lent pages_reply counts_reply unequal reply reply_block verdict verdict_number verdict_block number block
  compare-in q =
      go (eqb (length first) q.size) (eqb (length second) q.size) (leb q.size 16384) (eqb (length lent) q.blocks) (eqb (length other) q.blocks)
    where
      go : (a b c x y : Bool) → Follows
          (rule (cond a false true) PageLength
          ∷ rule (cond b false true) PageLength
          ∷ rule (cond c false true) BufferLength
          ∷ rule (cond x false true) BufferLength
          ∷ rule (cond y false true) BufferLength
          ∷ [])
          (ends q a b c x y).reply 0
      go true true true true true = record { number = refl; beside = refl }
      go true true true true false = record { number = refl; beside = refl }
      go true true true false y = record { number = refl; beside = refl }
      go true true false x y = record { number = refl; beside = refl }
      go true false c x y = record { number = refl; beside = refl }
      go false b c x y = record { number = refl; beside = refl }

  in-other : (q : Plan) → (call.compare_in q first second lent other).reply ≡ 9 → ⊥
  unfolding call.compare_in compare_lent pages_reply counts_reply
  in-other q =
      go (eqb (length first) q.size) (eqb (length second) q.size) (leb q.size 16384) (eqb (length lent) q.blocks) (eqb (length other) q.blocks)
    where
      go : (a b c x y : Bool) → (ends q a b c x y).reply ≡ 9 → ⊥
      go true true true true true e = absurd (omega arith)
      go true true true true false e = absurd (omega arith)
      go true true true false y e = absurd (omega arith)
      go true true false x y e = absurd (omega arith)
      go true false c x y e = absurd (omega arith)
      go false b c x y e = absurd (omega arith)

  compare-for : {before : List replies.Rule} {q : Plan} {a : Result Layout Refusal} → Ruled before q a
      → Follows (before ++ rules.compare_in q first second lent other) (compare_for a first second lent other).reply 0
  unfolding compare_for
  compare-for (accepts l none) = accepted-follows none (compare-in (plan_of l))
  compare-for {before} (refuses q r e) = refused-follows before r e _

  module _ (rec : Words) where
    pub compare-replies : Follows (compare_rules rec first second lent other) (compare_of rec first second lent other).reply 0
    unfolding compare_rules compare_of
    compare-replies = compare-for (words-ruled rec)

    pub compare-exactly : Exactly (compare_rules rec first second lent other) (compare_of rec first second lent other).reply 0
    compare-exactly = exactly (compare_rules rec first second lent other) compare-replies

    pub compare-ascending : ascending (drop 2 (compare_rules rec first second lent other)) ≡ true
    unfolding compare_rules rules.compare_in layout_rules field_rules ascending at_most turn number
    compare-ascending = refl

    pub compare-other : (compare_of rec first second lent other).reply ≡ 9 → ⊥
    unfolding compare_of compare_for
    compare-other = go (acceptance rec)
      where
        go : (a : Result Layout Refusal) → (compare_for a first second lent other).reply ≡ 9 → ⊥
        go (Ok l) e = in-other (plan_of l) e
        go (Err r) e = layout-other r e

module _ (first second : List ℕ) (p : ℕ) where
  -- how the call ends by what is right: both pages, PAGE_SIZE
  abbrev answers : Plan → (a b c : Bool) → Found
  answers q a b c =
      cond (eqb (cond a (cond b (cond c 0 6) 5) 5) 0) (found 0 (next q.mark q.size first second p)) (found (cond a (cond b (cond c 0 6) 5) 5) None)

  difference-in : (q : Plan) → Follows (rules.difference_in q first second) (call.difference_in q first second p).reply 0
  unfolding rules.difference_in too_large call.difference_in pages_reply unequal reply reply_block verdict verdict_number verdict_block number block
  difference-in q = go (eqb (length first) q.size) (eqb (length second) q.size) (leb q.size 16384)
    where
      go : (a b c : Bool) → Follows
          (rule (cond a false true) PageLength ∷ rule (cond b false true) PageLength ∷ rule (cond c false true) BufferLength ∷ [])
          (answers q a b c).reply 0
      go true true true = record { number = refl; beside = refl }
      go true true false = record { number = refl; beside = refl }
      go true false c = record { number = refl; beside = refl }
      go false b c = record { number = refl; beside = refl }

  found-other : (q : Plan) → (call.difference_in q first second p).reply ≡ 9 → ⊥
  unfolding call.difference_in pages_reply
  found-other q = go (eqb (length first) q.size) (eqb (length second) q.size) (leb q.size 16384)
    where
      go : (a b c : Bool) → (answers q a b c).reply ≡ 9 → ⊥
      go true true true e = absurd (omega arith)
      go true true false e = absurd (omega arith)
      go true false c e = absurd (omega arith)
      go false b c e = absurd (omega arith)

  difference-for : {before : List replies.Rule} {q : Plan} {a : Result Layout Refusal} → Ruled before q a
      → Follows (before ++ rules.difference_in q first second) (difference_for a first second p).reply 0
  unfolding difference_for
  difference-for (accepts l none) = accepted-follows none (difference-in (plan_of l))
  difference-for {before} (refuses q r e) = refused-follows before r e _

  module _ (rec : Words) where
    pub difference-replies : Follows (difference_rules rec first second) (difference_of rec first second p).reply 0
    unfolding difference_rules difference_of
    difference-replies = difference-for (words-ruled rec)

    pub difference-exactly : Exactly (difference_rules rec first second) (difference_of rec first second p).reply 0
    difference-exactly = exactly (difference_rules rec first second) difference-replies

    pub difference-ascending : ascending (drop 2 (difference_rules rec first second)) ≡ true
    unfolding difference_rules rules.difference_in layout_rules field_rules ascending at_most turn number
    difference-ascending = refl

    pub difference-other : (difference_of rec first second p).reply ≡ 9 → ⊥
    unfolding difference_of difference_for
    difference-other = go (acceptance rec)
      where
        go : (a : Result Layout Refusal) → (difference_for a first second p).reply ≡ 9 → ⊥
        go (Ok l) e = found-other (plan_of l) e
        go (Err r) e = layout-other r e

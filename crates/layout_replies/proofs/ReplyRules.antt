-- Each call about a layout replies as its list of rules says, so each reply is given exactly if its rule applies and none before it does. This is said of
-- whatever names the layout, with its list of rules; `words-ruled` and `words-ascends` give that of layout words.
use Rattle.std.specs.Prelude.{⊤, Result, Ok, Err}
use Rattle.layout_plan.specs.declared.Layout.{Layout}
use mathlib.Core.Path.{◌≡◌, refl, sym, ap, ◌∙◌}
use mathlib.Core.Bool.{Bool, true, false, cond, true≢false}
use mathlib.Core.List.{List, [], ◌∷◌, ◌++◌}
use Prim.Native.Nat.{ℕ, zero, suc, ◌*◌, ◌≤◌}
use native.Mathlib.Omega.{arith}
use native.Mathlib.Decide.{dec_lt}
use lib.ListN.{length, drop}
use lib.Dec.{eqb, ltb, leb, eqb-suc-zero, lit≤}
use borrow.Author.Tests.{lt-ltb, le-ltb, le-leb, lt-leb, leb-true}
use Rattle.replies.specs.declared.Refusal as table
use Rattle.replies.specs.declared.Refusal.TheVariants as row
use Rattle.replies.specs.declared.Refusal.TheVariants.{PageLength, OutOfRange}
use Rattle.replies.specs.Replies as replies
use Rattle.replies.specs.Replies.{number, block, verdict_number, verdict_block, rule, verdict, reply, reply_block}
use Rattle.replies.specs.Edition.{offered, highest}
use Rattle.replies.specs.Given.{None, Follows, Exactly, turn, at_most, ascending}
use Rattle.replies.proofs.Given.{follows-done, follows_next, follows-here, none-verdict, verdict-none, append-kept, append-refused, exactly}
use Rattle.layout_plan.specs.declared.Fields.{Fields}
use Rattle.layout_plan.specs.declared.Plan.{Plan}
use Rattle.layout.specs.declared.Reason.{Reason}
use Rattle.layout.specs.declared.Rule.{Rule}
use Rattle.layout.specs.declared.Rule.TheVariants.{Level, Message, Length, Outside, Room}
use Rattle.layout.specs.declared.Refusal.{Refusal}
use Rattle.layout.specs.declared.Refusal.TheVariants as refusal
use Rattle.layout_plan.specs.Record.{Words, fields_in, layout_of, record_length}
use Rattle.layout_plan.specs.Plan.{plan_of, covered}
use Rattle.layout.specs.Acceptance.{test, level_rule, message_rule, length_rule, mark_rule, room_rule, either, of_blocks, finding_of, judged, acceptance, rule_refusal, refusal_of, refusal_reply}
use Rattle.layout.specs.Answers as numbers
use Rattle.layout.specs.Answers.{acceptance_numbers, bit_numbers, position_numbers}
use Rattle.layout.specs.declared.BitPlace.{BitPlace}
use Rattle.layout.specs.declared.BitPlace.TheVariants as bit
use Rattle.layout.specs.Bits.{bit_in, bit_for, position_in, position_for}
use Rattle.layout_replies.specs.ReplyRules.{Ruled, accepts, refuses, Ascends, too_long, of_later, field_rules, layout_rules, bit_rules, position_rules}

-- ---- findings

-- What a finding is in the table.
unfoldable pub found : Result ⊤ Reason → Result ⊤ table.Refusal
found (Ok _) = Ok _
found (Err r) = Err (rule_refusal r.rule)

-- A list of rules says what was found.
pub record Says (rules : List replies.Rule) (f : Result ⊤ Reason) : Type 0 where
  pub same : verdict rules ≡ found f

says-test : (b : Bool) (r : Reason) → Says (rule b (rule_refusal r.rule) ∷ []) (test b r)
unfolding test found verdict
says-test true r = record { same = refl }
says-test false r = record { same = refl }

says-either : {rs ss : List replies.Rule} (f : Result ⊤ Reason) {g : Result ⊤ Reason} → Says rs f → Says ss g → Says (rs ++ ss) (either f g)
unfolding found either
says-either {rs} {ss} (Ok _) p q = record { same = append-kept rs ss (verdict-none rs p.same) ∙ q.same }
says-either {rs} {ss} (Err r) p q = record { same = append-refused rs ss (rule_refusal r.rule) p.same }

-- the rules of block 0 and of the later blocks
says-blocks : (f : Fields) (a b : Bool) (r s : Reason) → r.rule ≡ s.rule
    → Says (rule a (rule_refusal r.rule) ∷ rule (of_later f b) (rule_refusal r.rule) ∷ []) (of_blocks f.nblocks (test a r) (test b s))
unfolding of_blocks of_later either test found verdict
says-blocks f a b r s e = go (eqb f.nblocks 0) a b
  where
    go : (z a b : Bool) → Says (rule a (rule_refusal r.rule) ∷ rule (cond z false b) (rule_refusal r.rule) ∷ []) (cond z (test a r) (either (test a r) (test b s)))
    go true true b = record { same = refl }
    go true false b = record { same = refl }
    go false true b = record { same = refl }
    go false false true = record { same = rw e }
    go false false false = record { same = refl }

empty-test : (n : ℕ) → eqb n 0 ≡ ltb n 1
empty-test zero = refl
empty-test (suc n) = rw (eqb-suc-zero n, le-ltb (suc n) 1 (omega arith))

pub says-fields : (f : Fields) (q : Plan) → Says (field_rules f q) (finding_of f q)
unfolding field_rules finding_of level_rule message_rule length_rule mark_rule room_rule too_long rule_refusal
says-fields f q = rw (empty-test q.first.message, empty-test q.later.message)
    (says-either _ (says-blocks f (ltb (highest f.edition) f.first.ecc) (ltb (highest f.edition) f.later.ecc) _ _ refl)
    (says-either _ (says-blocks f (ltb q.first.message 1) (ltb q.later.message 1) _ _ refl)
    (says-either _ (says-blocks f (too_long q.first) (too_long q.later) _ _ refl)
    (says-either _ (says-either _ (says-test _ _) (says-test _ _))
    (says-test _ _)))))

-- ---- the answer to a record

-- no refusal of this crate names a block
pub refusal-block : (r : Refusal) → block (refusal_of r) ≡ 0
unfolding refusal_of rule_refusal block
refusal-block refusal.Edition = refl
refusal-block refusal.RecordLength = refl
refusal-block (refusal.Rule r) = go r.rule
  where
    go : (x : Rule) → block (rule_refusal x) ≡ 0
    go Level = refl
    go Message = refl
    go Length = refl
    go Outside = refl
    go Room = refl
refusal-block refusal.Range = refl

module _ (w : Words) where
  edition-wrong : offered w.edition ≡ false → verdict (layout_rules w) ≡ Err row.OutOfRange
  unfolding layout_rules verdict
  edition-wrong o = rw o

  module _ (o : offered w.edition ≡ true) where
    record-right : record_length (length w.bytes) ≡ true → verdict (layout_rules w) ≡ found (finding_of (fields_in w) (plan_of (layout_of w)))
    unfolding layout_rules verdict
    record-right e = rw (o, e) (says-fields (fields_in w) (plan_of (layout_of w))).same

    record-wrong : record_length (length w.bytes) ≡ false → verdict (layout_rules w) ≡ Err row.BufferLength
    unfolding layout_rules verdict
    record-wrong e = rw (o, e)

-- Layout words are answered by their rules.
pub words-ruled : (w : Words) → Ruled (layout_rules w) (plan_of (layout_of w)) (acceptance w)
unfolding acceptance judged found refusal_of
words-ruled w = go (offered w.edition) refl (record_length (length w.bytes)) refl (finding_of (fields_in w) (plan_of (layout_of w))) refl
  where
    go : (o : Bool) → offered w.edition ≡ o → (b : Bool) → record_length (length w.bytes) ≡ b
        → (f : Result ⊤ Reason) → finding_of (fields_in w) (plan_of (layout_of w)) ≡ f
        → Ruled (layout_rules w) (plan_of (layout_of w)) (cond o (cond b (judged (layout_of w) f) (Err refusal.RecordLength)) (Err refusal.Edition))
    go true o true e (Ok _) g = accepts (layout_of w) (verdict-none _ (record-right w o e ∙ ap found g))
    go true o true e (Err r) g = refuses _ (refusal.Rule r) (record-right w o e ∙ ap found g)
    go true o false e f g = refuses _ refusal.RecordLength (record-wrong w o e)
    go false o b e f g = refuses _ refusal.Edition (edition-wrong w o)

-- ---- any layout

-- A refused layout is what every call with it replies, whatever its further rules are.
pub refused-follows : (before : List replies.Rule) (r : Refusal) → verdict before ≡ Err (refusal_of r) → (rest : List replies.Rule)
    → Follows (before ++ rest) (refusal_reply r) 0
unfolding refusal_reply reply reply_block verdict_number verdict_block
refused-follows before r e rest = let k = append-refused before rest (refusal_of r) e in
    record { number = rw k; beside = rw k (sym (refusal-block r)) }

-- An accepted one leaves it to them.
pub accepted-follows : {before rest : List replies.Rule} {n b : ℕ} → None before → Follows rest n b → Follows (before ++ rest) n b
unfolding reply reply_block
accepted-follows {before} {rest} none f = let k = append-kept before rest none in
    record { number = rw k f.number; beside = rw k f.beside }

-- ---- the calls

pub layout-replies : {before : List replies.Rule} {q : Plan} {a : Result Layout Refusal} → Ruled before q a
    → Follows before (acceptance_numbers a).reply (acceptance_numbers a).block
unfolding acceptance_numbers numbers.done numbers.refused refusal_reply reply reply_block verdict_number verdict_block
layout-replies {before} (accepts l none) = let k = none-verdict before none in record { number = rw k; beside = rw k }
layout-replies (refuses q r e) = record { number = rw e; beside = rw e (sym (refusal-block r)) }

pub layout-exactly : {before : List replies.Rule} {q : Plan} {a : Result Layout Refusal} → Ruled before q a
    → Exactly before (acceptance_numbers a).reply (acceptance_numbers a).block
layout-exactly h = exactly _ (layout-replies h)

-- Bits.

module _ (q : Plan) where
  -- a place, whichever it is
  place-done : (at : BitPlace) → Follows [] (bit_numbers (Ok at)).reply (bit_numbers (Ok at)).block
  unfolding bit_numbers numbers.done
  place-done (bit.InBlock b e) = follows-done
  place-done bit.Tail = follows-done
  place-done bit.Mark = follows-done

  bit_in_lem : (p : ℕ) → Follows (rule (leb (8 * q.size) p) OutOfRange ∷ []) (bit_numbers (bit_in q p)).reply (bit_numbers (bit_in q p)).block
  unfolding bit_in bit_numbers numbers.refused refusal_reply refusal_of number block
  bit_in_lem p = elim (dec_lt p (8 * q.size)) [
    | yes h ↦ rw (lt-ltb p (8 * q.size) h) (follows_next _ (lt-leb (8 * q.size) p h) (place-done _))
    | no h ↦ rw (le-ltb p (8 * q.size) (omega arith)) (follows-here _ (le-leb (8 * q.size) p (omega arith)))
  ]

  position_in_lem : (b e : ℕ) → Follows (rule (leb q.blocks b) OutOfRange ∷ rule (leb (covered q b) e) OutOfRange ∷ [])
      (position_numbers (position_in q b e)).reply (position_numbers (position_in q b e)).block
  unfolding position_in position_numbers numbers.done numbers.refused refusal_reply refusal_of number block
  position_in_lem b e = elim (dec_lt b q.blocks) [
    | no h ↦ rw (le-ltb b q.blocks (omega arith)) (follows-here _ (le-leb q.blocks b (omega arith)))
    | yes h ↦ elim (dec_lt e (covered q b)) [
      | no k ↦ rw (lt-ltb b q.blocks h, le-ltb e (covered q b) (omega arith))
          (follows_next _ (lt-leb q.blocks b h) (follows-here _ (le-leb (covered q b) e (omega arith))))
      | yes k ↦ rw (lt-ltb b q.blocks h, lt-ltb e (covered q b) k)
          (follows_next _ (lt-leb q.blocks b h) (follows_next _ (lt-leb (covered q b) e k) follows-done))
    ]
  ]

pub bit-replies : {before : List replies.Rule} {q : Plan} {a : Result Layout Refusal} → Ruled before q a → (p : ℕ)
    → Follows (bit_rules before q p) (bit_numbers (bit_for a p)).reply (bit_numbers (bit_for a p)).block
unfolding bit_rules bit_for bit_numbers numbers.refused
bit-replies (accepts l none) p = accepted-follows none (bit_in_lem (plan_of l) p)
bit-replies {before} (refuses q r e) p = refused-follows before r e _

pub bit-exactly : {before : List replies.Rule} {q : Plan} {a : Result Layout Refusal} → Ruled before q a → (p : ℕ)
    → Exactly (bit_rules before q p) (bit_numbers (bit_for a p)).reply (bit_numbers (bit_for a p)).block
bit-exactly h p = exactly (bit_rules _ _ p) (bit-replies h p)

pub position-replies : {before : List replies.Rule} {q : Plan} {a : Result Layout Refusal} → Ruled before q a → (b e : ℕ)
    → Follows (position_rules before q b e) (position_numbers (position_for a b e)).reply (position_numbers (position_for a b e)).block
unfolding position_rules position_for position_numbers numbers.refused
position-replies (accepts l none) b e = accepted-follows none (position_in_lem (plan_of l) b e)
position-replies {before} (refuses q r h) b e = refused-follows before r h _

pub position-exactly : {before : List replies.Rule} {q : Plan} {a : Result Layout Refusal} → Ruled before q a → (b e : ℕ)
    → Exactly (position_rules before q b e) (position_numbers (position_for a b e)).reply (position_numbers (position_for a b e)).block
position-exactly h b e = exactly (position_rules _ _ b e) (position-replies h b e)

-- ---- the order of the rules

drop-append : {A : Type 0} (n : ℕ) (xs ys : List A) → n ≤ length xs → drop n (xs ++ ys) ≡ drop n xs ++ ys
drop-append zero xs ys l = refl
drop-append (suc n) [] ys l = absurd (omega arith)
drop-append (suc n) (x ∷ xs) ys l = drop-append n xs ys (omega arith)

-- Rules that ascend up to one of reply 5 ascend with any ascending rules from 5 on.
module _ (x : replies.Rule) (ss : List replies.Rule) (from : turn 5 ≤ turn (number x.why)) where
  later-turn : (n : ℕ) (rs : List replies.Rule) → at_most n (rs ++ (rule true PageLength ∷ [])) ≡ true → at_most n (rs ++ (x ∷ ss)) ≡ true
  unfolding at_most number
  later-turn n [] h = let k = leb-true (turn n) (turn 5) h in le-leb (turn n) (turn (number x.why)) (omega arith)
  later-turn n (r ∷ rs) h = h

  later-rules : (rs : List replies.Rule) → ascending (rs ++ (rule true PageLength ∷ [])) ≡ true → ascending (x ∷ ss) ≡ true → ascending (rs ++ (x ∷ ss)) ≡ true
  unfolding ascending
  later-rules [] h k = k
  later-rules (r ∷ rs) h k =
      go (at_most (number r.why) (rs ++ (rule true PageLength ∷ []))) h (later-turn (number r.why) rs) (λ e. later-rules rs e k)
    where
      go : (b : Bool) {c d e : Bool} → cond b c false ≡ true → (b ≡ true → d ≡ true) → (c ≡ true → e ≡ true) → cond d e false ≡ true
      go true h f g = rw (f refl) (g h)
      go false h f g = absurd (true≢false (sym h))

  pub ascends-after : {n : ℕ} {before : List replies.Rule} → Ascends n before → ascending (x ∷ ss) ≡ true → ascending (drop n (before ++ (x ∷ ss))) ≡ true
  ascends-after {n} {before} h k = rw (drop-append n before (x ∷ ss) h.first) (later-rules (drop n before) h.rest k)

-- After the rules that are looked at first the turns never fall: where several rules apply the first turn wins (replies/Given `smallest-after`).
module _ {n : ℕ} {before : List replies.Rule} (h : Ascends n before) (q : Plan) where
  pub bit-ascending : (p : ℕ) → ascending (drop n (bit_rules before q p)) ≡ true
  unfolding bit_rules ascending at_most turn number
  bit-ascending p = ascends-after _ _ (lit≤ tt) h refl

  pub position-ascending : (b e : ℕ) → ascending (drop n (position_rules before q b e)) ≡ true
  unfolding position_rules ascending at_most turn number
  position-ascending b e = ascends-after _ _ (lit≤ tt) h refl

-- Of layout words the edition and the record's length are looked at first.
module _ (w : Words) where
  pub words-ascends : Ascends 2 (layout_rules w)
  unfolding layout_rules field_rules ascending at_most turn number
  words-ascends = record { first = omega arith; rest = refl }

  pub layout-ascending : ascending (drop 2 (layout_rules w)) ≡ true
  unfolding layout_rules field_rules ascending at_most turn number
  layout-ascending = refl

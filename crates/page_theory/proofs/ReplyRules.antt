-- Each page call replies as its list of rules says, block number included, so each reply is given exactly if its rule applies and none before it
-- does (document 01, "Replies"). `..-replies` says the first, `..-exactly` the second, `..-ascending` that after the rules that are looked at first of
-- all the turns never fall: where several rules apply the smallest number wins, but that 11 comes between 3 and 4 (document 02, E7; replies/Given
-- `smallest-after`). All are said of whatever names the layout, with its list of rules; layout_replies/ReplyRules `words-ruled` and `words-ascends` give that of
-- layout words, where the edition and the record's length are looked at first.
use Rattle.std.specs.Prelude.{Result, Err}
use Rattle.layout.specs.declared.Refusal.{Refusal}
use Rattle.layout_plan.specs.declared.Layout.{Layout}
use mathlib.Core.Path.{◌≡◌, refl, ◌∙◌}
use mathlib.Core.Bool.{Bool, true, false, cond}
use mathlib.Core.List.{List, [], ◌∷◌, ◌++◌}
use Prim.Native.Nat.{ℕ, zero, suc, ◌≤◌}
use native.Mathlib.Omega.{arith}
use lib.ListN.{length, drop}
use lib.Dec.{eqb, ltb, lit≤}
use borrow.Author.Tests.{le-leb}
use Rattle.replies.specs.declared.Refusal.TheVariants.{PageLength, BufferLength, OutOfRange, Uncorrectable, ClaimWrong}
use Rattle.replies.specs.Replies.{number, block, verdict_number, verdict_block, unequal, Rule, rule, verdict, reply, reply_block}
use Rattle.replies.specs.Given as none
use Rattle.replies.specs.Given.{None, Follows, Exactly, turn, at_most, ascending}
use Rattle.replies.proofs.Tests.{leb-not}
use Rattle.replies.proofs.Given.{follows_next, none-verdict, verdict-none, append-kept, append-refused, exactly}
use Rattle.layout_plan.specs.declared.Plan.{Plan}
use Rattle.layout_plan.specs.Plan.{plan_of, field, level}
use Rattle.layout_replies.specs.ReplyRules.{Ruled, accepts, refuses, Ascends}
use Rattle.layout_replies.proofs.ReplyRules.{refused-follows, accepted-follows, ascends-after}
use Rattle.code.specs.Word.{Word}
use Rattle.code.specs.Outcome.{Outcome, good, erased, ruined}
use Rattle.page_theory.specs.Page.{page_of, block_word}
use Rattle.page_theory.specs.Reading.{Reading, done, refused, more, reading_of, reading, outcome, counts}
use Rattle.page_theory.specs.Claim.{Right, right?}
use Rattle.page_theory.specs.Calls as call
use Rattle.page_theory.specs.Calls.{write_ended, write_reply, write_for}
use Rattle.page_theory.specs.Calls.{Looked, look_ended, look_reply, look_by, look_for}
use Rattle.page_theory.specs.Calls.{Taken, take_ended, take_reply, take_by, take_for}
use Rattle.page_theory.specs.Calls.{block_reply, Judged, judge_ended, judge_by, judge_for}
use Rattle.page_theory.specs.Calls.{Claimed, claim_ended, claim_by, claim_for}
use Rattle.page_theory.specs.ReplyRules as rules
use Rattle.page_theory.specs.ReplyRules.{is_ruined, is_wrong, ruined_rules, write_rules, look_rules, take_rules, judge_rules, claim_rules}
use Rattle.page_theory.proofs.Calls as by
use Rattle.page_theory.proofs.Calls.{Replied, look-replied, take-replied}

-- ---- writing

module _ (m d page : List ℕ) where
  write-in : (q : Plan) → Follows (rules.write_in q m d page) (call.write_in q m d page).reply (call.write_in q m d page).block
  unfolding rules.write_in call.write_in write_reply unequal reply reply_block verdict verdict_number verdict_block number block
  write-in q = go (eqb (length page) q.size) (eqb (length m) q.metadata) (eqb (length d) q.«data»)
    where
      go : (a b c : Bool) → Follows
          (rule (cond a false true) PageLength ∷ rule (cond b false true) BufferLength ∷ rule (cond c false true) BufferLength ∷ [])
          (cond (eqb (cond a (cond b (cond c 0 6) 6) 5) 0) (write_ended 0 0 (page_of q page (m ++ d))) (write_ended (cond a (cond b (cond c 0 6) 6) 5) 0 page)).reply
          (cond (eqb (cond a (cond b (cond c 0 6) 6) 5) 0) (write_ended 0 0 (page_of q page (m ++ d))) (write_ended (cond a (cond b (cond c 0 6) 6) 5) 0 page)).block
      go true true true = record { number = refl; beside = refl }
      go true true false = record { number = refl; beside = refl }
      go true false c = record { number = refl; beside = refl }
      go false b c = record { number = refl; beside = refl }

pub write-replies : {before : List Rule} {q : Plan} {a : Result Layout Refusal} → Ruled before q a → (m d page : List ℕ)
    → Follows (write_rules before q m d page) (write_for a m d page).reply (write_for a m d page).block
unfolding write_rules write_for
write-replies (accepts l none) m d page = accepted-follows none (write-in m d page (plan_of l))
write-replies {before} (refuses q r e) m d page = refused-follows before r e _

pub write-exactly : {before : List Rule} {q : Plan} {a : Result Layout Refusal} → Ruled before q a → (m d page : List ℕ)
    → Exactly (write_rules before q m d page) (write_for a m d page).reply (write_for a m d page).block
write-exactly h m d page = exactly (write_rules _ _ m d page) (write-replies h m d page)

-- ---- looking and taking

-- A reading of the first n blocks, and what the rules about them say.
data Reads (q : Plan) (page : List ℕ) (n : ℕ) : Reading → Type 0 where
  whole : (w : Word) → None (ruined_rules q page n) → Reads q page n (done w)
  named : (b : ℕ) → verdict (ruined_rules q page n) ≡ Err (Uncorrectable b) → Reads q page n (refused b)

module _ (q : Plan) (page : List ℕ) where
  reads-next : (n : ℕ) (r : Reading) → Reads q page n r → (o : Outcome) → outcome q page n ≡ o → Reads q page (suc n) (more n r o)
  unfolding more ruined_rules verdict is_ruined
  reads-next n r (whole w none) (good m k) e = whole _ (verdict-none _ (append-kept (ruined_rules q page n) _ none ∙ rw e))
  reads-next n r (whole w none) (erased m z) e = whole _ (verdict-none _ (append-kept (ruined_rules q page n) _ none ∙ rw e))
  reads-next n r (whole w none) ruined e = named n (append-kept (ruined_rules q page n) _ none ∙ rw e)
  reads-next n r (named b h) o e = named b (append-refused (ruined_rules q page n) _ (Uncorrectable b) h)

  reads_first : (n : ℕ) → Reads q page n (reading_of q page n)
  unfolding reading_of ruined_rules
  reads_first zero = whole [] none.end
  reads_first (suc n) = reads-next n (reading_of q page n) (reads_first n) (outcome q page n) refl

  by-reading : {r : Reading} {x b : ℕ} → Reads q page q.blocks r → Replied r x b → Follows (ruined_rules q page q.blocks) x b
  unfolding reply reply_block verdict_number verdict_block number block
  by-reading (whole w none) (by.whole _) = let k = none-verdict (ruined_rules q page q.blocks) none in record { number = rw k; beside = rw k }
  by-reading (named b h) (by.named _) = record { number = rw h; beside = rw h }

  ruined-follows : {x b : ℕ} → Replied (reading q page) x b → Follows (ruined_rules q page q.blocks) x b
  unfolding reading
  ruined-follows h = by-reading (reads_first q.blocks) h

  module _ (c : List ℕ) where
    look-in : Follows (rules.look_in q page c) (call.look_in q page c).reply (call.look_in q page c).block
    unfolding rules.look_in call.look_in look_reply unequal reply reply_block verdict verdict_number verdict_block number block
    look-in = go (eqb (length page) q.size) (eqb (length c) q.blocks)
      where
        replied : (x y : Bool) → Looked
        replied x y = cond (eqb (cond x (cond y 0 6) 5) 0) (look_by (reading q page) (counts q page)) (look_ended (cond x (cond y 0 6) 5) 0 c)

        go : (x y : Bool) → Follows
            (rule (cond x false true) PageLength ∷ rule (cond y false true) BufferLength ∷ ruined_rules q page q.blocks)
            (replied x y).reply (replied x y).block
        go true true = follows_next _ refl (follows_next _ refl (ruined-follows (look-replied (reading q page) (counts q page))))
        go true false = record { number = refl; beside = refl }
        go false y = record { number = refl; beside = refl }

  module _ (m d : List ℕ) where
    take_in_lem : Follows (rules.take_in q page m d) (call.take_in q page m d).reply (call.take_in q page m d).block
    unfolding rules.take_in call.take_in take_reply unequal reply reply_block verdict verdict_number verdict_block number block
    take_in_lem = go (eqb (length page) q.size) (eqb (length m) q.metadata) (eqb (length d) q.«data»)
      where
        replied : (x y z : Bool) → Taken
        replied x y z =
            cond (eqb (cond x (cond y (cond z 0 6) 6) 5) 0) (take_by q (reading q page) m d) (take_ended (cond x (cond y (cond z 0 6) 6) 5) 0 m d)

        go : (x y z : Bool) → Follows
            (rule (cond x false true) PageLength
            ∷ rule (cond y false true) BufferLength
            ∷ rule (cond z false true) BufferLength
            ∷ ruined_rules q page q.blocks)
            (replied x y z).reply (replied x y z).block
        go true true true = follows_next _ refl (follows_next _ refl (follows_next _ refl (ruined-follows (take-replied q (reading q page) m d))))
        go true true false = record { number = refl; beside = refl }
        go true false z = record { number = refl; beside = refl }
        go false y z = record { number = refl; beside = refl }

pub look-replies : {before : List Rule} {q : Plan} {a : Result Layout Refusal} → Ruled before q a → (page c : List ℕ)
    → Follows (look_rules before q page c) (look_for a page c).reply (look_for a page c).block
unfolding look_rules look_for
look-replies (accepts l none) page c = accepted-follows none (look-in (plan_of l) page c)
look-replies {before} (refuses q r e) page c = refused-follows before r e _

pub look-exactly : {before : List Rule} {q : Plan} {a : Result Layout Refusal} → Ruled before q a → (page c : List ℕ)
    → Exactly (look_rules before q page c) (look_for a page c).reply (look_for a page c).block
look-exactly h page c = exactly (look_rules _ _ page c) (look-replies h page c)

pub take-replies : {before : List Rule} {q : Plan} {a : Result Layout Refusal} → Ruled before q a → (page m d : List ℕ)
    → Follows (take_rules before q page m d) (take_for a page m d).reply (take_for a page m d).block
unfolding take_rules take_for
take-replies (accepts l none) page m d = accepted-follows none (take_in_lem (plan_of l) page m d)
take-replies {before} (refuses q r e) page m d = refused-follows before r e _

pub take-exactly : {before : List Rule} {q : Plan} {a : Result Layout Refusal} → Ruled before q a → (page m d : List ℕ)
    → Exactly (take_rules before q page m d) (take_for a page m d).reply (take_for a page m d).block
take-exactly h page m d = exactly (take_rules _ _ page m d) (take-replies h page m d)

-- ---- judging one block, and claims

module _ (q : Plan) (page : List ℕ) (b : ℕ) where
  judge-in : Follows (rules.judge_in q page b) (call.judge_in q page b).reply (call.judge_in q page b).block
  unfolding rules.judge_in call.judge_in block_reply judge_by unequal is_ruined reply reply_block verdict verdict_number verdict_block number block
  judge-in = rw (leb-not q.blocks b) (go (eqb (length page) q.size) (ltb b q.blocks) (outcome q page b))
    where
      replied : (x y : Bool) (o : Outcome) → Judged
      replied x y o = cond (eqb (cond x (cond y 0 7) 5) 0) (judge_by b o) (judge_ended (cond x (cond y 0 7) 5) 0 0)

      go : (x y : Bool) (o : Outcome) → Follows
          (rule (cond x false true) PageLength ∷ rule (cond y false true) OutOfRange ∷ rule (is_ruined o) (Uncorrectable b) ∷ [])
          (replied x y o).reply (replied x y o).block
      go true true (good m n) = record { number = refl; beside = refl }
      go true true (erased m z) = record { number = refl; beside = refl }
      go true true ruined = record { number = refl; beside = refl }
      go true false o = record { number = refl; beside = refl }
      go false y o = record { number = refl; beside = refl }

  module _ (claims : List ℕ) where
    claim-in : Follows (rules.claim_in q page b claims) (call.claim_in q page b claims).reply (call.claim_in q page b claims).block
    unfolding rules.claim_in call.claim_in block_reply claim_by unequal is_wrong reply reply_block verdict verdict_number verdict_block number block
    claim-in = rw (leb-not q.blocks b)
        (go (eqb (length page) q.size) (ltb b q.blocks) (right? (field q b) (level q b) (block_word q page b) claims))
      where
        replied : (x y : Bool) → Dec (Right (field q b) (level q b) (block_word q page b) claims) → Claimed
        replied x y o = cond (eqb (cond x (cond y 0 7) 5) 0) (claim_by o) (claim_ended (cond x (cond y 0 7) 5))

        go : (x y : Bool) (o : Dec (Right (field q b) (level q b) (block_word q page b) claims)) → Follows
            (rule (cond x false true) PageLength ∷ rule (cond y false true) OutOfRange ∷ rule (is_wrong o) ClaimWrong ∷ [])
            (replied x y o).reply (replied x y o).block
        go true true (yes h) = record { number = refl; beside = refl }
        go true true (no h) = record { number = refl; beside = refl }
        go true false o = record { number = refl; beside = refl }
        go false y o = record { number = refl; beside = refl }

pub judge-replies : {before : List Rule} {q : Plan} {a : Result Layout Refusal} → Ruled before q a → (page : List ℕ) (b : ℕ)
    → Follows (judge_rules before q page b) (judge_for a page b).reply (judge_for a page b).block
unfolding judge_rules judge_for
judge-replies (accepts l none) page b = accepted-follows none (judge-in (plan_of l) page b)
judge-replies {before} (refuses q r e) page b = refused-follows before r e _

pub judge-exactly : {before : List Rule} {q : Plan} {a : Result Layout Refusal} → Ruled before q a → (page : List ℕ) (b : ℕ)
    → Exactly (judge_rules before q page b) (judge_for a page b).reply (judge_for a page b).block
judge-exactly h page b = exactly (judge_rules _ _ page b) (judge-replies h page b)

pub claim-replies : {before : List Rule} {q : Plan} {a : Result Layout Refusal} → Ruled before q a → (page : List ℕ) (b : ℕ) (claims : List ℕ)
    → Follows (claim_rules before q page b claims) (claim_for a page b claims).reply (claim_for a page b claims).block
unfolding claim_rules claim_for
claim-replies (accepts l none) page b claims = accepted-follows none (claim-in (plan_of l) page b claims)
claim-replies {before} (refuses q r e) page b claims = refused-follows before r e _

pub claim-exactly : {before : List Rule} {q : Plan} {a : Result Layout Refusal} → Ruled before q a → (page : List ℕ) (b : ℕ) (claims : List ℕ)
    → Exactly (claim_rules before q page b claims) (claim_for a page b claims).reply (claim_for a page b claims).block
claim-exactly h page b claims = exactly (claim_rules _ _ page b claims) (claim-replies h page b claims)

-- ---- the order of the rules

-- The rules about the blocks all have the number 9.
data Nines : List Rule → Type 0 where
  end : Nines []
  next : {r : Rule} {rs : List Rule} → number r.why ≡ 9 → Nines rs → Nines (r ∷ rs)

nines-append : {rs ss : List Rule} → Nines rs → Nines ss → Nines (rs ++ ss)
nines-append end k = k
nines-append (next e h) k = next e (nines-append h k)

nines-least : (n : ℕ) {rs : List Rule} → turn n ≤ turn 9 → Nines rs → at_most n rs ≡ true
unfolding at_most
nines-least n l end = refl
nines-least n l (next {r} e h) = rw e (le-leb (turn n) (turn 9) l)

nines-ascending : {rs : List Rule} → Nines rs → ascending rs ≡ true
unfolding ascending
nines-ascending end = refl
nines-ascending (next {r} {rs} e h) = rw (nines-least (number r.why) (rw e (omega arith)) h) (nines-ascending h)

module _ (q : Plan) (page : List ℕ) where
  ruined-nines : (n : ℕ) → Nines (ruined_rules q page n)
  unfolding ruined_rules number
  ruined-nines zero = end
  ruined-nines (suc n) = nines-append (ruined-nines n) (next refl end)

module _ {n : ℕ} {before : List Rule} (h : Ascends n before) (q : Plan) (page : List ℕ) where
  pub write-ascending : (m d : List ℕ) → ascending (drop n (write_rules before q m d page)) ≡ true
  unfolding write_rules rules.write_in ascending at_most turn number
  write-ascending m d = ascends-after _ _ (lit≤ tt) h refl

  pub look-ascending : (c : List ℕ) → ascending (drop n (look_rules before q page c)) ≡ true
  unfolding look_rules rules.look_in ascending at_most turn number
  look-ascending c = let k = ruined-nines q page q.blocks in ascends-after _ _ (lit≤ tt) h (rw (nines-least 6 (omega arith) k, nines-ascending k))

  pub take-ascending : (m d : List ℕ) → ascending (drop n (take_rules before q page m d)) ≡ true
  unfolding take_rules rules.take_in ascending at_most turn number
  take-ascending m d = let k = ruined-nines q page q.blocks in ascends-after _ _ (lit≤ tt) h (rw (nines-least 6 (omega arith) k, nines-ascending k))

  pub judge-ascending : (b : ℕ) → ascending (drop n (judge_rules before q page b)) ≡ true
  unfolding judge_rules rules.judge_in ascending at_most turn number
  judge-ascending b = ascends-after _ _ (lit≤ tt) h refl

  pub claim-ascending : (b : ℕ) (claims : List ℕ) → ascending (drop n (claim_rules before q page b claims)) ≡ true
  unfolding claim_rules rules.claim_in ascending at_most turn number
  claim-ascending b claims = ascends-after _ _ (lit≤ tt) h refl

-- A reply is given exactly if a rule with its number applies and none before it does (document 01, "Replies").
--
-- number-positive, number-injective     no refusal is reply 0; number and block together tell refusals apart
-- verdict-first, first-verdict          the verdict is a refusal exactly if that refusal is the first that applies
-- verdict-none, none-verdict            the verdict is that all rules are kept exactly if none applies
-- reply-given, given-reply              the same of replies: n > 0 exactly if a rule with that number is the first that applies,
-- reply-none, none-reply                0 exactly if none applies
-- exactly                               so a call that answers by its list of rules answers exactly then
-- append-kept, append-refused           two lists one after the other: the second decides where the first is kept
-- follows-done, follows_next, follows-here     what the rules give, one after the other
-- smallest, smallest-after              in a list whose turns never fall, after others that do not apply or not, the first turn of those that apply wins
-- turn-smallest                         which is the smallest number, 11 aside
use mathlib.Core.Path.{◌≡◌, refl, sym, ap, ◌∙◌}
use mathlib.Core.Bool.{Bool, true, false, cond, true≢false}
use mathlib.Core.List.{List, [], ◌∷◌, ◌++◌}
use Prim.Native.Nat.{ℕ, ◌*◌, ◌≤◌, ◌<◌}
use native.Mathlib.Omega.{arith}
use lib.Dec.{eqb}
use borrow.Author.Tests.{leb-true, ne_eqb}
use Rattle.std.specs.Prelude.{⊤, Result, Ok, Err}
use Rattle.replies.specs.declared.Refusal.{Refusal}
use Rattle.replies.specs.declared.Refusal.TheVariants as refusal
use Rattle.replies.specs.Replies.{number, block, verdict_number, verdict_block, Rule, rule, verdict, reply, reply_block}
use Rattle.replies.specs.Given.{None, end, next, Follows, First, Given, Exactly, turn, at_most, ascending}

-- ---- refusals

pub number-positive : (r : Refusal) → 0 < number r
unfolding number
number-positive refusal.LevelTooHigh = omega arith
number-positive refusal.EmptyMessage = omega arith
number-positive refusal.BlockTooLong = omega arith
number-positive refusal.PageTooSmall = omega arith
number-positive refusal.PageLength = omega arith
number-positive refusal.BufferLength = omega arith
number-positive refusal.OutOfRange = omega arith
number-positive refusal.RemainderTooWide = omega arith
number-positive (refusal.Uncorrectable b) = omega arith
number-positive refusal.ClaimWrong = omega arith
number-positive refusal.MarkOutside = omega arith

-- the refusal of a number and a block
unfoldable refusal_for : ℕ → ℕ → Refusal
refusal_for n b =
    cond (eqb n 1) refusal.LevelTooHigh
    (cond (eqb n 2) refusal.EmptyMessage
    (cond (eqb n 3) refusal.BlockTooLong
    (cond (eqb n 4) refusal.PageTooSmall
    (cond (eqb n 5) refusal.PageLength
    (cond (eqb n 6) refusal.BufferLength
    (cond (eqb n 7) refusal.OutOfRange
    (cond (eqb n 8) refusal.RemainderTooWide
    (cond (eqb n 9) (refusal.Uncorrectable b)
    (cond (eqb n 10) refusal.ClaimWrong refusal.MarkOutside)))))))))

refusal-back : (r : Refusal) → refusal_for (number r) (block r) ≡ r
unfolding refusal_for number block
refusal-back refusal.LevelTooHigh = refl
refusal-back refusal.EmptyMessage = refl
refusal-back refusal.BlockTooLong = refl
refusal-back refusal.PageTooSmall = refl
refusal-back refusal.PageLength = refl
refusal-back refusal.BufferLength = refl
refusal-back refusal.OutOfRange = refl
refusal-back refusal.RemainderTooWide = refl
refusal-back (refusal.Uncorrectable b) = refl
refusal-back refusal.ClaimWrong = refl
refusal-back refusal.MarkOutside = refl

pub number-injective : (r s : Refusal) → number r ≡ number s → block r ≡ block s → r ≡ s
number-injective r s n b = sym (refusal-back r) ∙ rw (n, b) (refusal-back s)

-- ---- verdicts

verdict-kept : (r : Rule) (rs : List Rule) → r.applies ≡ false → verdict (r ∷ rs) ≡ verdict rs
unfolding verdict
verdict-kept r rs e = rw e

verdict-applies : (r : Rule) (rs : List Rule) → r.applies ≡ true → verdict (r ∷ rs) ≡ Err r.why
unfolding verdict
verdict-applies r rs e = rw e

-- Two lists one after the other: where the first is kept the second decides.
pub append-kept : (rs ss : List Rule) → None rs → verdict (rs ++ ss) ≡ verdict ss
append-kept [] ss end = refl
append-kept (r ∷ rs) ss (next e h) = verdict-kept r (rs ++ ss) e ∙ append-kept rs ss h

pub none-verdict : (rules : List Rule) → None rules → verdict rules ≡ Ok _
unfolding verdict
none-verdict [] end = refl
none-verdict (r ∷ rs) (next e h) = verdict-kept r rs e ∙ none-verdict rs h

pub verdict-none : (rules : List Rule) → verdict rules ≡ Ok _ → None rules
verdict-none [] e = end
verdict-none (r ∷ rs) e = go r.applies refl (verdict-none rs)
  where
    go : (a : Bool) → r.applies ≡ a → (verdict rs ≡ Ok _ → None rs) → None (r ∷ rs)
    go false h more = next h (more (sym (verdict-kept r rs h) ∙ e))
    go true h more = let k = verdict-applies r rs h in let z : ◌≡◌ {A = ℕ} 0 1 = cc in absurd (omega arith)

module _ (why : Refusal) where
  pub first-verdict : (rules : List Rule) → First rules why → verdict rules ≡ Err why
  unfolding verdict
  first-verdict rules f = rw f.splits (append-kept f.before (rule true why ∷ f.after) f.none)

  applying : (r : Rule) → r.applies ≡ true → r.why ≡ why → r ≡ rule true why
  applying r a w = ap (λ (x : Bool). rule x r.why) a ∙ ap (rule true) w

  pub verdict-first : (rules : List Rule) → verdict rules ≡ Err why → First rules why
  unfolding verdict
  verdict-first [] e = let z : ◌≡◌ {A = ℕ} 0 1 = cc in absurd (omega arith)
  verdict-first (r ∷ rs) e = go r.applies refl (verdict-first rs)
    where
      go : (a : Bool) → r.applies ≡ a → (verdict rs ≡ Err why → First rs why) → First (r ∷ rs) why
      go false h more = let f = more (sym (verdict-kept r rs h) ∙ e) in
          record { before = r ∷ f.before; after = f.after; splits = ap (λ (l : List Rule). r ∷ l) f.splits; none = next h f.none }
      go true h more = let k = verdict-applies r rs h in
          record { before = []; after = rs; splits = ap (λ (x : Rule). x ∷ rs) (applying r h cc); none = end }

pub append-refused : (rs ss : List Rule) (why : Refusal) → verdict rs ≡ Err why → verdict (rs ++ ss) ≡ Err why
unfolding verdict
append-refused [] ss why e = let z : ◌≡◌ {A = ℕ} 0 1 = cc in absurd (omega arith)
append-refused (r ∷ rs) ss why e = go r.applies refl (append-refused rs ss why)
  where
    go : (a : Bool) → r.applies ≡ a → (verdict rs ≡ Err why → verdict (rs ++ ss) ≡ Err why) → verdict ((r ∷ rs) ++ ss) ≡ Err why
    go false h more = verdict-kept r (rs ++ ss) h ∙ more (sym (verdict-kept r rs h) ∙ e)
    go true h more = verdict-applies r (rs ++ ss) h ∙ sym (verdict-applies r rs h) ∙ e

-- ---- replies

module _ (rules : List Rule) where
  pub none-reply : None rules → reply rules ≡ 0
  unfolding reply verdict_number
  none-reply h = rw (none-verdict rules h)

  pub reply-none : reply rules ≡ 0 → None rules
  unfolding reply verdict_number
  reply-none e = go (verdict rules) refl
    where
      go : (v : Result ⊤ Refusal) → verdict rules ≡ v → None rules
      go (Ok _) h = verdict-none rules h
      go (Err r) h = let k : number r ≡ 0 = rw h at e in absurd (omega (arith, number-positive r))

  pub given-reply : (n b : ℕ) → Given rules n b → (reply rules ≡ n) × (reply_block rules ≡ b)
  unfolding reply reply_block verdict_number verdict_block
  given-reply n b g = rw (first-verdict g.why rules g.first) (g.reply, g.beside)

  pub reply-given : 0 < reply rules → Given rules (reply rules) (reply_block rules)
  unfolding reply reply_block verdict_number verdict_block
  reply-given h = go (verdict rules) refl
    where
      go : (v : Result ⊤ Refusal) → verdict rules ≡ v → Given rules (reply rules) (reply_block rules)
      go (Ok _) e = let k : 0 < 0 = rw e at h in absurd (omega arith)
      go (Err r) e = record { why = r; first = verdict-first r rules e; reply = rw e; beside = rw e }

  -- A call that answers by its rules answers exactly then.
  pub exactly : {n b : ℕ} → Follows rules n b → Exactly rules n b
  unfolding reply reply_block verdict_number verdict_block
  exactly f = rw (f.number, f.beside) (record {
    done = λ h. rw (none-verdict rules h) (refl, refl);
    none = reply-none;
    when = λ why h. rw (first-verdict why rules h) (refl, refl);
    only = reply-given;
  })

-- ---- a list rule by rule

pub follows-done : Follows [] 0 0
unfolding reply reply_block verdict verdict_number verdict_block
follows-done = record { number = refl; beside = refl }

module _ {rs : List Rule} where
  pub follows_next : {n b : ℕ} (r : Rule) → r.applies ≡ false → Follows rs n b → Follows (r ∷ rs) n b
  unfolding reply reply_block
  follows_next r e f = let k = verdict-kept r rs e in record { number = rw k f.number; beside = rw k f.beside }

  pub follows-here : (r : Rule) → r.applies ≡ true → Follows (r ∷ rs) (number r.why) (block r.why)
  unfolding reply reply_block verdict_number verdict_block
  follows-here r e = let k = verdict-applies r rs e in record { number = rw k; beside = rw k }

-- ---- the smallest number

pub turn-smallest : (m n : ℕ) → (m ≡ 11 → ⊥) → (n ≡ 11 → ⊥) → turn m ≤ turn n → m ≤ n
unfolding turn
turn-smallest m n x y h = let k : 2 * m ≤ 2 * n = simp (ne_eqb m 11 x, ne_eqb n 11 y) at h in omega arith

ascending-parts : (r : Rule) (rs : List Rule) → ascending (r ∷ rs) ≡ true → (at_most (number r.why) rs ≡ true) × (ascending rs ≡ true)
unfolding ascending
ascending-parts r rs = go (at_most (number r.why) rs)
  where
    go : (a : Bool) → cond a (ascending rs) false ≡ true → (a ≡ true) × (ascending rs ≡ true)
    go true h = (refl, h)
    go false h = absurd (true≢false (sym h))

module _ (after : List Rule) (why : Refusal) where
  -- the first turn of a list that never falls is the least
  least : (n : ℕ) (before : List Rule) → at_most n (before ++ (rule true why ∷ after)) ≡ true
      → ascending (before ++ (rule true why ∷ after)) ≡ true → turn n ≤ turn (number why)
  unfolding at_most
  least n [] h up = leb-true (turn n) (turn (number why)) h
  least n (r ∷ rs) h up =
      let p = ascending-parts r (rs ++ (rule true why ∷ after)) up in
      let k : turn (number r.why) ≤ turn (number why) = least (number r.why) rs p.0 p.1 in
      let l : turn n ≤ turn (number r.why) = leb-true (turn n) (turn (number r.why)) h in
      omega arith

  smallest-in : (before : List Rule) → ascending (before ++ (rule true why ∷ after)) ≡ true → turn (reply (before ++ (rule true why ∷ after))) ≤ turn (number why)
  unfolding reply verdict_number
  smallest-in [] up = rw (verdict-applies (rule true why) after refl) (omega arith)
  smallest-in (r ∷ rs) up = go r.applies refl (smallest-in rs (ascending-parts r (rs ++ (rule true why ∷ after)) up).1)
    where
      go : (a : Bool) → r.applies ≡ a → turn (reply (rs ++ (rule true why ∷ after))) ≤ turn (number why)
          → turn (reply ((r ∷ rs) ++ (rule true why ∷ after))) ≤ turn (number why)
      go true h more = let p = ascending-parts r (rs ++ (rule true why ∷ after)) up in
          rw (verdict-applies r (rs ++ (rule true why ∷ after)) h) (least (number r.why) rs p.0 p.1)
      go false h more = rw (verdict-kept r (rs ++ (rule true why ∷ after)) h) more

-- Where the turns never fall, the reply has the first turn of all rules that apply.
pub smallest : (rules : List Rule) → ascending rules ≡ true → (before after : List Rule) (why : Refusal)
    → rules ≡ before ++ (rule true why ∷ after) → turn (reply rules) ≤ turn (number why)
smallest rules up before after why e = rw e (smallest-in after why before (rw e at up))

-- The same after rules that are looked at first and do not apply.
pub smallest-after : (first rules : List Rule) → None first → ascending rules ≡ true
    → (before after : List Rule) (why : Refusal) → rules ≡ before ++ (rule true why ∷ after) → turn (reply (first ++ rules)) ≤ turn (number why)
unfolding reply
smallest-after first rules kept up before after why e = rw (append-kept first rules kept) (smallest rules up before after why e)

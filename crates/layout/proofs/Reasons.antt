-- A refused layout is refused for a true reason, and for the first one: smallest reply, but 11 after 3, block 0 before the later blocks.
-- An accepted layout gives no reason.
use mathlib.Core.Path.{◌≡◌, refl, sym, ap, ◌∙◌}
use mathlib.Core.Logic.{◌⊎◌, inl, inr, ⊎_elim}
use mathlib.Core.Bool.{Bool, true, false, cond, true≢false}
use Prim.Native.Nat.{ℕ, suc, ◌+◌, ◌*◌, ◌≤◌, ◌<◌}
use native.Mathlib.Omega.{arith}
use native.Mathlib.Decide.{dec_lt}
use native.Mathlib.Nat.{eq-zero-or-pos, le_of_eq}
use lib.Dec.{eqb, ltb}
use borrow.Author.Tests.{ltb-true, lt-ltb, le-ltb, eq-eqb, ne_eqb}
use Rattle.std.specs.Prelude.{⊤, Result, Ok, Err}
use Rattle.field.specs.Field.{longest}
use Rattle.replies.specs.Replies.{number}
use Rattle.replies.specs.Given.{turn}
use Rattle.replies.specs.Edition.{highest}
use Rattle.layout_plan.specs.declared.BlockFields.{BlockFields}
use Rattle.layout_plan.specs.declared.Fields.{Fields}
use Rattle.layout_plan.specs.declared.Plan.{Plan}
use Rattle.layout_plan.specs.declared.Shape.{Shape}
use Rattle.layout.specs.declared.Rule.TheVariants.{Level, Message, Length, Outside, Room}
use Rattle.layout.specs.declared.Kind.{Kind}
use Rattle.layout.specs.declared.Kind.TheVariants.{First, Later, Page}
use Rattle.layout.specs.declared.Reason.{Reason}
use Rattle.layout_plan.specs.Plan.{used, room}
use Rattle.layout.specs.Acceptance.{test, level_rule, message_rule, length_rule, mark_rule, room_rule, either, of_blocks, finding_of, rule_refusal, rule_number}

-- the reasons, with the two numbers compared
unfoldable pub level_reason : ℕ → Kind → BlockFields → Reason
level_reason e kind fields = record { rule = Level; kind = kind; found = fields.ecc; limit = highest e }

unfoldable pub message_reason : Kind → Shape → Reason
message_reason kind s = record { rule = Message; kind = kind; found = s.message; limit = 1 }

unfoldable pub length_reason : Kind → Shape → Reason
length_reason kind s = record { rule = Length; kind = kind; found = s.covered; limit = longest s.field }

unfoldable pub mark_reason : Fields → Reason
mark_reason f = record { rule = Outside; kind = Page; found = f.mark.offset + f.mark.length; limit = f.page }

unfoldable pub zeros_reason : Fields → Reason
zeros_reason f = record { rule = Outside; kind = Page; found = f.zeros; limit = 0 }

unfoldable pub room_reason : Plan → Reason
room_reason q = record { rule = Room; kind = Page; found = used q; limit = room q }

-- r is a reason to refuse a layout of the fields f and the plan q: what it names breaks its rule
pub data Breaks (f : Fields) (q : Plan) : Reason → Type 0 where
  level-first : highest f.edition < f.first.ecc → Breaks f q (level_reason f.edition First f.first)
  level-later : 0 < f.nblocks → highest f.edition < f.later.ecc → Breaks f q (level_reason f.edition Later f.later)
  message-first : q.first.message < 1 → Breaks f q (message_reason First q.first)
  message-later : 0 < f.nblocks → q.later.message < 1 → Breaks f q (message_reason Later q.later)
  length-first : 0 < q.first.level → longest q.first.field < q.first.covered →
      Breaks f q (length_reason First q.first)
  length-later : 0 < f.nblocks → 0 < q.later.level → longest q.later.field < q.later.covered →
      Breaks f q (length_reason Later q.later)
  mark-outside : f.page < f.mark.offset + f.mark.length → Breaks f q (mark_reason f)
  zeros-set : f.mark.offset + f.mark.length ≤ f.page → 0 < f.zeros → Breaks f q (zeros_reason f)
  page-room : room q < used q → Breaks f q (room_reason q)

-- the order of reasons: by the turns of the replies, block 0 before the later blocks
unfoldable pub kind_rank : Kind → ℕ
kind_rank First = 0
kind_rank Later = 1
kind_rank Page = 0

unfoldable pub rank : Reason → ℕ
rank r = 2 * turn (rule_number r.rule) + kind_rank r.kind

kind-small : (k : Kind) → kind_rank k ≤ 1
unfolding kind_rank
kind-small First = omega arith
kind-small Later = omega arith
kind-small Page = omega arith

-- f is the first of the reasons P
pub data Least (P : Reason → Type 0) : Result ⊤ Reason → Type 0 where
  none : ((r : Reason) → P r → ⊥) → Least P (Ok _)
  some : {r : Reason} → P r → ((s : Reason) → P s → (s ≡ r) ⊎ (rank r < rank s)) → Least P (Err r)

-- the same, where all reasons P have ranks from lo on and below hi
record Decides (lo hi : ℕ) (P : Reason → Type 0) (f : Result ⊤ Reason) : Type 0 where
  low : (r : Reason) → P r → lo ≤ rank r
  high : (r : Reason) → P r → rank r < hi
  least : Least P f

decide-test : (b : Bool) (r : Reason) {n : ℕ} {B : Type 0} → rank r ≡ n → (b ≡ true → B) → (B → b ≡ true) →
    Decides n (suc n) (λ s. B × (s ≡ r)) (test b r)
unfolding test
decide-test true r e to from = record {
  low = λ s h. rw h.1 (omega arith);
  high = λ s h. rw h.1 (omega arith);
  least = some (to refl, refl) (λ s h. inl h.1);
}
decide-test false r e to from = record {
  low = λ s h. rw h.1 (omega arith);
  high = λ s h. rw h.1 (omega arith);
  least = none (λ s h. let z : ◌≡◌ {A = ℕ} 0 1 = cc (from h.0) in omega arith);
}

-- the first of two reasons of one rank, the second where the first does not hold
decide-two : (b c : Bool) (r s : Reason) {n : ℕ} {B N C : Type 0} → rank r ≡ n → rank s ≡ n → (b ≡ true → B) → (B → b ≡ true) →
    (b ≡ false → N) → (N → b ≡ false) → (c ≡ true → C) → (C → c ≡ true) →
    Decides n (suc n) (λ x. (B × (x ≡ r)) ⊎ (N × (C × (x ≡ s)))) (either (test b r) (test c s))
unfolding test either
decide-two b c r s {n} {B} {N} {C} e e' to from no-to no-from to' from' = record {
  low = λ x h. ⊎_elim (λ (y : B × (x ≡ r)). rw y.1 (omega arith)) (λ (y : N × (C × (x ≡ s))). rw y.1.1 (omega arith)) h;
  high = λ x h. ⊎_elim (λ (y : B × (x ≡ r)). rw y.1 (omega arith)) (λ (y : N × (C × (x ≡ s))). rw y.1.1 (omega arith)) h;
  least = go b c refl refl;
}
  where
    go : (b' c' : Bool) → b ≡ b' → c ≡ c' → Least (λ x. (B × (x ≡ r)) ⊎ (N × (C × (x ≡ s)))) (either (test b' r) (test c' s))
    go true c' p q = some (inl (to p, refl)) (λ x h.
        ⊎_elim (λ (y : B × (x ≡ r)). inl y.1) (λ (y : N × (C × (x ≡ s))). absurd (true≢false (sym p ∙ no-from y.0))) h)
    go false true p q = some (inr (no-to p, (to' q, refl))) (λ x h.
        ⊎_elim (λ (y : B × (x ≡ r)). absurd (true≢false (sym (from y.0) ∙ p))) (λ (y : N × (C × (x ≡ s))). inl y.1.1) h)
    go false false p q = none (λ x h.
        ⊎_elim (λ (y : B × (x ≡ r)). true≢false (sym (from y.0) ∙ p)) (λ (y : N × (C × (x ≡ s))). true≢false (sym (from' y.1.0) ∙ q)) h)

module _ {a b c d : ℕ} {P Q : Reason → Type 0} (order : a ≤ b) (order' : b ≤ c) (order'' : c ≤ d) where
  either-least : {f g : Result ⊤ Reason} → ((r s : Reason) → P r → Q s → rank r < rank s) → Least P f → Least Q g →
      Least (λ r. P r ⊎ Q r) (either f g)
  unfolding either
  either-least o (none p) (none q) = none (λ r h. ⊎_elim (p r) (q r) h)
  either-least o (none p) (some h q) = some (inr h) (λ s x. ⊎_elim (λ (y : P s). absurd (p s y)) (q s) x)
  either-least o (some {r} h p) q = some (inl h) (λ s x. ⊎_elim (p s) (λ (y : Q s). inr (o r s h y)) x)

  decide-either : {f g : Result ⊤ Reason} → Decides a b P f → Decides c d Q g → Decides a d (λ r. P r ⊎ Q r) (either f g)
  decide-either p q = record {
    low = λ r h. ⊎_elim (λ (x : P r). p.low r x) (λ (y : Q r). omega (arith, q.low r y)) h;
    high = λ r h. ⊎_elim (λ (x : P r). omega (arith, p.high r x)) (λ (y : Q r). q.high r y) h;
    least = either-least (λ r s x y. omega (arith, p.high r x, q.low s y)) p.least q.least;
  }

least-map : {P Q : Reason → Type 0} {f : Result ⊤ Reason} → ((r : Reason) → P r → Q r) → ((r : Reason) → Q r → P r) → Least P f → Least Q f
least-map to from (none p) = none (λ r h. p r (from r h))
least-map to from (some h p) = some (to _ h) (λ s x. p s (from s x))

decide-map : {a b : ℕ} {P Q : Reason → Type 0} {f : Result ⊤ Reason} → ((r : Reason) → P r → Q r) → ((r : Reason) → Q r → P r) →
    Decides a b P f → Decides a b Q f
decide-map to from d = record {
  low = λ r h. d.low r (from r h);
  high = λ r h. d.high r (from r h);
  least = least-map to from d.least;
}

decide-blocks : {a b c : ℕ} {P Q : Reason → Type 0} {f g : Result ⊤ Reason} (n : ℕ) → a ≤ b → b ≤ c → Decides a b P f → Decides b c Q g →
    Decides a c (λ r. P r ⊎ ((0 < n) × Q r)) (of_blocks n f g)
unfolding of_blocks
decide-blocks {P = P} {Q = Q} n x y p q =
    ⊎_elim
    (λ (e : n ≡ 0). simp (eq-eqb n 0 e)
    (record {
      low = λ r h. ⊎_elim (p.low r) (λ (k : (0 < n) × Q r). absurd (omega (arith, k.0))) h;
      high = λ r h. ⊎_elim (λ (k : P r). omega (arith, p.high r k)) (λ (k : (0 < n) × Q r). absurd (omega (arith, k.0))) h;
      least = least-map (λ r h. inl h) (λ r h. ⊎_elim (λ (k : P r). k) (λ (k : (0 < n) × Q r). absurd (omega (arith, k.0))) h) p.least;
    }))
    (λ (h : 0 < n). simp (ne_eqb n 0 (λ e. omega arith))
    (decide-map
    (λ r k. ⊎_elim (λ (z : P r). inl z) (λ (z : Q r). inr (h, z)) k)
    (λ r k. ⊎_elim (λ (z : P r). inl z) (λ (z : (0 < n) × Q r). inr z.1) k)
    (decide-either x (omega arith) y p q)))
    (eq-zero-or-pos n)

decide-level : (edition : ℕ) (kind : Kind) (fields : BlockFields) (n : ℕ) → 4 + kind_rank kind ≡ n →
    Decides n (suc n) (λ r. (highest edition < fields.ecc) × (r ≡ level_reason edition kind fields)) (level_rule edition kind fields)
unfolding level_rule level_reason rank turn rule_number rule_refusal number
decide-level edition kind fields n e = decide-test _ _ e (λ h. ltb-true _ _ h) (λ h. lt-ltb _ _ h)

decide-message : (kind : Kind) (s : Shape) (n : ℕ) → 8 + kind_rank kind ≡ n →
    Decides n (suc n) (λ r. (s.message < 1) × (r ≡ message_reason kind s)) (message_rule kind s)
unfolding message_rule message_reason rank turn rule_number rule_refusal number
decide-message kind s n e = decide-test _ _ e (λ h. ltb-true _ _ h) (λ h. lt-ltb _ _ h)

long-true : (t n m : ℕ) → cond (eqb t 0) false (ltb m n) ≡ true → (0 < t) × (m < n)
long-true t n m h =
    ⊎_elim
    (λ (e : t ≡ 0). let z : false ≡ true = simp (eq-eqb t 0 e) at h in let y : ◌≡◌ {A = ℕ} 0 1 = cc z in absurd (omega arith))
    (λ (k : 0 < t). (k, ltb-true m n (simp (ne_eqb t 0 (λ e. omega arith)) at h)))
    (eq-zero-or-pos t)

true-long : (t n m : ℕ) → (0 < t) × (m < n) → cond (eqb t 0) false (ltb m n) ≡ true
true-long t n m h = simp (ne_eqb t 0 (λ e. omega (arith, h.0)), lt-ltb m n h.1)

decide-length : (kind : Kind) (s : Shape) (n : ℕ) → 12 + kind_rank kind ≡ n →
    Decides n (suc n) (λ r. ((0 < s.level) × (longest s.field < s.covered)) × (r ≡ length_reason kind s)) (length_rule kind s)
unfolding length_rule length_reason rank turn rule_number rule_refusal number
decide-length kind s n e = decide-test _ _ e (long-true _ _ _) (true-long _ _ _)

-- an allowed sum
sum-allowed : (m n : ℕ) → ltb m n ≡ false → n ≤ m
sum-allowed m n h = elim (dec_lt m n) [
  | yes k ↦ absurd (true≢false (sym (lt-ltb m n k) ∙ h))
  | no k ↦ omega arith
]

decide-mark : (f : Fields) → Decides 14 15
    (λ r. ((f.page < f.mark.offset + f.mark.length) × (r ≡ mark_reason f))
    ⊎ ((f.mark.offset + f.mark.length ≤ f.page) × ((0 < f.zeros) × (r ≡ zeros_reason f)))) (mark_rule f)
unfolding mark_rule mark_reason zeros_reason rank turn rule_number rule_refusal number kind_rank
decide-mark f =
    decide-two _ _ _ _ refl refl (λ h. ltb-true _ _ h) (λ h. lt-ltb _ _ h) (λ h. sum-allowed _ _ h) (λ h. le-ltb _ _ h) (λ h. ltb-true _ _ h) (λ h. lt-ltb _ _ h)

decide-room : (q : Plan) → Decides 16 17 (λ r. (room q < used q) × (r ≡ room_reason q)) (room_rule q)
unfolding room_rule room_reason rank turn rule_number rule_refusal number kind_rank
decide-room q = decide-test _ _ refl (λ h. ltb-true _ _ h) (λ h. lt-ltb _ _ h)

module _ (f : Fields) (q : Plan) where
  LevelBroken : Reason → Type 0
  LevelBroken r =
      ((highest f.edition < f.first.ecc) × (r ≡ level_reason f.edition First f.first))
      ⊎ ((0 < f.nblocks) × ((highest f.edition < f.later.ecc) × (r ≡ level_reason f.edition Later f.later)))

  MessageBroken : Reason → Type 0
  MessageBroken r =
      ((q.first.message < 1) × (r ≡ message_reason First q.first))
      ⊎ ((0 < f.nblocks) × ((q.later.message < 1) × (r ≡ message_reason Later q.later)))

  LengthBroken : Reason → Type 0
  LengthBroken r =
      (((0 < q.first.level) × (longest q.first.field < q.first.covered)) × (r ≡ length_reason First q.first))
      ⊎ ((0 < f.nblocks)
      × (((0 < q.later.level) × (longest q.later.field < q.later.covered)) × (r ≡ length_reason Later q.later)))

  MarkBroken : Reason → Type 0
  MarkBroken r =
      ((f.page < f.mark.offset + f.mark.length) × (r ≡ mark_reason f))
      ⊎ ((f.mark.offset + f.mark.length ≤ f.page) × ((0 < f.zeros) × (r ≡ zeros_reason f)))

  RoomBroken : Reason → Type 0
  RoomBroken r = (room q < used q) × (r ≡ room_reason q)

  decide-finding : Decides 4 17 (λ r. LevelBroken r ⊎ (MessageBroken r ⊎ (LengthBroken r ⊎ (MarkBroken r ⊎ RoomBroken r)))) (finding_of f q)
  unfolding finding_of LevelBroken MessageBroken LengthBroken MarkBroken RoomBroken kind_rank
  decide-finding =
      decide-either (omega arith) (omega arith) (omega arith)
      (decide-blocks f.nblocks (omega arith) (omega arith) (decide-level f.edition First f.first 4 refl) (decide-level f.edition Later f.later 5 refl))
      (decide-either (omega arith) (omega arith) (omega arith)
      (decide-blocks f.nblocks (omega arith) (omega arith) (decide-message First q.first 8 refl) (decide-message Later q.later 9 refl))
      (decide-either (omega arith) (omega arith) (omega arith)
      (decide-blocks f.nblocks (omega arith) (omega arith) (decide-length First q.first 12 refl) (decide-length Later q.later 13 refl))
      (decide-either (omega arith) (omega arith) (omega arith) (decide-mark f) (decide-room q))))

  All : Reason → Type 0
  All r = LevelBroken r ⊎ (MessageBroken r ⊎ (LengthBroken r ⊎ (MarkBroken r ⊎ RoomBroken r)))

  all-breaks : (r : Reason) → All r → Breaks f q r
  unfolding All LevelBroken MessageBroken LengthBroken MarkBroken RoomBroken
  all-breaks r (inl (inl h)) = rw h.1 (level-first h.0)
  all-breaks r (inl (inr h)) = rw h.1.1 (level-later h.0 h.1.0)
  all-breaks r (inr (inl (inl h))) = rw h.1 (message-first h.0)
  all-breaks r (inr (inl (inr h))) = rw h.1.1 (message-later h.0 h.1.0)
  all-breaks r (inr (inr (inl (inl h)))) = rw h.1 (length-first h.0.0 h.0.1)
  all-breaks r (inr (inr (inl (inr h)))) = rw h.1.1 (length-later h.0 h.1.0.0 h.1.0.1)
  all-breaks r (inr (inr (inr (inl (inl h))))) = rw h.1 (mark-outside h.0)
  all-breaks r (inr (inr (inr (inl (inr h))))) = rw h.1.1 (zeros-set h.0 h.1.0)
  all-breaks r (inr (inr (inr (inr h)))) = rw h.1 (page-room h.0)

  breaks-all : (r : Reason) → Breaks f q r → All r
  unfolding All LevelBroken MessageBroken LengthBroken MarkBroken RoomBroken
  breaks-all r (level-first h) = inl (inl (h, refl))
  breaks-all r (level-later n h) = inl (inr (n, (h, refl)))
  breaks-all r (message-first h) = inr (inl (inl (h, refl)))
  breaks-all r (message-later n h) = inr (inl (inr (n, (h, refl))))
  breaks-all r (length-first t h) = inr (inr (inl (inl ((t, h), refl))))
  breaks-all r (length-later n t h) = inr (inr (inl (inr (n, ((t, h), refl)))))
  breaks-all r (mark-outside h) = inr (inr (inr (inl (inl (h, refl)))))
  breaks-all r (zeros-set a h) = inr (inr (inr (inl (inr (a, (h, refl))))))
  breaks-all r (page-room h) = inr (inr (inr (inr (h, refl))))

  -- The finding is the first of the reasons to refuse the layout.
  pub finding-least : Least (Breaks f q) (finding_of f q)
  unfolding All
  finding-least = least-map all-breaks breaks-all decide-finding.least

-- A finding that is the first of the reasons P is given by them.
module _ {P : Reason → Type 0} where
  pub least-broken : {f : Result ⊤ Reason} {r : Reason} → Least P f → f ≡ Err r → P r
  least-broken (none p) e = let z : ◌≡◌ {A = ℕ} 0 1 = cc e in absurd (omega arith)
  least-broken {r = r} (some {r = t} h p) e = let z : t ≡ r = cc in rw (sym z) h

  pub least_first : {f : Result ⊤ Reason} {r : Reason} → Least P f → f ≡ Err r → (s : Reason) → P s → rank r ≤ rank s
  least_first (none p) e s k = absurd (p s k)
  least_first {r = r} (some {r = t} h p) e s k =
      let z : t ≡ r = cc in
      ⊎_elim
      (λ (x : s ≡ t). le_of_eq (ap rank (sym z ∙ sym x)))
      (λ (x : rank t < rank s). let y = ap rank z in omega arith)
      (p s k)

  pub least_kept : {f : Result ⊤ Reason} → Least P f → f ≡ Ok _ → (r : Reason) → P r → ⊥
  least_kept (none p) e r k = p r k
  least_kept (some h p) e r k = let z : ◌≡◌ {A = ℕ} 0 1 = cc e in omega arith

  pub kept-least : {f : Result ⊤ Reason} → Least P f → ((r : Reason) → P r → ⊥) → f ≡ Ok _
  kept-least (none p) h = refl
  kept-least (some k p) h = absurd (h _ k)

  pub broken-least : {f : Result ⊤ Reason} {r : Reason} → Least P f → P r → ((s : Reason) → P s → rank r ≤ rank s) → f ≡ Err r
  broken-least (none p) k h = absurd (p _ k)
  broken-least {r = r} (some {r = s} x p) k h =
      ⊎_elim (λ (e : r ≡ s). ap Err (sym e)) (λ (o : rank s < rank r). absurd (omega (arith, h s x))) (p r k)

-- A reason is given exactly if it holds and none before it does; a layout is kept exactly if no reason holds.
module _ (f : Fields) (q : Plan) where
  pub reason-true : (r : Reason) → finding_of f q ≡ Err r → Breaks f q r
  reason-true r e = least-broken (finding-least f q) e

  pub reason-first : (r s : Reason) → finding_of f q ≡ Err r → Breaks f q s → rank r ≤ rank s
  reason-first r s e h = least_first (finding-least f q) e s h

  pub reason-given : (r : Reason) → Breaks f q r → ((s : Reason) → Breaks f q s → rank r ≤ rank s) → finding_of f q ≡ Err r
  reason-given r h first = broken-least (finding-least f q) h first

  pub kept_free : finding_of f q ≡ Ok _ → (r : Reason) → Breaks f q r → ⊥
  kept_free e = least_kept (finding-least f q) e

  pub free-kept : ((r : Reason) → Breaks f q r → ⊥) → finding_of f q ≡ Ok _
  free-kept h = kept-least (finding-least f q) h

  -- so the first turn wins, which is the smallest reply but that 11 comes after 3 (replies/Given `turn`)
  pub reply-smallest : (r s : Reason) → finding_of f q ≡ Err r → Breaks f q s → turn (rule_number r.rule) ≤ turn (rule_number s.rule)
  unfolding rank
  reply-smallest r s e h = let o = reason-first r s e h in omega (arith, kind-small r.kind, kind-small s.kind)

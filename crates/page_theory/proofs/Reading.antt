-- Laws of what a page gives: what each block gives and what is reported of it, and when and where a page is refused.
use mathlib.Core.Path.{◌≡◌, refl, sym, ap, ◌∙◌, subst}
use mathlib.Core.Bool.{false}
use mathlib.Core.List.{List, [], ◌++◌}
use Prim.Native.Nat.{ℕ, zero, suc, ◌+◌, ◌*◌, ◌≤◌, ◌<◌}
use native.Mathlib.Omega.{arith}
use native.Mathlib.Decide.{dec_lt}
use native.Mathlib.Nat.{zero-add}
use lib.ListN.{length, get_or, length-append, get_or-append}
use lib.Seq.{get_or-append-add}
use Rattle.bits.specs.Bits.{bit_of, run}
use Rattle.bits.proofs.Runs.{run_length, run_at, run-ext, run-cong, run-append}
use Rattle.layout_plan.specs.declared.Plan.{Plan}
use Rattle.layout_plan.specs.Plan.{bits, from, payload, Valid}
use Rattle.code.specs.Word.{Word}
use Rattle.code.specs.Outcome.{Outcome, good, erased, ruined, erased_count, by-codeword, by-zeros}
use Rattle.code.proofs.Outcome.{judge-repaired, repaired-judge, judge-erased, erased-judge, judge-refused, refused-judge, gives-length, gives-sound, gives-count}
use Rattle.page_theory.specs.Page.{message, block_word}
use Rattle.page_theory.specs.Reading.{GivesAt, RefusedAt, Lowest, outcome, Reading, done, refused, more, reading_of, reading, count_of, counts}
use Rattle.page_theory.specs.Demands.{Reported, of-given, of-ruined}
use Rattle.page_theory.proofs.Blocks.{block_word-length, block_word-fits}

-- The outcome hands on the message m and the count n.
pub data Hands : Outcome → Word → ℕ → Type 0 where
  of-good : {m : Word} {n : ℕ} → Hands (good m n) m n
  of-erased : {m : Word} {z : ℕ} → Hands (erased m z) m (erased_count z)

pub hands-count : {o : Outcome} {m : Word} {n : ℕ} → Hands o m n → count_of o ≡ n
unfolding count_of
hands-count of-good = refl
hands-count of-erased = refl

module _ (q : Plan) (page : List ℕ) where
  -- the outcome of a block is what it gives, or that it is ruined

  pub outcome-gives : Valid q → (b : ℕ) (m : Word) (n : ℕ) → b < q.blocks → GivesAt q page b m n → Hands (outcome q page b) m n
  unfolding outcome
  outcome-gives v b m n l (by-codeword g) = rw (judge-repaired _ _ (bits q b) _ m n (block_word-fits q v page b l) g) of-good
  outcome-gives v b m n l (by-zeros g) = rw (judge-erased _ _ (bits q b) _ g.none g.few, g.message, g.count) of-erased

  pub gives-outcome : (b : ℕ) (m : Word) (n : ℕ) → Hands (outcome q page b) m n → GivesAt q page b m n
  unfolding outcome
  gives-outcome b m n h = go (outcome q page b) m n refl h
    where
      go : (o : Outcome) (m : Word) (n : ℕ) → outcome q page b ≡ o → Hands o m n → GivesAt q page b m n
      go o m n e of-good = by-codeword (repaired-judge _ _ (bits q b) _ m n e)
      go o m n e (of-erased {z = z}) = by-zeros (erased-judge _ _ (bits q b) _ m z e)

  pub outcome-ruined : (b : ℕ) → RefusedAt q page b → outcome q page b ≡ ruined
  unfolding outcome
  outcome-ruined b h = judge-refused _ _ _ _ h

  pub ruined-outcome : (b : ℕ) → outcome q page b ≡ ruined → RefusedAt q page b
  unfolding outcome
  ruined-outcome b e = refused-judge _ _ _ _ e

  -- one block more

  pub reading-start : reading_of q page 0 ≡ done []
  unfolding reading_of
  reading-start = refl

  pub reading-next : (b : ℕ) (w m : Word) (n : ℕ) → reading_of q page b ≡ done w
      → Hands (outcome q page b) m n → reading_of q page (suc b) ≡ done (w ++ m)
  unfolding reading_of more
  reading-next b w m n e h = go (outcome q page b) m n refl h
    where
      go : (o : Outcome) (m : Word) (n : ℕ) → outcome q page b ≡ o → Hands o m n → reading_of q page (suc b) ≡ done (w ++ m)
      go o m n f of-good = rw (e, f)
      go o m n f of-erased = rw (e, f)

  pub reading-ruined : (b : ℕ) (w : Word) → reading_of q page b ≡ done w → outcome q page b ≡ ruined → reading_of q page (suc b) ≡ refused b
  unfolding reading_of more
  reading-ruined b w e f = rw (e, f)

  pub reading-refused : (b a : ℕ) → reading_of q page b ≡ refused a → reading_of q page (suc b) ≡ refused a
  unfolding reading_of more
  reading-refused b a e = rw e

  -- A page is refused exactly where some block is ruined, and the lowest is named.

  -- no ruined block among the first n
  abbrev Sound : ℕ → Type 0
  Sound n = (c : ℕ) → c < n → RefusedAt q page c → ⊥

  pub record Done (n : ℕ) : Type 0 where
    pub word : Word
    pub same : reading_of q page n ≡ done word

  reading-sound : (n : ℕ) → Sound n → Done n
  reading-sound zero h = record { word = []; same = reading-start }
  reading-sound (suc n) h = go (reading-sound n (λ c l. h c (omega arith))) (outcome q page n) refl
    where
      go : Done n → (o : Outcome) → outcome q page n ≡ o → Done (suc n)
      go r (good m k) f = record { word = r.word ++ m; same = reading-next n _ m k r.same (rw f of-good) }
      go r (erased m z) f = record { word = r.word ++ m; same = reading-next n _ m (erased_count z) r.same (rw f of-erased) }
      go r ruined f = absurd (h n (omega arith) (ruined-outcome n f))

  pub reading-lowest : (n b : ℕ) → b < n → RefusedAt q page b → Sound b → reading_of q page n ≡ refused b
  reading-lowest zero b l r h = absurd (omega arith)
  reading-lowest (suc n) b l r h = elim (dec_lt b n) [
    | yes p ↦ reading-refused n b (reading-lowest n b p r h)
    | no p ↦ (let e : b ≡ n = omega arith in let s = reading-sound b h in rw (← e) (reading-ruined b _ s.same (outcome-ruined b r)))
  ]

  -- what a reading says of the blocks read

  pub record Last (n : ℕ) (w : Word) : Type 0 where
    pub word : Word
    pub text : Word
    pub count : ℕ
    pub before : reading_of q page n ≡ done word
    pub last : Hands (outcome q page n) text count
    pub words : w ≡ word ++ text

  done-last : (n : ℕ) (w : Word) → reading_of q page (suc n) ≡ done w → Last n w
  done-last n w e = go (reading_of q page n) refl (outcome q page n) refl
    where
      of-hands : (v : Word) → reading_of q page n ≡ done v → (m : Word) (c : ℕ) → Hands (outcome q page n) m c → Last n w
      of-hands v f m c h = let t = reading-next n v m c f h in
          record { word = v; text = m; count = c; before = f; last = h; words = cc }

      go : (r : Reading) → reading_of q page n ≡ r → (o : Outcome) → outcome q page n ≡ o → Last n w
      go (done v) f (good m c) g = of-hands v f m c (rw g of-good)
      go (done v) f (erased m z) g = of-hands v f m (erased_count z) (rw g of-erased)
      go (done v) f ruined g = let t = reading-ruined n v f g in let z : ◌≡◌ {A = ℕ} 0 1 = cc in absurd (omega arith)
      go (refused a) f o g = let t = reading-refused n a f in let z : ◌≡◌ {A = ℕ} 0 1 = cc in absurd (omega arith)

  pub done-sound : (n : ℕ) (w : Word) → reading_of q page n ≡ done w → Sound n
  done-sound zero w e c k r = omega arith
  done-sound (suc n) w e c k r = let s = done-last n w e in elim (dec_lt c n) [
    | yes p ↦ done-sound n s.word s.before c p r
    | no p ↦ (let i : c ≡ n = omega arith in
        gives-sound _ _ _ _ _ _ (gives-outcome n s.text s.count s.last) (rw i at r))
  ]

  pub record Named (n b : ℕ) : Type 0 where
    pub inside : b < n
    pub ruins : RefusedAt q page b
    pub lower : Sound b

  refused-named : (n b : ℕ) → reading_of q page n ≡ refused b → Named n b
  refused-named zero b e = let t = reading-start in let z : ◌≡◌ {A = ℕ} 0 1 = cc in absurd (omega arith)
  refused-named (suc n) b e = go (refused-named n b) (reading_of q page n) refl (outcome q page n) refl
    where
      go : (reading_of q page n ≡ refused b → Named n b) → (r : Reading) → reading_of q page n ≡ r → (o : Outcome)
          → outcome q page n ≡ o → Named (suc n) b
      go h (done v) f (good m c) g = let t = reading-next n v m c f (rw g of-good) in let z : ◌≡◌ {A = ℕ} 0 1 = cc in absurd (omega arith)
      go h (done v) f (erased m y) g = let t = reading-next n v m (erased_count y) f (rw g of-erased) in let z : ◌≡◌ {A = ℕ} 0 1 = cc in absurd (omega arith)
      go h (done v) f ruined g = let t = reading-ruined n v f g in let i : b ≡ n = cc in
          record { inside = omega arith; ruins = rw i (ruined-outcome n g); lower = rw i (done-sound n v f) }
      go h (refused a) f o g = let t = reading-refused n a f in let i : a ≡ b = cc in let r = h (f ∙ ap refused i) in
          record { inside = omega (arith, r.inside); ruins = r.ruins; lower = r.lower }

  pub lowest-refused : (b : ℕ) → Lowest q page b → reading q page ≡ refused b
  unfolding reading
  lowest-refused b h = reading-lowest q.blocks b h.inside h.ruins h.lower

  pub refused-lowest : (b : ℕ) → reading q page ≡ refused b → Lowest q page b
  unfolding reading
  refused-lowest b e = let r = refused-named q.blocks b e in record { inside = r.inside; ruins = r.ruins; lower = r.lower }

  -- a page of which no block is ruined is read
  pub sound-reading : ((b : ℕ) → b < q.blocks → RefusedAt q page b → ⊥) → Done q.blocks
  sound-reading h = reading-sound q.blocks h

  -- what is reported of a block

  pub counts-at : (b : ℕ) → b < q.blocks → get_or (counts q page) b 0 ≡ count_of (outcome q page b)
  unfolding counts
  counts-at b l = run_at (λ c. count_of (outcome q page c)) 0 q.blocks b 0 l ∙ rw (zero-add b)

  pub counts-length : length (counts q page) ≡ q.blocks
  unfolding counts
  counts-length = run_length _ 0 q.blocks

  pub counts-gives : Valid q → (b : ℕ) (m : Word) (n : ℕ) → b < q.blocks → GivesAt q page b m n → count_of (outcome q page b) ≡ n
  counts-gives v b m n l g = hands-count (outcome-gives v b m n l g)

  pub counts-ruined : (b : ℕ) → RefusedAt q page b → count_of (outcome q page b) ≡ 255
  unfolding count_of
  counts-ruined b h = rw (outcome-ruined b h)

  -- It is what the block gives, or 255 where it is ruined.
  pub counts-reported : (b : ℕ) → Reported q page b (count_of (outcome q page b))
  unfolding count_of
  counts-reported b = go (outcome q page b) refl
    where
      go : (o : Outcome) → outcome q page b ≡ o → Reported q page b (count_of o)
      go (good m n) e = of-given m (gives-outcome b m n (rw e of-good))
      go (erased m z) e = of-given m (gives-outcome b m (erased_count z) (rw e of-erased))
      go ruined e = of-ruined (ruined-outcome b e) refl

  -- 255 is reported of a ruined block and of no other,
  pub reported-ruined : Valid q → (b : ℕ) → b < q.blocks → Reported q page b 255 → RefusedAt q page b
  reported-ruined v b l (of-given m g) = absurd (omega (arith, gives-count _ _ _ _ m 255 (v.strong b l) g))
  reported-ruined v b l (of-ruined h e) = h

  -- and every other count is at most 190: one byte.
  pub reported-most : Valid q → (b n : ℕ) → b < q.blocks → Reported q page b n → (n ≡ 255 → ⊥) → n ≤ 190
  reported-most v b n l (of-given m g) h = gives-count _ _ _ _ m n (v.strong b l) g
  reported-most v b n l (of-ruined k e) h = absurd (h e)

  pub reported-byte : Valid q → (b n : ℕ) → b < q.blocks → Reported q page b n → n < 256
  reported-byte v b n l (of-given m g) = omega (arith, gives-count _ _ _ _ m n (v.strong b l) g)
  reported-byte v b n l (of-ruined k e) = omega arith

  -- Only one number is reported of a block.
  pub reported-only : Valid q → (b n : ℕ) → b < q.blocks → Reported q page b n → count_of (outcome q page b) ≡ n
  reported-only v b n l (of-given m g) = counts-gives v b m n l g
  reported-only v b n l (of-ruined h e) = counts-ruined b h ∙ sym e

  -- where some block is ruined, one is the lowest
  pub ruined-lowest : (b : ℕ) → b < q.blocks → RefusedAt q page b → (c : ℕ) × Lowest q page c
  unfolding reading
  ruined-lowest b l h = go (reading q page) refl
    where
      go : (r : Reading) → reading_of q page q.blocks ≡ r → (c : ℕ) × Lowest q page c
      go (done w) e = absurd (done-sound q.blocks w e b l h)
      go (refused c) e = (c, refused-lowest c e)

-- What is read, block by block.

pub from-order : (q : Plan) (b n : ℕ) → b < n → from q b + bits q b ≤ from q n
unfolding from
from-order q b zero l = absurd (omega arith)
from-order q b (suc n) l = elim (dec_lt b n) [
  | yes p ↦ (let h = from-order q b n p in omega arith)
  | no p ↦ (let e : b ≡ n = omega arith in rw e (omega arith))
]

module _ (q : Plan) (v : Valid q) (d page : List ℕ) (flips : ℕ → ℕ) (g : (b : ℕ) → b < q.blocks → GivesAt q page b (message q d b) (flips b)) where
  given-reading : (n : ℕ) → n ≤ q.blocks → reading_of q page n ≡ done (run (bit_of d) 0 (from q n))
  unfolding from message
  given-reading zero l = reading-start q page ∙ (unfold run in refl)
  given-reading (suc n) l =
      reading-next q page n _ _ _ (given-reading n (omega arith)) (outcome-gives q page v n _ _ l (g n l))
      ∙ ap done (sym (run-append (bit_of d) 0 (from q n) (bits q n) ∙ rw (zero-add (from q n))))

  pub gives-reading : reading q page ≡ done (run (bit_of d) 0 (8 * payload q))
  unfolding reading
  gives-reading = given-reading q.blocks (omega arith) ∙ rw v.whole

-- What is reported, block by block.
pub reports-counts : (q : Plan) → Valid q → (page : List ℕ) (n : ℕ → ℕ) → ((b : ℕ) → b < q.blocks → Reported q page b (n b))
    → counts q page ≡ run n 0 q.blocks
unfolding counts
reports-counts q v page n h = run-cong _ _ 0 0 q.blocks (λ b l. rw (zero-add b) (reported-only q page v b (n b) l (h b l)))

-- A list that holds for each block what is reported of it is the list of counts.
pub reports-list : (q : Plan) → Valid q → (page c : List ℕ) → length c ≡ q.blocks
    → ((b : ℕ) → b < q.blocks → Reported q page b (get_or c b 0)) → counts q page ≡ c
reports-list q v page c n h =
    reports-counts q v page (λ b. get_or c b 0) h ∙ run-ext (λ b. get_or c b 0) 0 c q.blocks 0 n (λ b k. rw (zero-add b))

-- The messages w are those of the first n blocks.
pub record Parts (q : Plan) (page : List ℕ) (n : ℕ) (w : Word) : Type 0 where
  pub words : length w ≡ from q n
  pub each : (b : ℕ) → b < n → GivesAt q page b (run (λ p. get_or w p false) (from q b) (bits q b)) (count_of (outcome q page b))

module _ (q : Plan) (v : Valid q) (page : List ℕ) where
  gives-bits : (b : ℕ) (m : Word) (n : ℕ) → GivesAt q page b m n → length m ≡ bits q b
  gives-bits b m n g = gives-length _ _ _ (block_word q page b) m n (rw (block_word-length q page b) (omega (arith, v.sums b))) g

  parts_next : (n : ℕ) (w m : Word) → Parts q page n w → GivesAt q page n m (count_of (outcome q page n)) → Parts q page (suc n) (w ++ m)
  unfolding from
  parts_next n w m r g =
      let lw = r.words in let lm = gives-bits n m _ g in
      record {
        words = length-append w m ∙ omega arith;
        each = λ b k. elim (dec_lt b n) [
          | yes p ↦ (let o = from-order q b n p in
              subst (λ (x : Word). GivesAt q page b x (count_of (outcome q page b)))
              (run-cong _ _ _ _ _ (λ j i. sym (get_or-append w m false (from q b + j) (omega arith)))) (r.each b p))
          | no p ↦ (let e : b ≡ n = omega arith in rw e (subst (λ (x : Word). GivesAt q page n x (count_of (outcome q page n)))
              (sym (run-ext (λ p. get_or (w ++ m) p false) (from q n) m (bits q n) false lm (λ j i. rw (← lw) (get_or-append-add w m j false)))) g))
        ];
      }

  done-parts : (n : ℕ) (w : Word) → reading_of q page n ≡ done w → Parts q page n w
  unfolding from
  done-parts zero w e = let s = reading-start q page in let a : w ≡ [] = cc in
      rw a (record { words = refl; each = λ b k. absurd (omega arith) })
  done-parts (suc n) w e = let s = done-last q page n w e in
      subst (Parts q page (suc n)) (sym s.words) (parts_next n s.word s.text (done-parts n s.word s.before)
      (rw (hands-count s.last) (gives-outcome q page n s.text s.count s.last)))

  pub reading-parts : (w : Word) → reading q page ≡ done w → Parts q page q.blocks w
  unfolding reading
  reading-parts w e = done-parts q.blocks w e

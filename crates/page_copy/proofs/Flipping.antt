-- Flipping bits of a payload, and filling parts of it with ones: what it does to the messages of the blocks.
use mathlib.Core.Path.{◌≡◌, refl, sym, ap, ◌∙◌}
use mathlib.Core.Bool.{Bool, true, false, not}
use mathlib.Core.List.{List, [], ◌∷◌, ◌++◌}
use Prim.Native.Nat.{ℕ, suc, ◌+◌, ◌-◌, ◌*◌, ◌≤◌, ◌<◌}
use native.Mathlib.Decide.{dec_lt, ℕ_discrete}
use native.Mathlib.Numerals.{add-one}
use native.Mathlib.Omega.{arith}
use lib.ListN.{length, take, get_or, length-append}
use lib.Dec.{eqb}
use lib.Seq.{get_or-take, length-take-le, ext_get_or}
use borrow.Author.Tests.{eq-eqb, ne_eqb}
use Rattle.algebra.specs.Word.{differ, flip}
use Rattle.bits.specs.Bits.{bit_of, run, ones, placed}
use Rattle.bits.proofs.Numbers.{ones-length}
use Rattle.bits.proofs.Runs.{run_at, run-ext, run-cong}
use Rattle.bits.proofs.Placed.{placed-inside, placed-outside, placed-run}
use Rattle.layout_plan.specs.declared.Plan.{Plan}
use Rattle.layout_plan.specs.Plan.{shape, bits, covered, from, payload, Valid}
use Rattle.code.specs.Word.{Word, turned, flipped, Below}
use Rattle.code.proofs.Distance.{coefficient}
use Rattle.code.proofs.Flips.{turned-length, turned-coefficient, flipped-length, each_below}
use Rattle.page_theory.specs.Page.{message}
use Rattle.page_theory.proofs.Words.{run-last}
use Rattle.page_theory.proofs.Reading.{from-order}
use Rattle.page_keep.specs.Keeping.{kept}
use Rattle.payload.specs.Payload.{Joined}
use Rattle.page_copy.specs.Copying.{FlippedIn, FilledIn, RestoredIn, RestoredAll}
use Rattle.page_keep.proofs.Keeping.{kept-length}
use Rattle.page_plan.proofs.Plans.{message-inside}

-- one exponent more is kept

pub kept_at : (places : List ℕ) (b n i : ℕ) → i < n → get_or (kept places b n) i 0 ≡ get_or places (64 * b + i) 0
unfolding kept
kept_at places b n i l = run_at (λ i. get_or places i 0) (64 * b) n i 0 l

pub kept_next : (places : List ℕ) (b n : ℕ) → kept places b (n + 1) ≡ kept places b n ++ (get_or places (64 * b + n) 0 ∷ [])
unfolding kept
kept_next places b n = rw (add-one n) (run-last _ _ _)

pub kept-below : (k : ℕ) (places : List ℕ) (b n i : ℕ) → Below k (kept places b n) → i < n → get_or places (64 * b + i) 0 < k
kept-below k places b n i h l = rw (← kept_at places b n i l) (each_below k (kept places b n) h i (omega (arith, kept-length places b n)))

-- the bits of a word with one of them flipped

flipped-append : (w : Word) (ps qs : List ℕ) → flipped w (ps ++ qs) ≡ flipped (flipped w ps) qs
unfolding flipped
flipped-append w [] qs = refl
flipped-append w (p ∷ ps) qs = flipped-append (turned w p) ps qs

turned_bit : (w : Word) (p i : ℕ) → i < length w → get_or (turned w p) i false ≡ differ (get_or w i false) (eqb (length w - suc i) p)
unfolding coefficient
turned_bit w p i l =
    let k = turned-length w p in
    let e : length (turned w p) - suc (length w - suc i) ≡ i = omega arith in
    let f : length w - suc (length w - suc i) ≡ i = omega arith in
    let h = turned-coefficient w p (length w - suc i) (omega arith) in
    rw (e, f) at h

turned-here : (w : Word) (p i : ℕ) → i < length w → length w - suc i ≡ p → get_or (turned w p) i false ≡ not (get_or w i false)
unfolding differ flip
turned-here w p i l e = turned_bit w p i l ∙ rw (eq-eqb (length w - suc i) p e) (go (get_or w i false))
  where
    go : (x : Bool) → differ x true ≡ not x
    go true = refl
    go false = refl

turned-elsewhere : (w : Word) (p i : ℕ) → i < length w → (length w - suc i ≡ p → ⊥) → get_or (turned w p) i false ≡ get_or w i false
unfolding differ flip
turned-elsewhere w p i l h = turned_bit w p i l ∙ rw (ne_eqb (length w - suc i) p h) (go (get_or w i false))
  where
    go : (x : Bool) → differ x false ≡ x
    go true = refl
    go false = refl

module _ (q : Plan) (b p : ℕ) (inside : p < covered q b) (m d : List ℕ) where
  -- a bit of the parity
  pub flipped-parity : {n k : ℕ} → n ≡ covered q b → k ≡ bits q b → k ≤ n - 1 - p → FlippedIn q b (p ∷ []) m d m d
  unfolding flipped
  flipped-parity en ek h = record {
    metadata = refl;
    «data» = refl;
    own = λ w l t. t ∙ ext_get_or false _ _ (length-take-le (bits q b) w (omega arith) ∙ sym (length-take-le (bits q b) (turned w p) (omega (arith, turned-length w p))))
        (λ i k. let y : i < bits q b = omega (arith, length-take-le (bits q b) w (omega arith)) in
        get_or-take (bits q b) w i false y ∙ sym (get_or-take (bits q b) (turned w p) i false y ∙ turned-elsewhere w p i (omega arith) (λ x. omega arith)));
    others = λ c n. refl;
  }

  -- a bit of the message
  flipped-at : Valid q → b < q.blocks → length m ≡ q.metadata → length d ≡ q.«data» → {m' d' : List ℕ} (j x : ℕ)
      → j ≡ covered q b - 1 - p → j < bits q b → x ≡ from q b + j → Joined m d m' d' (placed (m ++ d) x (not (bit_of (m ++ d) x) ∷ []))
      → FlippedIn q b (p ∷ []) m d m' d'
  unfolding flipped message payload
  flipped-at v l em ed {m'} {d'} j x ej h ex y =
      record {
        metadata = y.metadata;
        «data» = y.«data»;
        own = λ w k t. rw y.both (run-ext _ (from q b) (take (bits q b) (turned w p)) (bits q b) false
            (length-take-le (bits q b) (turned w p) (omega (arith, turned-length w p, v.sums b)))
            (λ i n. bit w k t i n ∙ sym (get_or-take (bits q b) (turned w p) i false n)));
        others = λ c n. rw y.both (run-cong _ _ (from q c) (from q c) (bits q c) (λ i k. placed-outside (m ++ d) x _ (from q c + i) (other c n i k)));
      }
    where
      other : (c : ℕ) → (c ≡ b → ⊥) → (i : ℕ) → i < bits q c → x ≤ from q c + i → from q c + i < x + 1 → ⊥
      other c n i k s e = elim (dec_lt c b) [
        | yes z ↦ omega (arith, from-order q c b z)
        | no z ↦ (let g : b < c = omega arith in omega (arith, from-order q b c g))
      ]

      bit : (w : Word) → length w ≡ covered q b → run (bit_of (m ++ d)) (from q b) (bits q b) ≡ take (bits q b) w → (i : ℕ) → i < bits q b
          → bit_of (placed (m ++ d) x (not (bit_of (m ++ d) x) ∷ [])) (from q b + i) ≡ get_or (turned w p) i false
      bit w k t i n =
          let c = v.sums b in
          let before : bit_of (m ++ d) (from q b + i) ≡ get_or w i false =
          sym (run_at (bit_of (m ++ d)) (from q b) (bits q b) i false n) ∙ ap (λ u. get_or u i false) t ∙ get_or-take (bits q b) w i false n in
          elim (ℕ_discrete i j) [
            | yes e ↦
                let f : from q b + i ≡ x + 0 = omega arith in
                let g : x ≡ from q b + i = omega arith in
                ap (bit_of (placed (m ++ d) x (not (bit_of (m ++ d) x) ∷ []))) f
                ∙ placed-inside (m ++ d) x (not (bit_of (m ++ d) x) ∷ []) 0 false (omega arith) (omega (arith, length-append m d, message-inside q v b l))
                ∙ ap not (ap (bit_of (m ++ d)) g ∙ before) ∙ sym (turned-here w p i (omega arith) (omega arith))
            | no e ↦ placed-outside (m ++ d) x _ (from q b + i) (λ s z. e (omega arith)) ∙ before ∙ sym (turned-elsewhere w p i (omega arith) (λ z. e (omega arith)))
          ]

  pub flipped-message : Valid q → b < q.blocks → length m ≡ q.metadata → length d ≡ q.«data» → {m' d' : List ℕ} {n k s : ℕ}
      → n ≡ covered q b → k ≡ bits q b → s ≡ from q b → n - 1 - p < k
      → Joined m d m' d' (placed (m ++ d) (s + (n - 1 - p)) (not (bit_of (m ++ d) (s + (n - 1 - p))) ∷ [])) → FlippedIn q b (p ∷ []) m d m' d'
  flipped-message v l em ed {m'} {d'} {n} {k} {s} en ek es h y =
      flipped-at v l em ed (n - 1 - p) (s + (n - 1 - p)) (ap (λ i. i - 1 - p) en) (omega arith) (ap (λ i. i + (n - 1 - p)) es) y

module _ (q : Plan) (b : ℕ) where
  pub flipped-none : (m d : List ℕ) → FlippedIn q b [] m d m d
  unfolding flipped
  flipped-none m d = record { metadata = refl; «data» = refl; own = λ w l t. t; others = λ c n. refl }

  -- one exponent more
  pub flipped-next : {ps m d m₁ d₁ m₂ d₂ : List ℕ} (p : ℕ) → FlippedIn q b ps m d m₁ d₁ → FlippedIn q b (p ∷ []) m₁ d₁ m₂ d₂
      → FlippedIn q b (ps ++ (p ∷ [])) m d m₂ d₂
  flipped-next {ps} p x y = record {
    metadata = y.metadata ∙ x.metadata;
    «data» = y.«data» ∙ x.«data»;
    own = λ w l t. y.own (flipped w ps) (flipped-length w ps ∙ l) (x.own w l t) ∙ rw (flipped-append w ps (p ∷ []));
    others = λ c n. y.others c n ∙ x.others c n;
  }

-- a message filled with ones

pub filled-message : (q : Plan) (b : ℕ) (m d : List ℕ) → Valid q → b < q.blocks → length m ≡ q.metadata → length d ≡ q.«data» → {m' d' : List ℕ} {n s : ℕ}
    → n ≡ bits q b → s ≡ from q b → Joined m d m' d' (placed (m ++ d) s (ones n)) → FilledIn q b m d m' d'
unfolding message payload shape ones
filled-message q b m d v l em ed {m'} {d'} {n} {s} en es j =
    let room = message-inside q v b l in
    let size = length-append m d in
    let both : m' ++ d' ≡ placed (m ++ d) (from q b) (ones (bits q b)) = j.both ∙ rw (en, es) in
    let run' : run (bit_of (placed (m ++ d) (from q b) (ones (bits q b)))) (from q b) (length (ones (bits q b))) ≡ ones (bits q b) =
    placed-run (m ++ d) (from q b) (ones (bits q b)) (omega (arith, ones-length (bits q b))) in
    record {
      metadata = j.metadata;
      «data» = j.«data»;
      own = rw both (rw (ones-length (bits q b)) at run');
      others = λ c o. rw both (run-cong _ _ (from q c) (from q c) (bits q c) (λ i k.
          placed-outside (m ++ d) (from q b) _ (from q c + i) (λ x y. other c o i k x (omega (arith, ones-length (bits q b))))));
    }
  where
    other : (c : ℕ) → (c ≡ b → ⊥) → (i : ℕ) → i < bits q c → from q b ≤ from q c + i → from q c + i < from q b + bits q b → ⊥
    other c o i k x y = elim (dec_lt c b) [
      | yes z ↦ omega (arith, from-order q c b z)
      | no z ↦ (let g : b < c = omega arith in omega (arith, from-order q b c g))
    ]

-- one block, and one block more

module _ (q : Plan) (b : ℕ) (places : List ℕ) {n : ℕ} {m d m' d' : List ℕ} where
  pub restored-flips : n < 128 → FlippedIn q b (kept places b n) m d m' d' → RestoredIn q b places n m d m' d'
  restored-flips l x = record { metadata = x.metadata; «data» = x.«data»; repaired = λ k. x.own; erased = λ k. absurd (omega arith); others = x.others }

  pub restored-ones : 128 ≤ n → FilledIn q b m d m' d' → RestoredIn q b places n m d m' d'
  restored-ones l x = record { metadata = x.metadata; «data» = x.«data»; repaired = λ k. absurd (omega arith); erased = λ k. x.own; others = x.others }

module _ (q : Plan) (places flips : List ℕ) where
  pub restored-start : (m d : List ℕ) → RestoredAll q 0 places flips m d m d
  restored-start m d = record {
    metadata = refl;
    «data» = refl;
    repaired = λ b l. absurd (omega arith);
    erased = λ b l. absurd (omega arith);
    others = λ b l. refl;
  }

  pub restored-next : {m d m₁ d₁ m₂ d₂ : List ℕ} (b : ℕ) {n : ℕ} → n ≡ get_or flips b 0 → RestoredAll q b places flips m d m₁ d₁
      → RestoredIn q b places n m₁ d₁ m₂ d₂ → RestoredAll q (b + 1) places flips m d m₂ d₂
  restored-next b e x y = record {
    metadata = y.metadata ∙ x.metadata;
    «data» = y.«data» ∙ x.«data»;
    repaired = λ c l. elim (dec_lt c b) [
      | yes h ↦ (λ f w k t. y.others c (λ i. omega arith) ∙ x.repaired c h f w k t)
      | no h ↦ (let i : c ≡ b = omega arith in rw (i, ← e) (λ f w k t. y.repaired f w k (x.others b (omega arith) ∙ t)))
    ];
    erased = λ c l. elim (dec_lt c b) [
      | yes h ↦ (λ f. y.others c (λ i. omega arith) ∙ x.erased c h f)
      | no h ↦ (let i : c ≡ b = omega arith in rw (i, ← e) (λ f. y.erased f))
    ];
    others = λ c l. y.others c (λ i. omega arith) ∙ x.others c (omega arith);
  }

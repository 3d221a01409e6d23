-- Laws of masks: counting the bits that they name, and flipping them byte by byte.
use mathlib.Core.Path.{◌≡◌, refl, sym, ap, ◌∙◌}
use mathlib.Core.Bool.{Bool, true, false, cond}
use mathlib.Core.List.{List}
use Prim.Native.Nat.{ℕ, zero, suc, ◌+◌, ◌-◌, ◌*◌, ◌/◌, ◌%◌, ◌≤◌, ◌<◌}
use native.Mathlib.Omega.{arith}
use native.Mathlib.Decide.{dec_lt}
use native.Mathlib.Numerals.{add-one}
use lib.ListN.{length, get_or, set, length-set, get_or-eq_default}
use lib.Seq.{get_or-set_same, get_or-set_other}
use lib.Bits.{bit_xor, xor_lt}
use lib.Dec.{eqb, leb}
use borrow.Author.Tests.{leb-true, eqb-true}
use Rattle.bits.specs.Bits.{bit_at, bit_of, run, Bytes}
use Rattle.bits.proofs.Pages.{bit_at_lt, bit_of-digit, bytes-ext}
use Rattle.mark.specs.declared.Mark.{Mark}
use Rattle.mark.specs.Mark.{place, stream_bit}
use Rattle.layout_plan.specs.declared.Plan.{Plan}
use Rattle.layout_plan.specs.Plan.{level}
use Rattle.algebra.specs.Word.{flip, differ}
use Rattle.code.specs.Word.{ones}
use Rattle.code.proofs.Polynomial.{one_at-xor}
use Rattle.page_theory.specs.Damage.{turn}
use Rattle.page_theory.proofs.Words.{run-last, ones-last}
use Rattle.roundtrip.specs.Mask.{named, few_below, allowed, overlaid}

-- counting

pub bit-low : (l : List ℕ) (p : ℕ) {b : ℕ} → b ≡ bit_at l p → b < 2
bit-low l p e = rw e (bit_at_lt l p)

pub ones_none : (k : Mark) (l : List ℕ) (s : ℕ) → 0 ≡ ones (run (stream_bit k l) s 0)
unfolding ones run
ones_none k l s = refl

pub ones-next : (k : Mark) (l : List ℕ) (s i : ℕ) {n p : ℕ} → n ≡ ones (run (stream_bit k l) s i) → p ≡ place k (s + i)
    → n + bit_at l p ≡ ones (run (stream_bit k l) s (i + 1))
unfolding stream_bit
ones-next k l s i e f = rw (add-one i, run-last (stream_bit k l) s i, ones-last, bit_of-digit l (place k (s + i)), e, f)

-- limits of blocks

pub few-none : (q : Plan) (mask : List ℕ) → few_below q mask 0 ≡ true
unfolding few_below
few-none q mask = refl

pub few-next : (q : Plan) (mask : List ℕ) (b : ℕ) → few_below q mask b ≡ true → leb (named q mask b) (level q b) ≡ true
    → few_below q mask (b + 1) ≡ true
unfolding few_below
few-next q mask b h k = rw (add-one b, h, k)

pub few-not : (q : Plan) (mask : List ℕ) (b n : ℕ) → leb (named q mask b) (level q b) ≡ false → b < n → few_below q mask n ≡ false
unfolding few_below
few-not q mask b zero h l = absurd (omega arith)
few-not q mask b (suc n) h l = elim (dec_lt b n) [
  | yes y ↦ rw (few-not q mask b n h y)
  | no y ↦ (let e : n ≡ b = omega arith in rw (e, h) (go (few_below q mask b)))
]
  where
    go : (x : Bool) → cond x false false ≡ false
    go true = refl
    go false = refl

pub few-each : (q : Plan) (mask : List ℕ) (n : ℕ) → few_below q mask n ≡ true → (b : ℕ) → b < n → named q mask b ≤ level q b
unfolding few_below
few-each q mask zero h b l = absurd (omega arith)
few-each q mask (suc n) h b l = go (few_below q mask n) refl h (λ e y. few-each q mask n e b y)
  where
    go : (x : Bool) → few_below q mask n ≡ x → cond x (leb (named q mask n) (level q n)) false ≡ true
        → (few_below q mask n ≡ true → b < n → named q mask b ≤ level q b) → named q mask b ≤ level q b
    go false e h below = let z : ◌≡◌ {A = ℕ} 0 1 = cc in absurd (omega arith)
    go true e h below = elim (dec_lt b n) [
      | yes y ↦ below e y
      | no y ↦ (let k : b ≡ n = omega arith in rw k (leb-true _ _ h))
    ]

-- A mask that is allowed has the length of a page, and names few bits of each block.
pub record Allowed (q : Plan) (mask : List ℕ) : Type 0 where
  pub size : length mask ≡ q.size
  pub few : (b : ℕ) → b < q.blocks → named q mask b ≤ level q b

pub allowed-each : (q : Plan) (mask : List ℕ) → allowed q mask ≡ true → Allowed q mask
unfolding allowed
allowed-each q mask h = go (eqb (length mask) q.size) refl h
  where
    go : (x : Bool) → eqb (length mask) q.size ≡ x → cond x (few_below q mask q.blocks) false ≡ true → Allowed q mask
    go false e h = let z : ◌≡◌ {A = ℕ} 0 1 = cc in absurd (omega arith)
    go true e h = record { size = eqb-true _ _ e; few = few-each q mask q.blocks h }

-- flipping

differ-turn : (x y : Bool) → differ x y ≡ turn y x
unfolding differ turn flip
differ-turn true true = refl
differ-turn true false = refl
differ-turn false true = refl
differ-turn false false = refl

-- the first i bytes of a page are flipped
pub record Flipped (mask before : List ℕ) (i : ℕ) (after : List ℕ) : Type 0 where
  pub same : length after ≡ length before
  pub own : (k : ℕ) → k < i → get_or after k 0 ≡ bit_xor (get_or before k 0) (get_or mask k 0)
  pub others : (k : ℕ) → i ≤ k → get_or after k 0 ≡ get_or before k 0
  pub small : (k : ℕ) → k < i → get_or after k 0 < 256

pub flipped-start : (mask page : List ℕ) → Flipped mask page 0 page
flipped-start mask page = record { same = refl; own = λ k l. absurd (omega arith); others = λ k l. refl; small = λ k l. absurd (omega arith) }

pub flipped-next : (mask before : List ℕ) (i : ℕ) (after : List ℕ) → Flipped mask before i after → i < length before
    → get_or after i 0 < 256 → get_or mask i 0 < 256
    → Flipped mask before (i + 1) (set after i (bit_xor (get_or after i 0) (get_or mask i 0)))
flipped-next mask before i after h l x y = record {
  same = length-set after i _ ∙ h.same;
  own = λ k m. elim (dec_lt k i) [
    | yes z ↦ get_or-set_other after i k _ 0 (λ e. omega arith) ∙ h.own k z
    | no z ↦ (let e : k ≡ i = omega arith in
        rw e (get_or-set_same after i _ 0 (omega (arith, h.same)) ∙ ap (λ x. bit_xor x (get_or mask i 0)) (h.others i (omega arith))))
  ];
  others = λ k m. get_or-set_other after i k _ 0 (λ e. omega arith) ∙ h.others k (omega arith);
  small = λ k m. elim (dec_lt k i) [
    | yes z ↦ rw (get_or-set_other after i k (bit_xor (get_or after i 0) (get_or mask i 0)) 0 (λ e. omega arith)) (h.small k z)
    | no z ↦ (let e : k ≡ i = omega arith in
        rw (e, get_or-set_same after i (bit_xor (get_or after i 0) (get_or mask i 0)) 0 (omega (arith, h.same))) (xor_lt 8 _ _ x y))
  ];
}

pub flipped-end : (mask before after : List ℕ) → Flipped mask before (length before) after
    → after ≡ overlaid mask before
unfolding overlaid bit_of bit_at
flipped-end mask before after h = sym (bytes-ext _ (length before) after bytes_after bit-after)
  where
    bytes_after : Bytes (length before) after
    bytes_after = record {
      count = h.same;
      small = λ k. elim (dec_lt k (length before)) [
        | yes y ↦ h.small k y
        | no y ↦ rw (get_or-eq_default after 0 {n = k} (omega (arith, h.same))) (omega arith)
      ];
    }

    bit-after : (p : ℕ) → p < 8 * length before → bit_of after p ≡ turn (bit_of mask p) (bit_of before p)
    bit-after p l =
        rw (h.own (p / 8) (omega arith))
        (one_at-xor (get_or before (p / 8) 0) (get_or mask (p / 8) 0) (7 - p % 8) ∙ differ-turn _ _)

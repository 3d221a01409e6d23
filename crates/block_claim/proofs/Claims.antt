-- Laws behind the claim check: pairs of exponents, exponents flipped one after the other, codewords by their remainder.
use mathlib.Core.Path.{◌≡◌, refl, sym, ap, ◌∙◌}
use mathlib.Core.Bool.{Bool, true, false, not}
use mathlib.Core.List.{List, [], ◌∷◌, ◌++◌}
use Prim.Native.Nat.{ℕ, suc, ◌+◌, ◌-◌, ◌*◌, ◌≤◌, ◌<◌}
use native.Mathlib.Omega.{arith}
use native.Mathlib.Decide.{ℕ_discrete}
use native.Mathlib.Numerals.{add-one}
use native.Mathlib.Nat.{zero-add}
use lib.ListN.{length, get_or, take}
use lib.Seq.{take-suc}
use lib.Dec.{eqb}
use borrow.Author.Tests.{eqb-true, eqb-false, eq-eqb, ne_eqb}
use Rattle.bits.specs.Decides.{Decides}
use Rattle.bits.specs.Bits.{bit_of, run, placed}
use Rattle.bits.proofs.Runs.{run_length, run_at}
use Rattle.bits.proofs.Placed.{placed-inside, placed-outside, placed-run}
use Rattle.mark.specs.declared.Mark.{Mark}
use Rattle.mark.specs.Mark.{stream_bit}
use Rattle.field.specs.declared.Field.{Field}
use Rattle.field.specs.declared.Field.TheVariants.{Thirteen, Fourteen}
use Rattle.field.specs.Field.{longest}
use Rattle.algebra.specs.Word.{flip, differ}
use Rattle.code.specs.Word.{Word, turned, flipped}
use Rattle.code.specs.Code.{Codeword, Fits}
use Rattle.code.specs.Generator.{remainder}
use Rattle.code.proofs.Distance.{coefficient, coefficient-ext}
use Rattle.code.proofs.Flips.{turned-length, turned-coefficient}
use Rattle.code.proofs.Remainder.{codeword-remainder, remainder-codeword}
use Rattle.block_claim.specs.Claims.{Distinct}

-- ---- pairs

-- place i differs from each later one below j
pub Row : List ℕ → ℕ → ℕ → Type 0
Row claims i j = (b : ℕ) → i < b → b < j → get_or claims i 0 ≡ get_or claims b 0 → ⊥

-- each place below i differs from each later one
pub Rows : List ℕ → ℕ → Type 0
Rows claims i = (a b : ℕ) → a < i → a < b → b < length claims → get_or claims a 0 ≡ get_or claims b 0 → ⊥

module _ (claims : List ℕ) where
  pub row-start : (i : ℕ) → Row claims i (i + 1)
  unfolding Row
  row-start i b p q e = omega arith

  pub row_next : (i j : ℕ) → Row claims i j → (get_or claims i 0 ≡ get_or claims j 0 → ⊥) → Row claims i (j + 1)
  unfolding Row
  row_next i j r n b p q e = elim (ℕ_discrete b j) [
    | yes z ↦ n (e ∙ ap (λ k. get_or claims k 0) z)
    | no z ↦ r b p (omega arith) e
  ]

  pub rows_start : Rows claims 0
  unfolding Rows
  rows_start a b p q l e = omega arith

  pub rows_next : (i j : ℕ) → Rows claims i → Row claims i j → length claims ≤ j → Rows claims (i + 1)
  unfolding Rows Row
  rows_next i j rs r h a b p q l e = elim (ℕ_discrete a i) [
    | yes z ↦ r b (omega arith) (omega arith) (ap (λ k. get_or claims k 0) (sym z) ∙ e)
    | no z ↦ rs a b (omega arith) q l e
  ]

  pub rows_end : (i : ℕ) → Rows claims i → length claims ≤ i → Distinct claims
  unfolding Rows
  rows_end i rs h a b p q e = rs a b (omega arith) p q e

-- ---- exponents below n

pub within-next : (n : ℕ) (claims : List ℕ) (i : ℕ) → ((k : ℕ) → k < i → get_or claims k 0 < n) → get_or claims i 0 < n
    → (k : ℕ) → k < i + 1 → get_or claims k 0 < n
within-next n claims i h l k m = elim (ℕ_discrete k i) [ yes e ↦ rw e l | no e ↦ h k (omega arith) ]

-- ---- exponents flipped

differ-true : (x : Bool) → differ x true ≡ not x
unfolding differ flip
differ-true true = refl
differ-true false = refl

differ-false : (x : Bool) → differ x false ≡ x
unfolding differ flip
differ-false true = refl
differ-false false = refl

run-coefficient : (f : ℕ → Bool) (n p : ℕ) → p < n → coefficient (run f 0 n) p ≡ f (n - suc p)
unfolding coefficient
run-coefficient f n p l =
    rw (run_length f 0 n) (run_at f 0 n (n - suc p) false (omega arith) ∙ ap f (zero-add (n - suc p)))

-- a bit of the bytes flipped flips its coefficient
pub flip-turned : (bytes : List ℕ) (n p : ℕ) → p < n → n ≤ 8 * length bytes → {s : ℕ} → s ≡ n - 1 - p
    → run (bit_of (placed bytes s (not (bit_of bytes s) ∷ []))) 0 n ≡ turned (run (bit_of bytes) 0 n) p
flip-turned bytes n p l h {s} es =
    let after : List ℕ = placed bytes s (not (bit_of bytes s) ∷ []) in
    coefficient-ext _ _ (run_length (bit_of after) 0 n ∙ sym (turned-length (run (bit_of bytes) 0 n) p ∙ run_length (bit_of bytes) 0 n)) (λ e m.
    let k : e < n = omega (arith, turned-length (run (bit_of bytes) 0 n) p, run_length (bit_of bytes) 0 n) in
    run-coefficient (bit_of after) n e k
    ∙ at e k
    ∙ sym (turned-coefficient (run (bit_of bytes) 0 n) p e (omega (arith, run_length (bit_of bytes) 0 n)) ∙ rw (run-coefficient (bit_of bytes) n e k)))
  where
    at : (e : ℕ) → e < n → bit_of (placed bytes s (not (bit_of bytes s) ∷ [])) (n - suc e) ≡ differ (bit_of bytes (n - suc e)) (eqb e p)
    at e k = elim (ℕ_discrete e p) [
      | yes z ↦ (let i : n - suc e ≡ s + 0 = omega arith in let j : s + 0 ≡ s = omega arith in
          rw (eq-eqb e p z, i) (placed-inside bytes s (not (bit_of bytes s) ∷ []) 0 false (omega arith) (omega arith) ∙ rw j (sym (differ-true (bit_of bytes s)))))
      | no z ↦ rw (ne_eqb e p z)
          (placed-outside bytes s (not (bit_of bytes s) ∷ []) (n - suc e) (λ a b. z (omega arith)) ∙ sym (differ-false (bit_of bytes (n - suc e))))
    ]

flipped-last : (w : Word) (ps : List ℕ) (p : ℕ) → flipped w (ps ++ (p ∷ [])) ≡ turned (flipped w ps) p
unfolding flipped
flipped-last w [] p = refl
flipped-last w (q ∷ ps) p = flipped-last (turned w q) ps p

pub flipped-start : (w : Word) (claims : List ℕ) → w ≡ flipped w (take 0 claims)
unfolding flipped
flipped-start w claims = refl

pub flipped-next : (w : Word) (claims : List ℕ) (i : ℕ) → i < length claims → {v u : Word} → v ≡ flipped w (take i claims)
    → u ≡ turned v (get_or claims i 0) → u ≡ flipped w (take (i + 1) claims)
flipped-next w claims i l e f = f ∙ rw (e, add-one i, take-suc claims i 0 l) (sym (flipped-last w (take i claims) (get_or claims i 0)))

-- ---- codewords

pub zero-decides : (f : Field) (t : ℕ) (w : Word) → t ≤ 62 → {r : Bool} {x : ℕ} → r ≡ eqb x 0 → x ≡ remainder f t w → Decides r (Codeword f t w)
zero-decides f t w h {r} {x} e d = record {
  holds = λ y. remainder-codeword f t w h (sym d ∙ eqb-true x 0 (sym e ∙ y));
  fails = λ y c. eqb-false x 0 (sym e ∙ y) (d ∙ codeword-remainder f t w h c);
}

pub code-every : (f : Field) (t : ℕ) (w : Word) → t ≡ 0 → Codeword f t w
code-every f t w e = record { zeros = λ j l m. absurd (omega arith) }

-- the block's bits copied to the start of other bytes, and the claimed ones flipped there
pub copied-flipped : (k : Mark) (word page claims two : List ℕ) (position n m : ℕ) → n ≡ m → n ≤ 8 * length word → {one : List ℕ}
    → one ≡ placed word 0 (run (stream_bit k page) position n) → run (bit_of two) 0 n ≡ flipped (run (bit_of one) 0 n) claims
    → run (bit_of two) 0 n ≡ flipped (run (stream_bit k page) position m) claims
copied-flipped k word page claims two position n m em h e f =
    let w : Word = run (stream_bit k page) position n in
    let l : length w ≡ n = run_length (stream_bit k page) position n in
    let r : run (bit_of (placed word 0 w)) 0 (length w) ≡ w = placed-run word 0 w (omega arith) in
    f ∙ ap (λ v. flipped v claims) (ap (λ v. run (bit_of v) 0 n) e ∙ rw l at r ∙ ap (run (stream_bit k page) position) em)

-- a block with t > 0 has room in 2,048 bytes
pub longest-room : (f : Field) (t n : ℕ) → Fits f t n → (t ≡ 0 → ⊥) → n ≤ 16384
unfolding longest
longest-room Thirteen t n h z = let l = h.short (omega arith) in omega arith
longest-room Fourteen t n h z = let l = h.short (omega arith) in omega arith

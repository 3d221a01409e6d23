-- What becomes of a block (document 01, "The code" and "One block"; document 02, E1). The rule is distance: a block is decoded first,
-- and only where no codeword is near do its zeros count.
--
-- codeword? f t w      that a word is a codeword, or that it is none
-- nearest f t w        a codeword within t flips of w, or that there is none
-- Outcome              what a block gives: its message and the number of its flips, its message and the number of its zeros where it is
--                      erased, or that it is ruined
-- judge f t k w        the outcome of a block w whose first k bits are its message
-- erased_count z        the count that is reported of an erased block with z zeros
-- Repaired f t k w m n     m is the message of a codeword within t flips of w, and n is their distance
-- Erased f t k w m n       no codeword is within t flips of w, w has at most t zeros, m is all ones, and n is 128 plus the zeros
-- Gives f t k w m n        a block gives the message m and reports n: it is repaired, or it is erased
-- Refused f t w        a block is ruined: no codeword is within t flips of w, and w has more than t zeros
use Rattle.std.specs.Prelude.{◌≡◌, Bool, true, false, ℕ, zero, suc, ◌+◌, ◌*◌, ◌≤◌, ◌<◌, take, replicate, leb}
use Rattle.std.proofs.Common.{arith}
use Rattle.std.proofs.Math.Decide.{ℕ_discrete}
use Rattle.field.specs.declared.Field.{Field}
use Rattle.field.specs.Field.{a^}
use Rattle.code.specs.Word.{Word, distance, zeros}
use Rattle.code.specs.Code.{value, Codeword, Near, Ruined}
use Rattle.code.specs.Search.{search, all-below}

-- By all values at a, a^2, .., a^(2t).
pub codeword? : (f : Field) (t : ℕ) (w : Word) → Dec (Codeword f t w)
codeword? f t w = elim (all-below (λ i. value f w (a^ f (suc i)) ≡ 0) (λ i. ℕ_discrete (value f w (a^ f (suc i))) 0) (2 * t)) [
  | yes h ↦ yes (record { zeros = at h })
  | no h ↦ no (λ c. h (λ i l. c.zeros (suc i) (omega arith) (omega arith)))
]
  where
    at : ((i : ℕ) → i < 2 * t → value f w (a^ f (suc i)) ≡ 0) → (j : ℕ) → 0 < j → j ≤ 2 * t → value f w (a^ f j) ≡ 0
    at h zero l m = absurd (omega arith)
    at h (suc i) l m = h i (omega arith)

-- By a search over all words at most t places away. There is at most one (proofs/Codeword, near-unique).
pub nearest : (f : Field) (t : ℕ) (w : Word) → Dec ((c : Word) × Near f t w c)
nearest f t w = elim (search (Codeword f t) (codeword? f t) t w) [
  | yes (c, h) ↦ yes (c, record { same = h.same; code = h.holds; close = h.close })
  | no n ↦ no (λ (c, h). n (c, record { same = h.same; holds = h.code; close = h.close }))
]

-- The flips are the covered bits, parity included, in which block and codeword differ (document 01, "Replies"); the zeros of an
-- erased block are counted over the same bits (document 02, E1).
pub data Outcome : Type 0 where
  good : Word → ℕ → Outcome
  erased : Word → ℕ → Outcome
  ruined : Outcome

-- With a codeword near, its first k bits and its distance. With none, a block of at most t zeros is erased, and its message reads as
-- ones; any other is ruined. At t = 0 every word is a codeword, so no block is erased or ruined.
unfoldable pub judge_by : (k : ℕ) {f : Field} {t : ℕ} {w : Word} → Dec ((c : Word) × Near f t w c) → Bool → Outcome
judge_by k {f} {t} {w} (yes (c, near)) few = good (take k c) (distance w c)
judge_by k {f} {t} {w} (no none) true = erased (replicate k true) (zeros w)
judge_by k {f} {t} {w} (no none) false = ruined

unfoldable pub judge : (f : Field) (t k : ℕ) (w : Word) → Outcome
judge f t k w = judge_by k (nearest f t w) (leb (zeros w) t)

-- What is reported of an erased block in place of its flips, which are never more than 62.
unfoldable pub erased_count : ℕ → ℕ
erased_count z = 128 + z

-- What a block must give (demand 2), and when it must be refused (demand 3). `judge` gives exactly this (proofs/Outcome).
pub record Repaired (f : Field) (t k : ℕ) (w m : Word) (n : ℕ) : Type 0 where
  pub word : Word
  pub near : Near f t w word
  pub message : m ≡ take k word
  pub count : n ≡ distance w word

pub record Erased (f : Field) (t k : ℕ) (w m : Word) (n : ℕ) : Type 0 where
  pub none : Ruined f t w
  pub few : zeros w ≤ t
  pub message : m ≡ replicate k true
  pub count : n ≡ erased_count (zeros w)

pub data Gives (f : Field) (t k : ℕ) (w m : Word) (n : ℕ) : Type 0 where
  by-codeword : Repaired f t k w m n → Gives f t k w m n
  by-zeros : Erased f t k w m n → Gives f t k w m n

pub record Refused (f : Field) (t : ℕ) (w : Word) : Type 0 where
  pub none : Ruined f t w
  pub many : t < zeros w

-- The replies of the calls, step by step: each way out of the code is a case of the definition.
--
-- Right field bytes count x    a request that is not refused
use mathlib.Core.Path.{◌≡◌, refl, sym, ◌∙◌}
use mathlib.Core.Bool.{Bool, true, false, cond}
use mathlib.Core.List.{List}
use Prim.Native.Nat.{ℕ, ◌^◌, ◌≤◌, ◌<◌}
use native.Mathlib.Omega.{arith}
use borrow.Author.Tests.{eq-eqb, ne_eqb, eqb-true, lt-ltb, ltb-true}
use lib.Dec.{eqb, ltb}
use Rattle.replies.specs.declared.Refusal.TheVariants.{LevelTooHigh, BufferLength, RemainderTooWide}
use Rattle.std.specs.Prelude.{⊤, Result, Ok, Err}
use Rattle.replies.specs.declared.Refusal.{Refusal}
use Rattle.replies.specs.Replies.{number, block, verdict_number, verdict_block, unless}
use Rattle.remainder.specs.Remainder.{bytes_for}
use Rattle.fragments.specs.Calls.{level_of, offered, coefficients, fitting, requested, ended, ending, reply}

-- ---- the level field

pub offered-two : (field : ℕ) → field ≡ 2 → true ≡ offered field
unfolding offered
offered-two field e = rw e

pub offered-four : (field : ℕ) → field ≡ 4 → true ≡ offered field
unfolding offered
offered-four field e = rw e

pub offered-eight : (field : ℕ) → field ≡ 8 → true ≡ offered field
unfolding offered
offered-eight field e = rw e

pub offered-none : (field : ℕ) → ¬ (field ≡ 2) → ¬ (field ≡ 4) → ¬ (field ≡ 8) → false ≡ offered field
unfolding offered
offered-none field a b c = rw (ne_eqb field 2 a, ne_eqb field 4 b, ne_eqb field 8 c)

pub offered-level : (field : ℕ) → offered field ≡ true → field ≤ 8
unfolding offered
offered-level field h = by (eqb field 2) (eqb field 4) refl refl h
  where
    by : (a b : Bool) → eqb field 2 ≡ a → eqb field 4 ≡ b → cond a true (cond b true (eqb field 8)) ≡ true → field ≤ 8
    by true b ea eb h = let e = eqb-true field 2 ea in omega arith
    by false true ea eb h = let e = eqb-true field 4 eb in omega arith
    by false false ea eb h = let e = eqb-true field 8 h in omega arith

-- mt is at most 208
pub offered-bits : (field : ℕ) → offered field ≡ true → coefficients field ≤ 208
unfolding coefficients level_of
offered-bits field h = let l = offered-level field h in omega arith

-- ---- the lengths

module _ (bits bytes count : ℕ) where
  pub lengths-bytes : ¬ (bytes ≡ bytes_for bits) → false ≡ fitting bits bytes count
  unfolding fitting
  lengths-bytes b = rw (ne_eqb _ _ b)

  pub lengths-count : {r : Bool} → bytes ≡ bytes_for bits → r ≡ eqb count 7 → r ≡ fitting bits bytes count
  unfolding fitting
  lengths-count b h = rw (eq-eqb _ _ b) h

  pub fitting-lengths : fitting bits bytes count ≡ true → (bytes ≡ bytes_for bits) × (count ≡ 7)
  unfolding fitting
  fitting-lengths h = by (eqb bytes (bytes_for bits)) refl h
    where
      by : (b : Bool) → eqb bytes (bytes_for bits) ≡ b → cond b (eqb count 7) false ≡ true → (bytes ≡ bytes_for bits) × (count ≡ 7)
      by true e h = (eqb-true _ _ e, eqb-true _ _ h)
      by false e h = let z = eqb-true 0 1 h in absurd (omega arith)

-- ---- how a call ends

pub ended-lent : (a : Result ⊤ Refusal) (lent : List ℕ) → (ended a lent).lent ≡ lent
unfolding ended
ended-lent a lent = refl

module _ (field bytes count x : ℕ) (after before : List ℕ) where
  pub ends-level : offered field ≡ false → ended (Err LevelTooHigh) before ≡ ending (reply field bytes count x) after before
  unfolding ended verdict_number verdict_block number block ending reply
  ends-level a = rw a

  module _ (a : offered field ≡ true) where
    pub ends-buffer : fitting (coefficients field) bytes count ≡ false → ended (Err BufferLength) before ≡ ending (reply field bytes count x) after before
    unfolding ended verdict_number verdict_block number block ending reply
    ends-buffer b = rw (a, b)

    module _ (b : fitting (coefficients field) bytes count ≡ true) where
      pub ends-high : ltb x (2 ^ coefficients field) ≡ false → ended (Err RemainderTooWide) before ≡ ending (reply field bytes count x) after before
      unfolding ended verdict_number verdict_block number block ending reply
      ends-high c = rw (a, b, c)

      pub ends-done : {lent : List ℕ} → ltb x (2 ^ coefficients field) ≡ true → lent ≡ after → ended (Ok tt) lent ≡ ending (reply field bytes count x) after before
      unfolding ended verdict_number verdict_block ending reply
      ends-done c l = rw (a, b, c, l)

-- the levels and lengths of a request, as they are looked at first
pub record Requested (field bytes count bits : ℕ) : Type 0 where
  pub level : offered field ≡ true
  pub lengths : fitting (coefficients field) bytes count ≡ true
  pub number : bits ≡ coefficients field

pub requested-right : (field bytes count bits : ℕ) → Ok bits ≡ requested field bytes count → Requested field bytes count bits
unfolding requested
requested-right field bytes count bits = go (offered field) (fitting (coefficients field) bytes count) refl refl
  where
    go : (a b : Bool) → offered field ≡ a → fitting (coefficients field) bytes count ≡ b
        → Ok bits ≡ cond a (cond b (Ok (coefficients field)) (Err BufferLength)) (Err LevelTooHigh) → Requested field bytes count bits
    go true true ea eb h = record { level = ea; lengths = eb; number = cc }
    go true false ea eb h = let z : ◌≡◌ {A = ℕ} 0 1 = cc in absurd (omega arith)
    go false b ea eb h = let z : ◌≡◌ {A = ℕ} 0 1 = cc in absurd (omega arith)

pub requested-ends : (field bytes count x : ℕ) (after before : List ℕ) (e : Refusal) → Err e ≡ requested field bytes count
    → ended (Err e) before ≡ ending (reply field bytes count x) after before
unfolding requested
requested-ends field bytes count x after before e = go (offered field) (fitting (coefficients field) bytes count) refl refl
  where
    go : (a b : Bool) → offered field ≡ a → fitting (coefficients field) bytes count ≡ b
        → Err e ≡ cond a (cond b (Ok (coefficients field)) (Err BufferLength)) (Err LevelTooHigh) → ended (Err e) before ≡ ending (reply field bytes count x) after before
    go true true ea eb h = let z : ◌≡◌ {A = ℕ} 0 1 = cc in absurd (omega arith)
    go true false ea eb h = let k : e ≡ BufferLength = cc in rw k (ends-buffer field bytes count x after before ea eb)
    go false b ea eb h = let k : e ≡ LevelTooHigh = cc in rw k (ends-level field bytes count x after before ea)

-- the code tests the register y against the number of coefficients
pub tested : (field x : ℕ) {y bits : ℕ} {r v : Bool} → y ≡ x → bits ≡ coefficients field → r ≡ ltb y (2 ^ bits) → r ≡ v → ltb x (2 ^ coefficients field) ≡ v
tested field x e l h g = rw (← e, ← l) (sym h ∙ g)

pub measured : (field bytes count : ℕ) {bits : ℕ} {r v : Bool} → bits ≡ coefficients field → r ≡ fitting bits bytes count → r ≡ v → fitting (coefficients field) bytes count ≡ v
measured field bytes count l h g = rw (← l) (sym h ∙ g)

-- a remainder of an offered level has at most 26 bytes
pub few_bytes : (field bytes count : ℕ) → offered field ≡ true → fitting (coefficients field) bytes count ≡ true → bytes ≤ 26
unfolding bytes_for
few_bytes field bytes count a b = let l = offered-bits field a in let e = (fitting-lengths (coefficients field) bytes count b).0 in omega arith

-- ---- a request that is not refused

pub record Right (field bytes count x : ℕ) : Type 0 where
  pub level : offered field ≡ true
  pub lengths : fitting (coefficients field) bytes count ≡ true
  pub low : x < 2 ^ coefficients field

pub right-reply : (field bytes count x : ℕ) → Right field bytes count x → reply field bytes count x ≡ 0
unfolding reply
right-reply field bytes count x h = rw (h.level, h.lengths, lt-ltb _ _ h.low)

pub reply-right : (field bytes count x : ℕ) → reply field bytes count x ≡ 0 → Right field bytes count x
unfolding reply number
reply-right field bytes count x h = by (offered field) (fitting (coefficients field) bytes count) (ltb x (2 ^ coefficients field)) refl refl refl h
  where
    by : (a b c : Bool) → offered field ≡ a → fitting (coefficients field) bytes count ≡ b → ltb x (2 ^ coefficients field) ≡ c → ◌≡◌ {A = ℕ} (unless a 1 (unless b 6 (unless c 8 0))) 0
        → Right field bytes count x
    by true true true ea eb ec h = record { level = ea; lengths = eb; low = ltb-true _ _ ec }
    by true true false ea eb ec h = absurd (omega arith)
    by true false c ea eb ec h = absurd (omega arith)
    by false b c ea eb ec h = absurd (omega arith)

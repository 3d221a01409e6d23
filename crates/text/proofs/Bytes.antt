-- Digits that say bytes, one after the other.
use mathlib.Core.Path.{◌≡◌, refl, sym, ap, ◌∙◌}
use mathlib.Core.Bool.{Bool, true, false, cond}
use mathlib.Core.List.{List}
use Prim.Native.Nat.{ℕ, zero, suc, ◌+◌, ◌/◌, ◌%◌, ◌≤◌, ◌<◌}
use native.Mathlib.Numerals.{add-one}
use native.Mathlib.Omega.{arith}
use lib.ListN.{length, get_or, set}
use native.Mathlib.Decide.{dec_lt}
use borrow.Author.Rules.{rules}
use borrow.Author.Tests.{ltb-true, lt-ltb, le-ltb, eq-eqb, ne_eqb}
use Rattle.std.specs.Prelude.{Some, None}
use Rattle.std.specs.Prelude.{IsTrue, ◌↔◌, All}
use Rattle.std.proofs.lemmas.List.Elements.{All-get_or, All-from_get_or}
use Rattle.text.specs.Numbers.{digit_of}
use Rattle.text.specs.Bytes.{all_hex, pair_of, placed, readable, bytes_number, bytes_placed}

both-true : (b x : Bool) → cond b x false ≡ true → (b ≡ true) × (x ≡ true)
both-true true x e = (refl, e)
both-true false x e = search rules

all-hex-below : (text : List ℕ) (n k : ℕ) → all_hex text n ≡ true → k < n → digit_of (get_or text k 0) < 16
unfolding all_hex
all-hex-below text zero k e h = absurd (omega arith)
all-hex-below text (suc n) k e h =
    let both = both-true (all_hex text n) _ e in
    let last = ltb-true (digit_of (get_or text n 0)) 16 both.1 in
    elim (dec_lt k n) [
      | yes s ↦ all-hex-below text n k both.0 s
      | no s ↦ let same : k ≡ n = omega arith in rw same last
    ]

all-hex-front : (text : List ℕ) (n : ℕ) → All (λ c. digit_of c < 16) text → n ≤ length text → all_hex text n ≡ true
unfolding all_hex
all-hex-front text zero a h = refl
all-hex-front text (suc n) a h =
    rw (all-hex-front text n a (omega arith), lt-ltb (digit_of (get_or text n 0)) 16 (All-get_or (λ c. digit_of c < 16) text n 0 (omega arith) a)) refl

-- All characters are digits where all as far as the last are.
pub all-hex-is : (text : List ℕ) (b : Bool) → IsTrue b ↔ All (λ c. digit_of c < 16) text → b ≡ all_hex text (length text)
all-hex-is text true h = sym (all-hex-front text (length text) (h.0 refl) (omega arith))
all-hex-is text false h = go (all_hex text (length text)) refl
  where
    go : (a : Bool) → all_hex text (length text) ≡ a → false ≡ all_hex text (length text)
    go true e = h.1 (All-from_get_or (λ c. digit_of c < 16) text 0 (λ k s. all-hex-below text (length text) k e s)) ∙ sym e
    go false e = sym e

pub placed-next : (text out now : List ℕ) (n b : ℕ) → now ≡ placed text out n →
    b ≡ pair_of (get_or text (n + n) 0) (get_or text (n + n + 1) 0) → set now n b ≡ placed text out (n + 1)
unfolding placed
placed-next text out now n b e g = rw (e, g) (sym (ap (placed text out) (add-one n)))

module _ (text out : List ℕ) where
  pub bytes-odd : (length text % 2 ≡ 0 → ⊥) → (None ≡ bytes_number text (length out)) × (out ≡ bytes_placed text out)
  unfolding readable bytes_number bytes_placed
  bytes-odd h = (rw (ne_eqb (length text % 2) 0 h), rw (ne_eqb (length text % 2) 0 h))

  module _ (even : length text % 2 ≡ 0) where
    pub bytes-many : length out < length text / 2 → (None ≡ bytes_number text (length out)) × (out ≡ bytes_placed text out)
    unfolding readable bytes_number bytes_placed
    bytes-many h = (
      rw (eq-eqb (length text % 2) 0 even, lt-ltb (length out) (length text / 2) h),
      rw (eq-eqb (length text % 2) 0 even, lt-ltb (length out) (length text / 2) h),
    )

    module _ (room : length text / 2 ≤ length out) where
      pub bytes-other : false ≡ all_hex text (length text) → (None ≡ bytes_number text (length out)) × (out ≡ bytes_placed text out)
      unfolding readable bytes_number bytes_placed
      bytes-other h = (
        rw (eq-eqb (length text % 2) 0 even, le-ltb (length out) (length text / 2) room, sym h),
        rw (eq-eqb (length text % 2) 0 even, le-ltb (length out) (length text / 2) room, sym h),
      )

      pub bytes-all : true ≡ all_hex text (length text) →
          (Some (length text / 2) ≡ bytes_number text (length out)) × (placed text out (length text / 2) ≡ bytes_placed text out)
      unfolding readable bytes_number bytes_placed
      bytes-all h = (
        rw (eq-eqb (length text % 2) 0 even, le-ltb (length out) (length text / 2) room, sym h),
        rw (eq-eqb (length text % 2) 0 even, le-ltb (length out) (length text / 2) room, sym h),
      )

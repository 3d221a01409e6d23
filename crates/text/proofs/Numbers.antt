-- One digit more: which numbers fit 64 bits, and what a text says so far.
use mathlib.Core.Path.{◌≡◌, refl, sym, ap}
use mathlib.Core.Bool.{Bool, true, false, cond}
use mathlib.Core.List.{List}
use Prim.Native.Nat.{ℕ, zero, suc, ◌+◌, ◌*◌, ◌-◌, ◌≤◌, ◌<◌}
use native.Mathlib.Omega.{arith}
use native.Mathlib.Numerals.{add-one, unary_clauses}
use lib.ListN.{length, get_or, take, drop, length-drop}
use lib.Seq.{take_all}
use lib.Dec.{eqb, ltb}
use borrow.Author.Tests.{lt-ltb, le-ltb, eq-eqb, ne_eqb, ltb-false}
use Rattle.std.specs.Prelude.{Option, Some, None}
use Rattle.std.specs.Option.{SomeIff, unwrap_or}
use Rattle.text.specs.Parts.{plus_of}
use Rattle.text.specs.Numbers.{digit_of, fitting, appended, digits_to, digits_of, is_hex, without_prefix, number_of}

-- What the checked operations of std give is what fits 64 bits.
pub fitting-checked : (r : Option ℕ) (s : ℕ) → SomeIff r (s < 18446744073709551616) s → r ≡ fitting s
unfolding fitting
fitting-checked None s h = rw (le-ltb s 18446744073709551616 (omega arith)) refl
fitting-checked (Some x) s h = rw (lt-ltb s 18446744073709551616 h.0) (ap Some h.1)

pub fitting-large : (s : ℕ) → 18446744073709551616 ≤ s → None ≡ fitting s
unfolding fitting
fitting-large s h = rw (le-ltb s 18446744073709551616 h)

module _ (base v c d : ℕ) (e : d ≡ digit_of c) where
  pub appended-other : base ≤ d → None ≡ appended base (Some v) c
  unfolding appended
  appended-other h = rw (sym e, le-ltb d base h)

  pub appended-digit : d < base → fitting (v * base + d) ≡ appended base (Some v) c
  unfolding appended
  appended-digit h = rw (sym e, lt-ltb d base h)

pub digits-empty : (base : ℕ) (text : List ℕ) → Some 0 ≡ digits_to base text 0
unfolding digits_to
digits-empty base text = refl

-- One digit more.
pub digits-next : (base : ℕ) (text : List ℕ) (v w n : ℕ) → Some v ≡ digits_to base text n → Some w ≡ appended base (Some v) (get_or text n 0) →
    Some w ≡ digits_to base text (n + 1)
unfolding digits_to
digits-next base text v w n e h = rw (add-one, sym e) h

-- Where the digits so far say none, more of them do not either.
digits-bad : (base : ℕ) (text : List ℕ) (n k : ℕ) → None ≡ digits_to base text n → None ≡ digits_to base text (n + k)
unfolding digits_to appended
digits-bad base text n zero e = simp unary_clauses e
digits-bad base text n (suc k) e = simp unary_clauses (rw (sym (digits-bad base text n k e)))

pub digits-none : (base : ℕ) (text : List ℕ) (v n m : ℕ) → Some v ≡ digits_to base text n → None ≡ appended base (Some v) (get_or text n 0) → n < m →
    None ≡ digits_to base text m
unfolding digits_to
digits-none base text v n m e h s =
    let split : m ≡ suc n + (m - suc n) = omega arith in
    rw split (digits-bad base text (suc n) (m - suc n) (rw (sym e) h))

pub is-hex-other : (text : List ℕ) → 3 ≤ length text → (get_or text 0 0 ≡ 48 → ⊥) → false ≡ is_hex text
unfolding is_hex
is-hex-other text l h = rw (le-ltb (length text) 3 l, ne_eqb (get_or text 0 0) 48 h)

pub is-hex-second : (text : List ℕ) → 3 ≤ length text → get_or text 0 0 ≡ 48 → eqb (get_or text 1 0) 120 ≡ is_hex text
unfolding is_hex
is-hex-second text l h = rw (le-ltb (length text) 3 l, eq-eqb (get_or text 0 0) 48 h)

pub is-hex-long : (text : List ℕ) → true ≡ is_hex text → 3 ≤ length text
unfolding is_hex
is-hex-long text e = go (ltb (length text) 3) refl e
  where
    go : (b : Bool) → ltb (length text) 3 ≡ b → true ≡ cond b false (cond (eqb (get_or text 0 0) 48) (eqb (get_or text 1 0) 120) false) → 3 ≤ length text
    go true h x = let z : ◌≡◌ {A = Bool} true false = x in let y : ◌≡◌ {A = ℕ} 0 1 = cc in omega arith
    go false h x = ltb-false (length text) 3 h

pub number-empty : (text : List ℕ) → true ≡ eqb (length text) 0 → None ≡ number_of text
unfolding number_of
number-empty text h = rw (sym h) refl

module _ (text : List ℕ) (filled : false ≡ eqb (length text) 0) where
  pub number-hex : true ≡ is_hex text → digits_of 16 (take (length text - 2) (drop 2 text)) ≡ number_of text
  unfolding number_of
  number-hex h =
      rw (sym filled, sym h, take_all (length text - 2) (drop 2 text) (simp length-drop (omega arith)))

  pub number-decimal : false ≡ is_hex text → digits_of 10 text ≡ number_of text
  unfolding number_of
  number-decimal h = rw (sym filled, sym h)

pub prefix-dropped : (text : List ℕ) → true ≡ is_hex text → take (length text - 2) (drop 2 text) ≡ without_prefix text
unfolding without_prefix
prefix-dropped text h = rw (sym h, take_all (length text - 2) (drop 2 text) (simp length-drop (omega arith)))

pub prefix-missing : (text : List ℕ) → false ≡ is_hex text → text ≡ without_prefix text
unfolding without_prefix
prefix-missing text h = rw (sym h)

-- The sum where 64 bits hold it, else the first number.
pub plus-checked : (r : Option ℕ) (a b : ℕ) → SomeIff r (a + b < 18446744073709551616) (a + b) → unwrap_or r a ≡ plus_of a b
unfolding plus_of
plus-checked None a b h = rw (le-ltb (a + b) 18446744073709551616 (omega arith)) refl
plus-checked (Some x) a b h = rw (lt-ltb (a + b) 18446744073709551616 h.0) h.1

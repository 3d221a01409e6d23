-- A stored table that passes its test is the table of its field, and so is the lent table that it is copied to.
use mathlib.Core.Path.{◌≡◌, refl, sym, ap, ◌∙◌, subst}
use mathlib.Core.Bool.{Bool}
use mathlib.Core.List.{List}
use Prim.Native.Nat.{ℕ, ◌^◌, ◌≤◌}
use native.Mathlib.Omega.{arith}
use lib.Dec.{T, lit<}
use lib.ListN.{length, set, length-set}
use lib.Seq.{set-get_or}
use lib.Pow.{pow_pos}
use Rattle.field.specs.declared.Field.{Field}
use Rattle.field.specs.declared.Field.TheVariants.{Thirteen, Fourteen}
use Rattle.field.specs.Field.{degree, modulus, longest, pow}
use Rattle.field.proofs.Fast.{fast_x, fast_x-mul_x}
use Rattle.field.proofs.Order.{a^-below, order-positive}
use Rattle.field.proofs.Primitive.{primitive, usable}
use Rattle.stored_tables.specs.Powers.{Powers}
use Rattle.stored_tables.specs.Logs.{Logs}
use Rattle.stored_tables.specs.Copied.{Copied}
use Rattle.stored_tables.proofs.Copy.{copied-same}
use Rattle.stored_tables.proofs.Chain.{chain, chain-powers}
use Rattle.stored_tables.proofs.Steps.{stepped, stepped-zero, stepped-power}

-- ---- powers, for m = 13

pub tested-powers : {l : List ℕ} → T (chain (fast_x 0x1b 0x2000) 1 l) → length l ≡ 8191 → Powers Thirteen l
unfolding degree modulus longest
tested-powers {l} t e = record { at = λ k h. chain-powers (usable Thirteen) (fast_x 0x1b 0x2000) (fast_x-mul_x 13 0x1b (lit< tt)) l t k (omega arith) }

pub copied-powers : {f : Field} {l before after : List ℕ} → Powers f l → longest f ≤ length l → Copied 0 l before after → Powers f after
copied-powers P e C = record { at = λ k h. copied-same C k (omega arith) ∙ P.at k h }

-- ---- logarithms

-- the test of a table of logarithms
unfoldable pub passes : Field → List ℕ → Bool
passes Thirteen l = stepped 4096 8191 4 13 l
passes Fourteen l = stepped 8192 16383 5 21 l

pub tested-logs : (f : Field) {l : List ℕ} → T (passes f l) → length l ≡ 2 ^ degree f → Logs f l
unfolding passes degree modulus longest
tested-logs Thirteen {l} t e = record {
  zero-at = stepped-zero 13 4096 8191 4 13 (primitive Thirteen) refl (lit< tt) (lit< tt) l e t;
  at = stepped-power 13 4096 8191 4 13 (primitive Thirteen) refl (lit< tt) (lit< tt) l e t;
}
tested-logs Fourteen {l} t e = record {
  zero-at = stepped-zero 14 8192 16383 5 21 (primitive Fourteen) refl (lit< tt) (lit< tt) l e t;
  at = stepped-power 14 8192 16383 5 21 (primitive Fourteen) refl (lit< tt) (lit< tt) l e t;
}

pub copied-logs : {f : Field} {l before after : List ℕ} → Logs f l → 2 ^ degree f ≤ length l → Copied 0 l before after → Logs f after
copied-logs {f} L e C = record {
  zero-at = copied-same C 0 (omega (arith, pow_pos (degree f))) ∙ L.zero-at;
  at = λ k h. copied-same C _ (omega (arith, a^-below (primitive f) k)) ∙ L.at k h;
}

-- the logarithm of 1, stored once more
pub placed-logs : {f : Field} {l after : List ℕ} → Logs f l → after ≡ set l 1 0 → Logs f after
unfolding pow
placed-logs {f} {l} {after} L e = subst (Logs f) (sym (e ∙ ap (set l 1) (sym (L.at 0 (order-positive (primitive f)))) ∙ set-get_or l 1 0)) L

pub placed-size : {at : ℕ} {part before between after : List ℕ} → Copied at part before between → after ≡ set between 1 0 → length after ≡ length before
placed-size {at} {part} {before} {between} C e = ap length e ∙ length-set between 1 0 ∙ C.size

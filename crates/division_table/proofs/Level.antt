-- Laws of the table of a level.
use mathlib.Core.Path.{◌≡◌, sym, ap, ap₂, ◌∙◌}
use mathlib.Core.Bool.{Bool, true, false, cond}
use mathlib.Core.List.{List}
use Prim.Native.Nat.{ℕ, ◌+◌, ◌-◌, ◌*◌, ◌/◌, ◌%◌, ◌^◌, ◌<◌, ◌≤◌}
use native.Mathlib.Omega.{arith}
use native.Mathlib.Decide.{dec_lt}
use native.Mathlib.Nat.{one-mul}
use borrow.Author.Tests.{le-leb, lt-leb}
use lib.Dec.{leb}
use lib.ListN.{length}
use lib.Pow.{shl-shr, shr-shr, split, mod-mod-pow}
use Rattle.field.specs.declared.Field.{Field}
use Rattle.field.specs.Field.{degree}
use Rattle.code.specs.Generator.{generator}
use Rattle.code.specs.Register.{low, register}
use Rattle.code.proofs.Generator.{generator-monic}
use Rattle.remainder.proofs.Fold.{parity-bits-below}
use Rattle.remainder.proofs.Words.{Words, register-mod}
use Rattle.division_table.specs.Table.{width, RowWords, four, ten, fourteen, gap, divisor_of, Filled, Rests, Table}
use Rattle.division_table.proofs.Filling.{wide-two, wide-some, wide-most, multiple-one}

-- the words of a row

pub width-wide : (d : ℕ) → RowWords (width d)
unfolding width
width-wide d = all (leb d 256) (leb d 640)
  where
    all : (a b : Bool) → RowWords (cond a 4 (cond b 10 14))
    all true b = four
    all false true = ten
    all false false = fourteen

pub width_room : (d : ℕ) → d ≤ 896 → d ≤ 64 * width d
unfolding width
width_room d h = elim (dec_lt 256 d) [
  | yes l ↦ elim (dec_lt 640 d) [
    | yes m ↦ rw (lt-leb d 256 l, lt-leb d 640 m) (omega arith)
    | no m ↦ rw (lt-leb d 256 l, le-leb d 640 (omega arith)) (omega arith)
  ]
  | no l ↦ rw (le-leb d 256 (omega arith)) (omega arith)
]

-- u words for the degree d of the level t
module _ (f : Field) (t : ℕ) (most : t ≤ 62) {d u : ℕ} (ed : d ≡ degree f * t) (eu : u ≡ width d) where
  pub level-wide : RowWords u
  level-wide = rw eu (width-wide d)

  pub level-words : (0 < u) × (u ≤ 14)
  level-words = (wide-some level-wide, wide-most level-wide)

  pub level-room : d ≤ 64 * u
  level-room =
      let m = parity-bits-below f t most in
      rw eu (width_room d (omega arith))

-- the generator moved up to fill them; its highest coefficient is left out, for which a register need not have room
pub divisor-made : (f : Field) (t : ℕ) → t ≤ 62 → {d u : ℕ} → d ≡ degree f * t → u ≡ width d → (words : List ℕ) → Words words → length words ≡ 14
    → {g : ℕ} → g ≡ generator f t → register words ≡ g * 2 ^ (64 * u - d) % 2 ^ 896
    → 2 ^ (64 * width (degree f * t)) + low words (width (degree f * t)) ≡ generator f t * 2 ^ gap (degree f * t)
unfolding gap
divisor-made f t most {d} {u} ed eu words fit len {g} eg ex =
    let r = level-room f t most ed eu in
    let w = level-words f t most ed eu in
    let k : ℕ = 64 * u - d in
    let P : ℕ = 2 ^ (64 * u) in
    let m : g / 2 ^ d ≡ 1 = rw (eg, ed) (generator-monic f t most) in
    let e : 64 * u ≡ k + d = omega arith in
    let monic : g * 2 ^ k / P ≡ 1 = ap (λ z. g * 2 ^ k / 2 ^ z) e ∙ sym (shr-shr (g * 2 ^ k) k d) ∙ ap (λ y. y / 2 ^ d) (shl-shr g k) ∙ m in
    let n : 896 ≡ 896 - 64 * u + 64 * u = omega arith in
    let rest-is : low words u ≡ g * 2 ^ k % P =
    sym (register-mod words fit u (omega arith)) ∙ ap (λ z. z % P) (ex ∙ ap (λ n. g * 2 ^ k % 2 ^ n) n) ∙ mod-mod-pow (g * 2 ^ k) (896 - 64 * u) (64 * u) in
    let all : P + low words u ≡ generator f t * 2 ^ k =
    ap₂ ◌+◌ (sym (one-mul P) ∙ ap (λ z. z * P) (sym monic)) rest-is ∙ split (g * 2 ^ k) (64 * u) ∙ ap (λ z. z * 2 ^ k) eg in
    rw (eu, ed) at all

-- the table that is made: the divisor is in row 257
pub table-made : (f : Field) (t : ℕ) → t ≤ 62 → {u : ℕ} → u ≡ width (degree f * t) → (divisor : List ℕ) → Words divisor
    → 2 ^ (64 * width (degree f * t)) + low divisor (width (degree f * t)) ≡ generator f t * 2 ^ gap (degree f * t)
    → {bytes : List ℕ} → Filled u (2 ^ (64 * u) + low divisor u) bytes → Table f t bytes
unfolding divisor_of
table-made f t most {u} eu divisor fit eg {bytes} filled =
    let s = wide-two filled.wide in
    let g : ℕ = 2 ^ (64 * u) + low divisor u in
    let e : divisor_of u bytes ≡ g =
    (filled.clearing.even 1 (omega arith)).number ∙ multiple-one (64 * u) g (omega arith) filled.monic in
    let rests : Rests u bytes = rw e filled in
    let gen : divisor_of u bytes ≡ generator f t * 2 ^ gap (degree f * t) = e ∙ rw eu eg in
    record { level = most; rests = λ z. rw eu at rests; generates = λ z. rw eu at gen }

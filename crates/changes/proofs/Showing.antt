-- What a line shows.
--
-- difference-exact      first plus the change is second
-- difference-same, difference-up, difference-down    the change at zero and at both ends
-- as-signed, difference-is, bytes_fit                the difference of two bytes is one of 16 bits with a sign
-- flips-ruined, flips-written, flips-erased          what is shown by a count, in its three cases
-- flips-shown           what is shown by the count of a block is what its outcome says
-- line-shown            the line by the counts of two pages is the line of the block
use Rattle.std.specs.Prelude.{Some, None}
use mathlib.Core.Path.{◌≡◌, refl, sym, ap, ◌∙◌}
use mathlib.Core.Bool.{Bool, true, false, cond}
use mathlib.Core.List.{List}
use Prim.Native.Nat.{ℕ, zero, suc, ◌+◌, ◌-◌, ◌<◌, ◌≤◌}
use native.Mathlib.Omega.{arith}
use native.Mathlib.Nat.{zero-add}
use lib.IntN.{pos, negsuc, ◌+ℤ◌, ◌-ℤ◌, +ℤ_comm, +ℤ_invr, -ℤ-+ℤ_cancel}
use lib.ListN.{get_or}
use lib.Dec.{ltb}
use mir.Syntax.{w8, w16}
use mir.Val.{Fits, SFits, to_z}
use mir.ValLaws.{to_z_pos}
use borrow.Author.Tests.{eq-eqb, ne_eqb, lt-ltb, le-ltb}
use Rattle.bits.proofs.Runs.{run_at}
use Rattle.layout_plan.specs.declared.Plan.{Plan}
use Rattle.layout_plan.specs.Plan.{bits, Valid}
use Rattle.code.specs.Outcome.{Outcome, good, erased, ruined, erased_count}
use Rattle.code.proofs.Outcome.{repaired-judge, erased-judge}
use Rattle.page_theory.specs.Reading.{outcome, count_of, counts}
use Rattle.changes.specs.Lines.{shown, difference, line, flips_of, line_of}

pub difference-exact : (first second : ℕ) → pos first +ℤ difference first second ≡ pos second
unfolding difference
difference-exact first second = +ℤ_comm (pos first) (pos second -ℤ pos first) ∙ -ℤ-+ℤ_cancel (pos second) (pos first)

pub difference-same : (n : ℕ) → difference n n ≡ pos 0
unfolding difference
difference-same n = +ℤ_invr (pos n)

pub difference-up : difference 0 62 ≡ pos 62
unfolding difference
difference-up = refl

pub difference-down : difference 62 0 ≡ negsuc 61
unfolding difference
difference-down = refl

-- a byte as a signed number of 16 bits, and the difference of two
pub as-signed : (n : ℕ) → n < 256 → to_z w16 n ≡ pos n
as-signed n l = to_z_pos w16 n (omega arith)

pub difference-is : (first second : ℕ) → difference first second ≡ pos second -ℤ pos first
unfolding difference
difference-is first second = refl

difference-fits : (first second : ℕ) → first < 256 → second < 256 → SFits w16 (pos second -ℤ pos first)
difference-fits zero second l m = record { sfits = omega arith }
difference-fits (suc first) second l m = go (ltb second (suc first))
  where
    go : (x : Bool) → SFits w16 (cond x (negsuc (suc first - suc second)) (pos (second - suc first)))
    go true = record { sfits = omega arith }
    go false = record { sfits = omega arith }

pub bytes_fit : {first second : ℕ} → Fits w8 first → Fits w8 second → SFits w16 (to_z w16 second -ℤ to_z w16 first)
bytes_fit {first} {second} a b = rw (as-signed first a.fits, as-signed second b.fits) (difference-fits first second a.fits b.fits)

pub flips-ruined : (n : ℕ) → n ≡ 255 → None ≡ flips_of n
unfolding flips_of
flips-ruined n e = rw (eq-eqb n 255 e)

pub flips-written : (n : ℕ) → n < 128 → Some n ≡ flips_of n
unfolding flips_of
flips-written n l = rw (ne_eqb n 255 (omega arith), lt-ltb n 128 l)

pub flips-erased : (n : ℕ) → (n ≡ 255 → ⊥) → 128 ≤ n → Some (n - 128) ≡ flips_of n
unfolding flips_of
flips-erased n e l = rw (ne_eqb n 255 e, le-ltb n 128 l)

module _ (q : Plan) (valid : Valid q) (page : List ℕ) (b : ℕ) (inside : b < q.blocks) where
  pub flips-shown : flips_of (count_of (outcome q page b)) ≡ shown (outcome q page b)
  unfolding outcome count_of shown erased_count
  flips-shown = go (outcome q page b) refl
    where
      go : (o : Outcome) → outcome q page b ≡ o → flips_of (count_of o) ≡ shown o
      go (good m n) e =
          let r = repaired-judge _ _ (bits q b) _ m n e in
          let near : n ≤ 62 = rw r.count (omega (arith, r.near.close, valid.strong b inside)) in
          sym (flips-written n (omega arith))
      go (erased m z) e =
          let r = erased-judge _ _ (bits q b) _ m z e in
          let few : z ≤ 62 = omega (arith, r.few, r.count, valid.strong b inside) in
          let back : 128 + z - 128 ≡ z = omega arith in
          sym (flips-erased (128 + z) (λ s. omega arith) (omega arith)) ∙ ap Some back
      go ruined e = sym (flips-ruined 255 refl)

  pub count-shown : flips_of (get_or (counts q page) b 0) ≡ shown (outcome q page b)
  unfolding counts
  count-shown = ap flips_of (run_at (λ c. count_of (outcome q page c)) 0 q.blocks b 0 inside ∙ rw (zero-add b)) ∙ flips-shown

pub line-shown : (q : Plan) → Valid q → (first second : List ℕ) (b : ℕ) → b < q.blocks
    → line_of (get_or (counts q first) b 0) (get_or (counts q second) b 0) ≡ line q first second b
unfolding line_of line
line-shown q v first second b l = rw (count-shown q v first b l, count-shown q v second b l)

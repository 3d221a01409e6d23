-- A word put into the stream in one part or in two.
use mathlib.Core.Path.{◌≡◌, sym, ap, ◌∙◌}
use mathlib.Core.Bool.{Bool, true}
use mathlib.Core.List.{List}
use Prim.Native.Nat.{ℕ, ◌+◌, ◌-◌, ◌*◌, ◌≤◌}
use native.Mathlib.Omega.{arith}
use native.Mathlib.Nat.{zero-add}
use lib.ListN.{length}
use Rattle.bits.specs.Bits.{bit_of, run, ones, digits, placed}
use Rattle.bits.proofs.Numbers.{digits-length, ones-length, ones-run}
use Rattle.bits.proofs.Runs.{run_length}
use Rattle.bits.proofs.Placed.{placed-run}
use Rattle.mark.specs.declared.Mark.{Mark}
use Rattle.mark.specs.Mark.{place, near, put}
use Rattle.mark.proofs.Runs.{near-place}
use Rattle.mark.proofs.Putting.{put_first, put-run-split}

module _ (k : Mark) (page : List ℕ) (s n : ℕ) {a : ℕ} (ea : a ≡ near k s n) where
  put-before : (w : List Bool) {x : List ℕ} → length w ≡ n → a ≡ n → x ≡ placed page s w → x ≡ put k page s w
  put-before w l e ex = ex ∙ put_first k page s w (ap (near k s) l ∙ sym ea ∙ e ∙ sym l)

  pub put-before-run : (f : ℕ → Bool) (r : ℕ) {x : List ℕ} → a ≡ n → x ≡ placed page s (run f r n) → x ≡ put k page s (run f r n)
  put-before-run f r e ex = put-before (run f r n) (run_length f r n) e ex

  pub put-before-ones : {x : List ℕ} → a ≡ n → x ≡ placed page s (ones n) → x ≡ put k page s (ones n)
  put-before-ones e ex = put-before (ones n) (ones-length n) e ex

  pub put-before-digits : (v : ℕ) {x : List ℕ} → a ≡ n → x ≡ placed page s (digits v n) → x ≡ put k page s (digits v n)
  put-before-digits v e ex = put-before (digits v n) (digits-length v n) e ex

  module _ (ne : a ≡ n → ⊥) {q : ℕ} (eq : q ≡ place k (s + a)) where
    pub put-parts-run : (f : ℕ → Bool) (r : ℕ) {x y : List ℕ} → x ≡ placed page s (run f r a) → y ≡ placed x q (run f (r + a) (n - a))
        → y ≡ put k page s (run f r n)
    put-parts-run f r {x} ex ey =
        put-run-split k page s f r n ea ex (ey ∙ ap (λ p. placed x p (run f (r + a) (n - a))) (near-place k s n ea ne eq))

    pub put-parts-start : (f : ℕ → Bool) {x y : List ℕ} → x ≡ placed page s (run f 0 a) → y ≡ placed x q (run f a (n - a)) → y ≡ put k page s (run f 0 n)
    put-parts-start f {x} ex ey = put-parts-run f 0 ex (ey ∙ ap (λ r. placed x q (run f r (n - a))) (sym (zero-add a)))

    pub put-parts-ones : {x y : List ℕ} → x ≡ placed page s (ones a) → y ≡ placed x q (ones (n - a)) → y ≡ put k page s (ones n)
    put-parts-ones {x} ex ey =
        put-parts-start (λ p. true) (ex ∙ ap (placed page s) (sym (ones-run 0 a))) (ey ∙ ap (placed x q) (sym (ones-run a (n - a))))
        ∙ ap (put k page s) (ones-run 0 n)

-- digits that were put into a word first
pub put-word-digits : (k : Mark) (page : List ℕ) (s n v : ℕ) (zeros : List ℕ) {word x : List ℕ} → n ≤ 8 * length zeros → word ≡ placed zeros 0 (digits v n)
    → x ≡ put k page s (run (bit_of word) 0 n) → x ≡ put k page s (digits v n)
put-word-digits k page s n v zeros h ew ex =
    let w : List Bool = digits v n in
    let l = digits-length v n in
    ex ∙ ap (λ c. put k page s (run (bit_of c) 0 n)) ew ∙ ap (λ m. put k page s (run (bit_of (placed zeros 0 w)) 0 m)) (sym l)
    ∙ ap (put k page s) (placed-run zeros 0 w (omega arith))

-- Laws of one block as it is written: message, parity and pads put one after the other.
use mathlib.Core.Path.{◌≡◌, refl, sym, ap, ◌∙◌}
use mathlib.Core.Bool.{true}
use mathlib.Core.List.{List, ◌++◌, append-nil}
use Prim.Native.Nat.{ℕ, ◌+◌}
use native.Mathlib.Nat.{mul-zero}
use lib.ListN.{length, replicate, length-append}
use Rattle.bits.specs.Bits.{run, ones, digits, Bytes}
use Rattle.mark.specs.declared.Mark.{Mark}
use Rattle.mark.specs.Mark.{stream_bit, put, InStream}
use Rattle.mark.proofs.Putting.{put-run, put-empty, put-append}
use Rattle.field.specs.declared.Field.{Field}
use Rattle.field.specs.Field.{degree}
use Rattle.layout_plan.specs.declared.Shape.{Shape}
use Rattle.layout_plan.specs.Plan.{Summed}
use Rattle.code.specs.Word.{Word}
use Rattle.code.specs.Generator.{parity}
use Rattle.code.proofs.Remainder.{parity-length}
use Rattle.block_write.specs.Encoded.{encoded, padded}

-- without ECC there is no parity
pub parity-none : (f : Field) (t : ℕ) (w : Word) (k : Mark) (page : List ℕ) (s : ℕ) → Bytes (length page) page → t ≡ 0 → page ≡ put k page s (parity f t w)
unfolding parity digits
parity-none f t w k page s b e = rw (e, mul-zero (degree f)) (sym (put-empty k page s b))

-- the parity of the message that stands in the stream follows it
pub encoded-put : (s : Shape) (k : Mark) (page : List ℕ) (position : ℕ) (w : Word) → length w ≡ s.message → InStream k page position s.message
    → {one two : List ℕ} → one ≡ put k page position w
    → two ≡ put k one (position + s.message) (parity s.field s.level (run (stream_bit k one) position s.message))
    → two ≡ put k page position (encoded s w)
unfolding encoded
encoded-put s k page position w l h e f =
    let r : run (stream_bit k (put k page position w)) position (length w) ≡ w = put-run k page position w (rw (← l) at h) in
    f ∙ rw (e, ← l, r) (put-append k page position _ w _ refl)

encoded-length : (s : Shape) (w : Word) → Summed s → length w ≡ s.message → length (encoded s w) ≡ s.covered
unfolding encoded
encoded-length s w e l = length-append w _ ∙ rw (l, parity-length) (sym e)

-- the pads follow the covered bits
pub padded-put : (s : Shape) (k : Mark) (page : List ℕ) (position : ℕ) (w : Word) → Summed s → length w ≡ s.message
    → {one two : List ℕ} → one ≡ put k page position (encoded s w) → two ≡ put k one (position + s.covered) (ones s.pads)
    → two ≡ put k page position (padded s w)
unfolding padded
padded-put s k page position w e l f g =
    g ∙ rw f (put-append k page position (position + s.covered) (encoded s w) (ones s.pads) (rw (encoded-length s w e l)))

pub padded-none : (s : Shape) (k : Mark) (page : List ℕ) (position : ℕ) (w : Word) → s.pads ≡ 0
    → {one : List ℕ} → one ≡ put k page position (encoded s w) → one ≡ put k page position (padded s w)
unfolding padded ones replicate
padded-none s k page position w e f = f ∙ ap (put k page position) (sym (ap (λ (n : ℕ). encoded s w ++ replicate n true) e ∙ append-nil (encoded s w)))

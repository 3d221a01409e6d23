-- Parts copied one after the other.
use mathlib.Core.Path.{◌≡◌, sym, ap, ◌∙◌}
use mathlib.Core.List.{List, ◌++◌, append_assoc}
use Prim.Native.Nat.{ℕ, ◌+◌, ◌≤◌, ◌<◌}
use native.Mathlib.Omega.{arith}
use lib.ListN.{length, get_or, take, drop, length-append, length-take, length-drop}
use lib.Seq.{take-append_seam, get_or-take}
use Rattle.stored_tables.specs.Copied.{Copied}

-- the part stands between what the table had before it and what it had after
pub copied-part : {at : ℕ} {part before after : List ℕ} → after ≡ take at before ++ (part ++ drop (length part) (drop at before))
    → at + length part ≤ length before → Copied at part before after
copied-part {at} {part = part} {before = before} e h = rw e (record {
  size = omega (arith, length-append {A = ℕ}, length-take {A = ℕ}, length-drop {A = ℕ});
  front =
      ap (take (at + length part)) (sym (append_assoc (take at before) part rest))
      ∙ ap (λ (n : ℕ). take n ((take at before ++ part) ++ rest)) (omega (arith, length-append {A = ℕ}, length-take {A = ℕ}))
      ∙ take-append_seam (take at before ++ part) rest;
})
  where
    rest : List ℕ
    rest = drop (length part) (drop at before)

pub then : {at next : ℕ} {p q before between after : List ℕ} → Copied at p before between → Copied next q between after → next ≡ at + length p
    → Copied at (p ++ q) before after
then {at} {next} {p} {q} {before} {between} {after} C D e = record {
  size = D.size ∙ C.size;
  front =
      ap (λ (n : ℕ). take n after) place
      ∙ D.front
      ∙ ap (λ (n : ℕ). take n between ++ q) e
      ∙ ap (λ (l : List ℕ). l ++ q) C.front ∙ append_assoc (take at before) p q;
}
  where
    place : at + length (p ++ q) ≡ next + length q
    place = omega (arith, length-append p q)

-- what was copied to the beginning stands there
pub copied-same : {l before after : List ℕ} → Copied 0 l before after → (k : ℕ) → k < length l → get_or after k 0 ≡ get_or l k 0
copied-same {l} {before} {after} C k h = sym (get_or-take (0 + length l) after k 0 (omega arith)) ∙ ap (λ (t : List ℕ). get_or t k 0) C.front

-- What is shown of a number where there is no room for a larger one, and the word of a refusal by its numbers.
use mathlib.Core.Path.{◌≡◌, ◌∙◌}
use Prim.Native.Nat.{ℕ, ◌≤◌}
use native.Mathlib.Omega.{arith}
use native.Mathlib.Decide.{dec_lt}
use borrow.Author.Tests.{lt-ltb, le-ltb}
use Rattle.replies.specs.Replies.{number}
use Rattle.explain.specs.declared.Why.{Why}
use Rattle.explain_words.specs.Words.{shown_to, explanation_word, about_number, why_word}

pub shown-most : (m n : ℕ) → shown_to m n ≤ m
unfolding shown_to
shown-most m n = elim (dec_lt n m) [
  | yes l ↦ rw (lt-ltb n m l) (omega arith)
  | no l ↦ rw (le-ltb n m (omega arith)) (omega arith)
]

-- a number for which there is room shows as it is
pub shown-whole : (m n : ℕ) → n ≤ m → shown_to m n ≡ n
unfolding shown_to
shown-whole m n h = elim (dec_lt n m) [
  | yes l ↦ rw (lt-ltb n m l)
  | no l ↦ rw (le-ltb n m (omega arith)) (omega arith)
]

pub why-told :
    (y : Why) {r a w : ℕ} → r ≡ number y.refusal → a ≡ about_number y.about → w ≡ explanation_word r a y.found y.limit → w ≡ why_word y
unfolding why_word
why-told y h k e = e ∙ rw (h, k)

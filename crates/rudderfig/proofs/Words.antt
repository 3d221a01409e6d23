-- The numbers of an answer word come back out of it, and a refusal has nothing beside reply and block.
use mathlib.Core.Path.{◌≡◌, ◌∙◌}
use Prim.Native.Nat.{ℕ, ◌<◌}
use native.Mathlib.Omega.{arith}
use Rattle.answer_words.specs.Answer.{answer_word, done_word, refused_word, reply_in, block_in, kind_in, value_in, Bare}

module _ {reply block kind : ℕ} (value : ℕ) (r : reply < 0x100) (b : block < 0x10000) (k : kind < 0x100) where
  pub word-reply : reply_in (answer_word reply block kind value) ≡ reply
  unfolding answer_word reply_in
  word-reply = omega arith

  pub word-block : block_in (answer_word reply block kind value) ≡ block
  unfolding answer_word block_in
  word-block = omega arith

  pub word-kind : kind_in (answer_word reply block kind value) ≡ kind
  unfolding answer_word kind_in
  word-kind = omega arith

  pub word_value : value_in (answer_word reply block kind value) ≡ value
  unfolding answer_word value_in
  word_value = omega arith

-- every word is the answer word of its numbers
pub word_back : (w : ℕ) → answer_word (reply_in w) (block_in w) (kind_in w) (value_in w) ≡ w
unfolding answer_word reply_in block_in kind_in value_in
word_back w = omega arith

module _ {kind : ℕ} (value : ℕ) (k : kind < 0x100) where
  pub done-reply : reply_in (done_word kind value) ≡ 0
  unfolding done_word
  done-reply = word-reply value (omega arith) (omega arith) k

  pub done-block : block_in (done_word kind value) ≡ 0
  unfolding done_word
  done-block = word-block value (omega arith) (omega arith) k

  pub done-kind : kind_in (done_word kind value) ≡ kind
  unfolding done_word
  done-kind = word-kind value (omega arith) (omega arith) k

  pub done-value : value_in (done_word kind value) ≡ value
  unfolding done_word
  done-value = word_value value (omega arith) (omega arith) k

  pub done-bare : Bare (done_word kind value)
  done-bare = let z = done-reply in record { kind = λ h. absurd (omega arith); value = λ h. absurd (omega arith) }

module _ {reply block : ℕ} (r : reply < 0x100) (b : block < 0x10000) where
  pub refused-reply : reply_in (refused_word reply block) ≡ reply
  unfolding refused_word
  refused-reply = word-reply 0 r b (omega arith)

  pub refused-block : block_in (refused_word reply block) ≡ block
  unfolding refused_word
  refused-block = word-block 0 r b (omega arith)

  pub refused-bare : Bare (refused_word reply block)
  unfolding refused_word
  refused-bare = record { kind = λ h. word-kind 0 r b (omega arith); value = λ h. word_value 0 r b (omega arith) }

-- a word holds a reply x, its block b and a value v, and nothing else beside a refusal
pub record Holds (x b v w : ℕ) : Type 0 where
  pub reply : reply_in w ≡ x
  pub block : block_in w ≡ b
  pub value : value_in w ≡ v
  pub bare : Bare w

pub word_holds : {x b : ℕ} (v : ℕ) → x < 256 → b < 65536 → (0 < x → v ≡ 0) → Holds x b v (answer_word x b 0 v)
word_holds v x b n =
    let e = word-reply {kind = 0} v x b (omega arith) in
    record {
      reply = e;
      block = word-block v x b (omega arith);
      value = word_value v x b (omega arith);
      bare = record { kind = λ h. word-kind v x b (omega arith); value = λ h. word_value v x b (omega arith) ∙ n (omega arith) };
    }

-- The words of the calls on a layout record have document 01's reply of the answer, block 0, and beside a refusal nothing else;
-- kind and value come back out of them.
use mathlib.Core.Path.{◌≡◌}
use mathlib.Core.List.{List}
use Prim.Native.Nat.{ℕ, ◌+◌, ◌*◌, ◌/◌, ◌%◌, ◌<◌}
use native.Mathlib.Omega.{arith}
use Rattle.layout.specs.declared.Refusal.{Refusal}
use Rattle.std.specs.Prelude.{Result, Ok, Err}
use Rattle.layout_plan.specs.declared.Layout.{Layout}
use Rattle.layout.specs.declared.BitPlace.{BitPlace}
use Rattle.layout.specs.declared.BitPlace.TheVariants as bit
use Rattle.layout.specs.Acceptance.{refusal_reply}
use Rattle.layout.specs.Answers.{Numbers, done, refused, acceptance_numbers, bit_numbers, position_numbers}
use Rattle.layout.proofs.Numbers.{refusal-reply-range}
use Rattle.answer_words.specs.Answer.{done_word, refused_word, reply_in, block_in, kind_in, value_in, Bare}
use Rattle.rudderfig.specs.Bits.{acceptance_word, bit_word, position_word}
use Rattle.rudderfig.proofs.Words.{done-reply, done-block, done-kind, done-value, done-bare, refused-reply, refused-block, refused-bare}

-- a word says the reply and the block of an answer's numbers, and nothing more where they refuse
pub record Says (n : Numbers) (w : ℕ) : Type 0 where
  pub reply : reply_in w ≡ n.reply
  pub block : block_in w ≡ n.block
  pub bare : Bare w

refused_says : (r : Refusal) → Says (refused r) (refused_word (refusal_reply r) 0)
unfolding refused
refused_says r =
    let low : refusal_reply r < 256 = omega (arith, (refusal-reply-range r).1) in
    record { reply = refused-reply low (omega arith); block = refused-block low (omega arith); bare = refused-bare low (omega arith) }

done-says : {kind : ℕ} (values : List ℕ) (value : ℕ) → kind < 0x100 → Says (done values) (done_word kind value)
unfolding done
done-says values value k = record { reply = done-reply value k; block = done-block value k; bare = done-bare value k }

pub acceptance-says : (a : Result Layout Refusal) → Says (acceptance_numbers a) (acceptance_word a)
unfolding acceptance_numbers acceptance_word
acceptance-says (Ok l) = done-says _ _ (omega arith)
acceptance-says (Err r) = refused_says r

pub bit-says : (a : Result BitPlace Refusal) → Says (bit_numbers a) (bit_word a)
unfolding bit_numbers bit_word
bit-says (Ok (bit.InBlock b e)) = done-says _ _ (omega arith)
bit-says (Ok bit.Tail) = done-says _ _ (omega arith)
bit-says (Ok bit.Mark) = done-says _ _ (omega arith)
bit-says (Err r) = refused_says r

pub position-says : (a : Result ℕ Refusal) → Says (position_numbers a) (position_word a)
unfolding position_numbers position_word
position-says (Ok p) = done-says _ _ (omega arith)
position-says (Err r) = refused_says r

-- Kind and value of a covered bit, of a bit of the tail and of the mark, and of a position.

pub bit-kind : (b e : ℕ) → kind_in (bit_word (Ok (bit.InBlock b e))) ≡ 0
unfolding bit_word
bit-kind b e = done-kind _ (omega arith)

pub bit-block : (b e : ℕ) → e < 0x10000 → value_in (bit_word (Ok (bit.InBlock b e))) / 0x10000 ≡ b
unfolding bit_word
bit-block b e h = omega (arith, done-value {kind = 0} (0x10000 * b + e) (omega arith))

pub bit-exponent : (b e : ℕ) → e < 0x10000 → value_in (bit_word (Ok (bit.InBlock b e))) % 0x10000 ≡ e
unfolding bit_word
bit-exponent b e h = omega (arith, done-value {kind = 0} (0x10000 * b + e) (omega arith))

pub tail-kind : kind_in (bit_word (Ok bit.Tail)) ≡ 1
unfolding bit_word
tail-kind = done-kind _ (omega arith)

pub tail-value : value_in (bit_word (Ok bit.Tail)) ≡ 0
unfolding bit_word
tail-value = done-value _ (omega arith)

pub mark-kind : kind_in (bit_word (Ok bit.Mark)) ≡ 2
unfolding bit_word
mark-kind = done-kind _ (omega arith)

pub mark-value : value_in (bit_word (Ok bit.Mark)) ≡ 0
unfolding bit_word
mark-value = done-value _ (omega arith)

pub position-value : (p : ℕ) → value_in (position_word (Ok p)) ≡ p
unfolding position_word
position-value p = done-value _ (omega arith)

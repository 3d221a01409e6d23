-- The numbers of an explanation come back out of its word.
use mathlib.Core.Path.{◌≡◌}
use Prim.Native.Nat.{ℕ, ◌<◌}
use native.Mathlib.Omega.{arith}
use Rattle.replies.specs.declared.Refusal.{Refusal}
use Rattle.replies.specs.declared.Refusal.TheVariants as row
use Rattle.replies.specs.Replies.{number}
use Rattle.explain.specs.declared.About.{About}
use Rattle.explain.specs.declared.About.TheVariants as about
use Rattle.explain.specs.declared.Why.{Why}
use Rattle.explain.specs.declared.Part.{Part}
use Rattle.explain.specs.declared.Part.TheVariants as part
use Rattle.explain.specs.declared.Place.{Place}
use Rattle.explain_words.specs.Words.{shown_to, explanation_word, about_number, part_number, why_word, spot_word, reply_in, about_in, found_in, limit_in, part_in, block_in, bit_in, byte_in, index_in}
use Rattle.explain_words.proofs.Shown.{shown-most}

module _ {r a : ℕ} (n m : ℕ) (x : r < 0x100) (y : a < 0x100) where
  pub word-reply : reply_in (explanation_word r a n m) ≡ r
  unfolding explanation_word reply_in
  word-reply = omega arith

  pub word-about : about_in (explanation_word r a n m) ≡ a
  unfolding explanation_word about_in
  word-about = omega arith

  pub word-found : found_in (explanation_word r a n m) ≡ shown_to 0xFFFFFF n
  unfolding explanation_word found_in
  word-found = omega (arith, shown-most 0xFFFFFF n)

  pub word-limit : limit_in (explanation_word r a n m) ≡ shown_to 0xFFFFFF m
  unfolding explanation_word limit_in
  word-limit = omega (arith, shown-most 0xFFFFFF n)

-- ---- of a refusal

pub number_small : (r : Refusal) → number r < 0x100
unfolding number
number_small row.LevelTooHigh = omega arith
number_small row.EmptyMessage = omega arith
number_small row.BlockTooLong = omega arith
number_small row.PageTooSmall = omega arith
number_small row.PageLength = omega arith
number_small row.BufferLength = omega arith
number_small row.OutOfRange = omega arith
number_small row.RemainderTooWide = omega arith
number_small (row.Uncorrectable b) = omega arith
number_small row.ClaimWrong = omega arith
number_small row.MarkOutside = omega arith

pub about-small : (a : About) → about_number a < 0x100
unfolding about_number
about-small about.Edition = omega arith
about-small about.Record = omega arith
about-small about.First = omega arith
about-small about.Later = omega arith
about-small about.Page = omega arith
about-small about.Lent = omega arith
about-small about.List = omega arith
about-small about.Block = omega arith
about-small about.Position = omega arith

pub record Told (y : Why) (w : ℕ) : Type 0 where
  pub reply : reply_in w ≡ number y.refusal
  pub about : about_in w ≡ about_number y.about
  pub found : found_in w ≡ shown_to 0xFFFFFF y.found
  pub limit : limit_in w ≡ shown_to 0xFFFFFF y.limit

pub why-apart : (y : Why) → Told y (why_word y)
unfolding why_word
why-apart y =
    let r = number_small y.refusal in
    let a = about-small y.about in
    record {
      reply = word-reply y.found y.limit r a;
      about = word-about y.found y.limit r a;
      found = word-found y.found y.limit r a;
      limit = word-limit y.found y.limit r a;
    }

-- ---- of a place

pub part_small : (k : Part) → part_number k < 0x100
unfolding part_number
part_small part.Metadata = omega arith
part_small part.Data = omega arith
part_small part.Parity = omega arith
part_small part.Tail = omega arith
part_small part.Mark = omega arith

pub record Placed (x : Place) (w : ℕ) : Type 0 where
  pub reply : reply_in w ≡ 0
  pub part : part_in w ≡ part_number x.part
  pub block : block_in w ≡ shown_to 0xFF x.block
  pub bit : bit_in w ≡ shown_to 0xFF x.bit
  pub byte : byte_in w ≡ shown_to 0xFFFF x.byte
  pub index : index_in w ≡ shown_to 0xFFFF x.index

pub place-apart : (x : Place) → Placed x (spot_word x)
unfolding spot_word reply_in part_in block_in bit_in byte_in index_in
place-apart x =
    let k = part_small x.part in
    let b = shown-most 0xFF x.block in
    let i = shown-most 0xFF x.bit in
    let p = shown-most 0xFFFF x.byte in
    record {
      reply = omega arith;
      part = omega arith;
      block = omega arith;
      bit = omega arith;
      byte = omega arith;
      index = omega arith;
    }

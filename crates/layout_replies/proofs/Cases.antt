-- Document 01's cases about layouts, "Both sides of each edge": A to E, I and K, and the edges of document 02, E7 and E13, of the definitions.
-- The cases of before E13 are those at edition 1.
use Rattle.std.specs.Prelude.{⊤, Result, Ok, Err}
use Rattle.layout.specs.declared.Refusal.{Refusal}
use Rattle.layout.specs.declared.Reason.{Reason}
use mathlib.Core.Path.{◌≡◌, refl, sym, ap}
use mathlib.Core.List.{List, [], ◌∷◌, ◌++◌}
use mathlib.Core.Bool.{Bool, true, false, cond}
use Prim.Native.Nat.{ℕ, suc, ◌+◌, ◌-◌, ◌*◌, ◌/◌, ◌%◌, ◌≤◌}
use native.Mathlib.Omega.{arith}
use lib.ListN.{length}
use borrow.Author.Tests.{le-ltb}
use Rattle.field.specs.declared.Field.{Field}
use Rattle.field.specs.declared.Field.TheVariants.{Thirteen, Fourteen}
use Rattle.field.specs.Field.{degree, longest}
use Rattle.replies.specs.Replies.{number}
use Rattle.replies.specs.Edition.{offered, highest}
use Rattle.mark.specs.declared.Mark.{Mark}
use Rattle.mark.specs.Mark.{place, marked, streamed}
use Rattle.layout_plan.specs.declared.BlockFields.{BlockFields}
use Rattle.layout_plan.specs.declared.Fields.{Fields}
use Rattle.layout_plan.specs.declared.Layout.{Layout}
use Rattle.layout_plan.specs.declared.Shape.{Shape}
use Rattle.layout.specs.declared.Rule.TheVariants.{Level, Message, Length, Outside, Room}
use Rattle.layout.specs.declared.Kind.TheVariants.{First, Page}
use Rattle.layout_plan.specs.Record.{Words, words_of, field_of, block_fields, mark_at, mark_in, fields_at, fields_under, layout_of, record_length}
use Rattle.layout_plan.specs.Plan.{shape_with, shape_of, later_shape, data_bytes, plan_for, layout_for, plan_of, shape, bits, level, covered, start, used, room}
use Rattle.layout.specs.Acceptance.{test, level_rule, message_rule, length_rule, mark_rule, room_rule, either, of_blocks, finding_of, judged, acceptance, refusal_of, refusal_reply}
use Rattle.layout.specs.Bits.{within, block_below, block_of, exponent_at, position_at, located, bit_in, bit_for, bit_answer, position_in, position_for, position_answer}
use Rattle.layout_plan.proofs.Plans.{degree-small, product_le, shape-later}
use Rattle.layout.proofs.Records.{no_mark, acceptance-padded}
use Rattle.layout.specs.declared.BitPlace.TheVariants as bit
use Rattle.layout.specs.declared.Refusal.TheVariants as refusal

-- a word, most significant byte first
unfoldable pub word : ℕ → List ℕ
word v = v / 0x1000000 ∷ v / 0x10000 % 256 ∷ v / 256 % 256 ∷ v % 256 ∷ []

-- a record of two words, word 0 first, under edition 1
unfoldable pub words : ℕ → ℕ → Words
words v w = words_of 1 (word v ++ word w)

-- a record of three words
unfoldable pub three_words : ℕ → ℕ → ℕ → Words
three_words v w x = words_of 1 (word v ++ (word w ++ word x))

unfoldable pub layout_a : Layout
layout_a = layout_for (record {
  nblocks = 7;
  metadata = 10;
  first = record { ecc = 8; gf = Thirteen; units = 128 };
  page = 4314;
  later = record { ecc = 8; gf = Thirteen; units = 128 };
  mark = record { offset = 0; length = 0 };
  zeros = 0;
  edition = 1;
})

-- A: the reset state in document 000
pub record CaseA : Type 0 where
  pub accepted : acceptance (words 0x070A4080 0x10DA4080) ≡ Ok layout_a
  pub level-first : level (plan_of layout_a) 0 ≡ 16
  pub level-later : (b : ℕ) → level (plan_of layout_a) (suc b) ≡ 16
  pub data-bytes : (b : ℕ) → bits (plan_of layout_a) (suc b) ≡ 8 * 512
  pub length-first : covered (plan_of layout_a) 0 ≡ 4384
  pub length-later : (b : ℕ) → covered (plan_of layout_a) (suc b) ≡ 4304
  pub start-last : start (plan_of layout_a) 7 ≡ 30208
  pub ends : used (plan_of layout_a) ≡ 34512
  pub no-tail : 8 * (plan_of layout_a).size ≡ 34512

-- B: as A with PAGE_SIZE 4,313
pub CaseB : Type 0
CaseB =
    acceptance (words 0x070A4080 0x10D94080)
    ≡ Err (refusal.Rule (record { rule = Room; kind = Page; found = 34512; limit = 34504 }))

-- one block, PAGE_SIZE 2,048, under an edition; the fields of later blocks are anything
unfoldable pub one_block : ℕ → ℕ → ℕ → Field → ℕ → BlockFields → Fields
one_block edition metadata ecc gf units later = record {
  nblocks = 0;
  metadata = metadata;
  first = record { ecc = ecc; gf = gf; units = units };
  page = 2048;
  later = later;
  mark = record { offset = 0; length = 0 };
  zeros = 0;
  edition = edition;
}

-- what the rules find of these fields
unfoldable pub finding : Fields → Result ⊤ Reason
finding f = finding_of f (plan_for f)

-- C: m = 13, t = 40, 239 units of data
pub record CaseC (later : BlockFields) : Type 0 where
  pub longest : covered (plan_for (one_block 1 2 20 Thirteen 239 later)) 0 ≡ 8184
  pub accepted : finding (one_block 1 2 20 Thirteen 239 later) ≡ Ok _
  pub refused : finding (one_block 1 3 20 Thirteen 239 later) ≡ Err (record { rule = Length; kind = First; found = 8192; limit = 8191 })

-- D: m = 14, t = 40, 494 units of data
pub record CaseD (later : BlockFields) : Type 0 where
  pub longest : covered (plan_for (one_block 1 1 20 Fourteen 494 later)) 0 ≡ 16376
  pub accepted : finding (one_block 1 1 20 Fourteen 494 later) ≡ Ok _
  pub refused : finding (one_block 1 2 20 Fourteen 494 later) ≡ Err (record { rule = Length; kind = First; found = 16384; limit = 16383 })

-- two blocks of 58 bits, so many bytes of page, a mark
unfoldable pub two_blocks : ℕ → Mark → Layout
two_blocks page mark = layout_for (record {
  nblocks = 1;
  metadata = 0;
  first = record { ecc = 1; gf = Thirteen; units = 1 };
  page = page;
  later = record { ecc = 1; gf = Thirteen; units = 1 };
  mark = mark;
  zeros = 0;
  edition = 1;
})

unfoldable pub layout_e : Layout
layout_e = two_blocks 15 (record { offset = 0; length = 0 })

-- E: two blocks of 58 bits, t = 2; block 1 starts in byte 7 at bit 5; four tail bits
pub record CaseE : Type 0 where
  pub accepted : acceptance (words 0x01000801 0x000F0801) ≡ Ok layout_e
  pub blocks : (plan_of layout_e).blocks ≡ 2
  pub length-first : covered (plan_of layout_e) 0 ≡ 58
  pub length-later : covered (plan_of layout_e) 1 ≡ 58
  pub level-first : level (plan_of layout_e) 0 ≡ 2
  pub level-later : level (plan_of layout_e) 1 ≡ 2
  pub start-byte : start (plan_of layout_e) 1 / 8 ≡ 7
  pub start-bit : 7 - start (plan_of layout_e) 1 % 8 ≡ 5
  pub tail : 8 * (plan_of layout_e).size - used (plan_of layout_e) ≡ 4
  pub first_bit : bit_answer (words 0x01000801 0x000F0801) 0 ≡ Ok (bit.InBlock 0 57)
  pub before-start : bit_answer (words 0x01000801 0x000F0801) 57 ≡ Ok (bit.InBlock 0 0)
  pub at-start : bit_answer (words 0x01000801 0x000F0801) 58 ≡ Ok (bit.InBlock 1 57)
  pub last_bit : bit_answer (words 0x01000801 0x000F0801) 115 ≡ Ok (bit.InBlock 1 0)
  pub first_tail : bit_answer (words 0x01000801 0x000F0801) 116 ≡ Ok bit.Tail
  pub last-tail : bit_answer (words 0x01000801 0x000F0801) 119 ≡ Ok bit.Tail
  pub past-page : bit_answer (words 0x01000801 0x000F0801) 120 ≡ Err refusal.Range
  pub flipped : position_answer (words 0x01000801 0x000F0801) 0 57 ≡ Ok 0

-- I: level field 0x15 with an empty block
pub CaseI : Type 0
CaseI = (gf : Field) (later : BlockFields) →
    finding (one_block 1 0 21 gf 0 later) ≡ Err (record { rule = Level; kind = First; found = 21; limit = 20 })

-- K: metadata 0 or 1, DATA0_SIZE 0, any level field that is allowed
pub record CaseK (ecc : ℕ) (gf : Field) (later : BlockFields) : Type 0 where
  pub refused : finding (one_block 1 0 ecc gf 0 later) ≡ Err (record { rule = Message; kind = First; found = 0; limit = 1 })
  pub accepted : finding (one_block 1 1 ecc gf 0 later) ≡ Ok _
  pub message : bits (plan_for (one_block 1 1 ecc gf 0 later)) 0 ≡ 8

-- a layout refused with 11, and with 4
unfoldable pub mark_refused : ℕ → ℕ → Result Layout Refusal
mark_refused found limit = Err (refusal.Rule (record { rule = Outside; kind = Page; found = found; limit = limit }))

unfoldable pub room_refused : ℕ → ℕ → Result Layout Refusal
room_refused found limit = Err (refusal.Rule (record { rule = Room; kind = Page; found = found; limit = limit }))

-- E7: as E with a third word; in a page of 16 bytes a mark of one byte, the one in which block 1 would start
pub record CaseMark : Type 0 where
  pub none : (edition : ℕ) (rec : List ℕ) → length rec ≡ 8 → acceptance (words_of edition (rec ++ no_mark)) ≡ acceptance (words_of edition rec)
  pub other_length : acceptance (words_of 1 (word 0x01000801 ++ (word 0x000F0801 ++ (0 ∷ [])))) ≡ Err refusal.RecordLength
  pub at-end : acceptance (three_words 0x01000801 0x000F0801 0x000F0000) ≡ Ok (two_blocks 15 (record { offset = 15; length = 0 }))
  pub past_end : acceptance (three_words 0x01000801 0x000F0801 0x00100000) ≡ mark_refused 16 15
  pub sum_past : acceptance (three_words 0x01000801 0x000F0801 0x000E0200) ≡ mark_refused 16 15
  pub zeros : acceptance (three_words 0x01000801 0x000F0801 0x000F0001) ≡ mark_refused 1 0
  pub sum_first : acceptance (three_words 0x01000801 0x000F0801 0x00100001) ≡ mark_refused 16 15
  pub less-room : acceptance (three_words 0x01000801 0x000F0801 0x00000100) ≡ room_refused 116 112
  pub before-room : acceptance (three_words 0x01000801 0x000E0801 0x000E0100) ≡ mark_refused 15 14
  pub room-alone : acceptance (three_words 0x01000801 0x000E0801 0x000E0000) ≡ room_refused 116 112
  pub after-length : acceptance (three_words 0x0003A0EF 0x08000000 0x08000101)
      ≡ Err (refusal.Rule (record { rule = Length; kind = First; found = 8192; limit = 8191 }))
  pub accepted : acceptance (three_words 0x01000801 0x00100801 0x00070100) ≡ Ok (two_blocks 16 (record { offset = 7; length = 1 }))
  pub before-mark : bit_answer (three_words 0x01000801 0x00100801 0x00070100) 55 ≡ Ok (bit.InBlock 0 2)
  pub first-marked : bit_answer (three_words 0x01000801 0x00100801 0x00070100) 56 ≡ Ok bit.Mark
  pub last-marked : bit_answer (three_words 0x01000801 0x00100801 0x00070100) 63 ≡ Ok bit.Mark
  pub after-mark : bit_answer (three_words 0x01000801 0x00100801 0x00070100) 64 ≡ Ok (bit.InBlock 0 1)
  pub at-start : bit_answer (three_words 0x01000801 0x00100801 0x00070100) 66 ≡ Ok (bit.InBlock 1 57)
  pub first_tail : bit_answer (three_words 0x01000801 0x00100801 0x00070100) 124 ≡ Ok bit.Tail
  pub start-position : position_answer (three_words 0x01000801 0x00100801 0x00070100) 1 57 ≡ Ok 66

-- E13: m = 13, t = 62, 923 and 924 message bytes; level field 0x15 in both editions; another edition, whatever the record and its length
pub record CaseEdition (later : BlockFields) : Type 0 where
  pub longest : covered (plan_for (one_block 2 3 31 Thirteen 230 later)) 0 ≡ 8190
  pub accepted : finding (one_block 2 3 31 Thirteen 230 later) ≡ Ok _
  pub refused : finding (one_block 2 4 31 Thirteen 230 later) ≡ Err (record { rule = Length; kind = First; found = 8198; limit = 8191 })
  pub first-edition : finding (one_block 1 1 21 Thirteen 0 later) ≡ Err (record { rule = Level; kind = First; found = 21; limit = 20 })
  pub second-edition : finding (one_block 2 1 21 Thirteen 0 later) ≡ Ok _
  pub third-edition : (rec : List ℕ) → acceptance (words_of 3 rec) ≡ Err refusal.Edition
  pub no-edition : (rec : List ℕ) → acceptance (words_of 0 rec) ≡ Err refusal.Edition
  pub edition-reply : refusal_reply refusal.Edition ≡ 7

-- the table
pub record LayoutCases : Type 0 where
  pub a : CaseA
  pub b : CaseB
  pub c : (later : BlockFields) → CaseC later
  pub d : (later : BlockFields) → CaseD later
  pub e : CaseE
  pub i : CaseI
  pub k : (ecc : ℕ) (gf : Field) (later : BlockFields) → ecc ≤ 20 → CaseK ecc gf later
  pub mark : CaseMark
  pub edition : (later : BlockFields) → CaseEdition later

cond_same : (t : Bool) → cond t false false ≡ false
cond_same true = refl
cond_same false = refl

module _ (ecc : ℕ) (gf : Field) (later : BlockFields) (allowed : ecc ≤ 20) where
  parity-small : degree gf * (2 * ecc) ≤ 560
  parity-small = let p = product_le 14 40 {a = degree gf} {b = 2 * ecc} (degree-small gf) (omega arith) in omega arith

  longest-large : 568 ≤ longest gf
  unfolding longest
  longest-large = go gf
    where
      go : (f : Field) → 568 ≤ longest f
      go Thirteen = omega arith
      go Fourteen = omega arith

  case-k : CaseK ecc gf later
  unfolding one_block finding shape_with shape_of later_shape plan_for room shape highest test level_rule message_rule length_rule mark_rule room_rule either of_blocks finding_of
  case-k =
      let low = le-ltb 20 ecc allowed in
      let short = le-ltb (longest gf) (8 + degree gf * (2 * ecc)) (omega (arith, parity-small, longest-large)) in
      let fits = le-ltb 16384 (8 + degree gf * (2 * ecc) + 0 * (0 + degree Thirteen * 0)) (omega (arith, parity-small)) in
      record { refused = simp low; accepted = simp (low, short, cond_same, fits); message = refl }

pub layout-cases : LayoutCases
unfolding CaseB CaseI word words three_words layout_a two_blocks layout_e mark_refused room_refused one_block finding field_of block_fields mark_at mark_in fields_at fields_under layout_of
    shape_with shape_of later_shape data_bytes plan_for layout_for plan_of shape start room degree longest
    offered highest test level_rule message_rule length_rule mark_rule room_rule either of_blocks finding_of judged record_length acceptance refusal_of refusal_reply number
    within block_below block_of exponent_at position_at located bit_in bit_for bit_answer position_in position_for position_answer place marked streamed
layout-cases = record {
  a = record {
    accepted = refl;
    level-first = refl;
    level-later = λ b. ap (λ (s : Shape). s.level) (sym (shape-later (plan_of layout_a) (suc b) (omega arith)));
    data-bytes = λ b. ap (λ (s : Shape). s.message) (sym (shape-later (plan_of layout_a) (suc b) (omega arith)));
    length-first = refl;
    length-later = λ b. ap (λ (s : Shape). s.covered) (sym (shape-later (plan_of layout_a) (suc b) (omega arith)));
    start-last = refl;
    ends = refl;
    no-tail = refl;
  };
  b = refl;
  c = λ later. record { longest = refl; accepted = refl; refused = refl };
  d = λ later. record { longest = refl; accepted = refl; refused = refl };
  e = record {
    accepted = refl;
    blocks = refl;
    length-first = refl;
    length-later = refl;
    level-first = refl;
    level-later = refl;
    start-byte = refl;
    start-bit = refl;
    tail = refl;
    first_bit = refl;
    before-start = refl;
    at-start = refl;
    last_bit = refl;
    first_tail = refl;
    last-tail = refl;
    past-page = refl;
    flipped = refl;
  };
  i = λ gf later. refl;
  k = case-k;
  mark = record {
    none = acceptance-padded;
    other_length = refl;
    at-end = refl;
    past_end = refl;
    sum_past = refl;
    zeros = refl;
    sum_first = refl;
    less-room = refl;
    before-room = refl;
    room-alone = refl;
    after-length = refl;
    accepted = refl;
    before-mark = refl;
    first-marked = refl;
    last-marked = refl;
    after-mark = refl;
    at-start = refl;
    first_tail = refl;
    start-position = refl;
  };
  edition = λ later. record {
    longest = refl;
    accepted = refl;
    refused = refl;
    first-edition = refl;
    second-edition = refl;
    third-edition = λ rec. refl;
    no-edition = λ rec. refl;
    edition-reply = refl;
  };
}

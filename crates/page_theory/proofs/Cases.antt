-- Cases A to L of document 01, "Both sides of each edge", at edition 1, and those of document 02, E13, in one table, each proved of the
-- definitions. The statements about layouts alone (A, B, C, D, E, I, K, E13's) stand in layout_replies/proofs/Cases; the others stand here.
use mathlib.Core.Path.{◌≡◌, refl, sym, ap, ◌∙◌}
use mathlib.Core.Bool.{false}
use mathlib.Core.List.{List, [], ◌∷◌, ◌++◌}
use Prim.Native.Nat.{ℕ, zero, suc, ◌*◌, ◌≤◌, ◌<◌}
use native.Mathlib.Omega.{arith}
use lib.ListN.{length, get_or, replicate}
use lib.Dec.{lit<, lit≤}
use Rattle.std.specs.Prelude.{Ok}
use Rattle.field.specs.declared.Field.{Field}
use Rattle.field.specs.declared.Field.TheVariants.{Thirteen, Fourteen}
use Rattle.field.specs.Field.{degree, a^}
use Rattle.field.proofs.Cases.{case-H-thirteen, case-H-fourteen}
use Rattle.algebra.specs.Word.{flip}
use Rattle.bits.specs.Bits.{bit, bit_at, bit_of, run, digit, number, digits, bytes}
use Rattle.mark.specs.Mark.{place, marked, streamed, stream_bit}
use Rattle.layout_plan.specs.declared.BlockFields.{BlockFields}
use Rattle.layout_plan.specs.declared.Plan.{Plan}
use Rattle.layout.specs.declared.BitPlace.TheVariants.{InBlock}
use Rattle.layout_plan.specs.Record.{Words}
use Rattle.layout_plan.specs.Plan.{shape_with, shape_of, later_shape, data_bytes, plan_for, layout_for, plan_of, shape, field, level, start, from, Valid}
use Rattle.layout.specs.Acceptance.{acceptance}
use Rattle.layout.specs.Bits.{within, block_below, block_of, bit_answer}
use Rattle.layout_replies.proofs.Cases.{words, two_blocks, layout_e, CaseA, CaseB, CaseC, CaseD, CaseE, CaseI, CaseK, CaseEdition, layout-cases}
use Rattle.code.specs.Word.{Word, apart, distance, ones, turned, flipped}
use Rattle.code.specs.Code.{Codeword}
use Rattle.code.specs.Outcome.{by-codeword}
use Rattle.code.specs.Generator.{times, minimals13, minimals, generator, remainder_step, remainder_of, remainder, parity}
use Rattle.page_theory.specs.Page.{message, written, written_bit, page_bit, page_of, block_word}
use Rattle.page_theory.specs.Reading.{GivesAt}
use Rattle.page_theory.specs.Damage.{Accepts, Payload}
use Rattle.page_theory.specs.Claim.{Right}
use Rattle.page_theory.specs.Calls.{write_ended, write_of, look_ended, look_of, take_ended, take_of, claim_ended, claim_of}
use Rattle.page_theory.proofs.Accepted.{words-accepts, look-accepted, take-accepted}
use Rattle.page_theory.proofs.Blocks.{written-message, written-code, block_word-length, page-block}
use Rattle.page_theory.proofs.Calls.{look-gives, take_gives}
use Rattle.page_theory.proofs.Claims.{accepted-when, otherwise-ten}
use Rattle.page_theory.proofs.Demand2.{write_done}
use Rattle.page_theory.proofs.Zeros.{replicate-at, zeros-parity}
use Rattle.page_theory.proofs.Single.{single-codeword}

-- the layout record of case E, the page of case F, and that page with byte 0 = 0x80
unfoldable pub record_e : Words
record_e = words 0x01000801 0x000F0801

unfoldable pub page_f : List ℕ
page_f = replicate 14 0x00 ++ (0x0F ∷ [])

unfoldable pub page_g : List ℕ
page_g = 0x80 ∷ replicate 13 0x00 ++ (0x0F ∷ [])

-- F: an all-zero payload: all parity bits zero. Under E the page is fourteen bytes 0x00, then 0x0F.
pub record CaseF : Type 0 where
  pub parity-zero : (q : Plan) (n b : ℕ)
      → parity (field q b) (level q b) (message q (replicate n 0) b) ≡ replicate (degree (field q b) * level q b) false
  pub page : (lent : List ℕ) → length lent ≡ 15 → write_of record_e [] (replicate 8 0) lent ≡ write_ended 0 0 page_f

-- G: that page with byte 0 = 0x80 reads as zeros, counts 1 and 0; the flipped exponent is 57.
pub record CaseG : Type 0 where
  pub looks : (counts : List ℕ) → length counts ≡ 2 → look_of record_e page_g counts ≡ look_ended 0 0 (1 ∷ 0 ∷ [])
  pub takes : («data» : List ℕ) → length «data» ≡ 8 → take_of record_e page_g [] «data» ≡ take_ended 0 0 [] (replicate 8 0)
  pub flipped : turned (block_word (plan_of layout_e) page_g 0) 57 ≡ block_word (plan_of layout_e) page_f 0
  pub exponent : bit_answer record_e 0 ≡ Ok (InBlock 0 57)

-- H: a^13 is 0x1B for m = 13; a^14 is 0x2B for m = 14.
pub record CaseH : Type 0 where
  pub thirteen : a^ Thirteen 13 ≡ 0x1B
  pub fourteen : a^ Fourteen 14 ≡ 0x2B

-- L: under E, claim (57, 57) on block 0 of the page of G: 10. Claim (57) on block 0: accepted.
pub record CaseL : Type 0 where
  pub twice : claim_of record_e page_g 0 (57 ∷ 57 ∷ []) ≡ claim_ended 10
  pub once : claim_of record_e page_g 0 (57 ∷ []) ≡ claim_ended 0

pub record Cases : Type 0 where
  -- the reset state in document 000 is accepted: lengths, starts, no tail
  pub a : CaseA
  -- as A with PAGE_SIZE 4,313: 4
  pub b : CaseB
  -- m = 13, t = 40, 239 units of data: metadata 2 is accepted, metadata 3 is 3
  pub c : (later : BlockFields) → CaseC later
  -- m = 14, t = 40, 494 units of data: metadata 1 is accepted, metadata 2 is 3
  pub d : (later : BlockFields) → CaseD later
  -- two blocks of 58 bits; block 1 starts in byte 7 at bit 5; four tail bits
  pub e : CaseE
  -- all-zero payload: all parity bits zero
  pub f : CaseF
  -- one flip: looking counts 1 and 0, taking gives zeros
  pub g : CaseG
  -- a power of a in each field
  pub h : CaseH
  -- level field 0x15 with an empty block: 1
  pub i : CaseI
  -- a word with a single one is no codeword when t > 0
  pub j : (f : Field) (t : ℕ) (w : Word) → 0 < t → ones w ≡ 1 → Codeword f t w → ⊥
  -- metadata 0 and DATA0_SIZE 0: 2; metadata 1: allowed
  pub k : (ecc : ℕ) (gf : Field) (later : BlockFields) → ecc ≤ 20 → CaseK ecc gf later
  -- a claim with an equal pair: 10; the right claim is accepted
  pub l : CaseL
  -- document 02, E13: m = 13, t = 62, 230 units of data in edition 2: metadata 3 is accepted, metadata 4 is 3
  pub edition : (later : BlockFields) → CaseEdition later

accepts-E : Accepts (acceptance record_e) (plan_of layout_e)
unfolding record_e
accepts-E = words-accepts record_e layout_e layout-cases.e.accepted

page-F : (lent : List ℕ) → page_of (plan_of layout_e) lent (replicate 8 0) ≡ page_f
unfolding page_f page_of bytes page_bit written_bit marked streamed within block_below block_of layout_e two_blocks layout_for plan_for plan_of shape_with shape_of later_shape data_bytes shape start from
    written message run bit_of bit_at bit digit number digits
    degree parity remainder remainder_of remainder_step generator times minimals minimals13
page-F lent = refl

valid-E : Valid (plan_of layout_e)
valid-E = accepts-E.valid

payload-E : Payload (plan_of layout_e) [] (replicate 8 0)
unfolding layout_e two_blocks layout_for plan_for plan_of data_bytes
payload-E = record {
  metadata = record { count = refl; small = λ i. lit< tt };
  «data» = record { count = refl; small = λ i. rw (replicate-at {A = ℕ} 8 i 0) (lit< tt) };
}

case-F : CaseF
case-F = record {
  parity-zero = zeros-parity;
  page = λ lent h. write_done (acceptance record_e) (plan_of layout_e) accepts-E [] (replicate 8 0) lent payload-E (unfold layout_e two_blocks layout_for plan_for plan_of in h) ∙ ap (write_ended 0 0) (page-F lent);
}

-- the written blocks of the page of F, and how far those of the page of G are from them

block-F : (b : ℕ) → b < (plan_of layout_e).blocks → block_word (plan_of layout_e) page_f b ≡ written (plan_of layout_e) (replicate 8 0) b
block-F b l = rw (← page-F []) (page-block (plan_of layout_e) [] (replicate 8 0) valid-E b l)

codeword-F : (b : ℕ) → b < (plan_of layout_e).blocks → Codeword (field (plan_of layout_e) b) (level (plan_of layout_e) b) (block_word (plan_of layout_e) page_f b)
codeword-F b l = rw (block-F b l) (written-code (plan_of layout_e) (replicate 8 0) b (valid-E.strong b l))

DistanceG : (b n : ℕ) → Type 0
DistanceG b n = distance (block_word (plan_of layout_e) page_g b) (block_word (plan_of layout_e) page_f b) ≡ n

gives-G : (b n : ℕ) → b < (plan_of layout_e).blocks → n ≤ level (plan_of layout_e) b → DistanceG b n
    → GivesAt (plan_of layout_e) page_g b (message (plan_of layout_e) (replicate 8 0) b) n
unfolding DistanceG
gives-G b n l few e = by-codeword (record {
  word = block_word (plan_of layout_e) page_f b;
  near = record {
    same = block_word-length (plan_of layout_e) page_f b ∙ sym (block_word-length (plan_of layout_e) page_g b);
    code = codeword-F b l;
    close = rw e few;
  };
  message = rw (block-F b l) (sym (written-message (plan_of layout_e) (replicate 8 0) b));
  count = sym e;
})

near-G : DistanceG 0 1
unfolding DistanceG block_word page_f page_g layout_e two_blocks layout_for plan_for plan_of shape_with shape_of later_shape shape start degree run stream_bit place bit_of bit_at bit distance apart
near-G = refl

same-G : DistanceG 1 0
unfolding DistanceG block_word page_f page_g layout_e two_blocks layout_for plan_for plan_of shape_with shape_of later_shape shape start degree run stream_bit place bit_of bit_at bit distance apart
same-G = refl

flipped-G : turned (block_word (plan_of layout_e) page_g 0) 57 ≡ block_word (plan_of layout_e) page_f 0
unfolding block_word page_f page_g layout_e two_blocks layout_for plan_for plan_of shape_with shape_of later_shape shape start degree run stream_bit place bit_of bit_at bit turned flip
flipped-G = refl

each-G : (b : ℕ) → b < 2 → GivesAt (plan_of layout_e) page_g b (message (plan_of layout_e) (replicate 8 0) b) (get_or (1 ∷ 0 ∷ []) b 0)
unfolding layout_e two_blocks layout_for plan_for plan_of data_bytes shape_with shape_of later_shape shape page_g
each-G zero l = gives-G 0 1 (lit< tt) (lit≤ tt) near-G
each-G (suc zero) l = gives-G 1 0 (lit< tt) (lit≤ tt) same-G
each-G (suc (suc b)) l = absurd (omega arith)

looks-G : (counts : List ℕ) → length counts ≡ 2 → look_of record_e page_g counts ≡ look_ended 0 0 (1 ∷ 0 ∷ [])
unfolding layout_e two_blocks layout_for plan_for plan_of data_bytes shape_with shape_of later_shape shape page_g
looks-G c k =
    look-accepted (acceptance record_e) (plan_of layout_e) accepts-E page_g c
    ∙ look-gives (plan_of layout_e) valid-E page_g (1 ∷ 0 ∷ []) (message (plan_of layout_e) (replicate 8 0)) refl refl each-G c k

takes-G : («data» : List ℕ) → length «data» ≡ 8 → take_of record_e page_g [] «data» ≡ take_ended 0 0 [] (replicate 8 0)
unfolding layout_e two_blocks layout_for plan_for plan_of data_bytes shape_with shape_of later_shape shape page_g
takes-G d k =
    take-accepted (acceptance record_e) (plan_of layout_e) accepts-E page_g [] d
    ∙ take_gives (plan_of layout_e) valid-E page_g [] (replicate 8 0) (λ b. get_or (1 ∷ 0 ∷ []) b 0) refl payload-E each-G [] d refl k

case-L : CaseL
unfolding layout_e two_blocks layout_for plan_for plan_of shape_with shape_of shape page_g flipped
case-L = record {
  twice = otherwise-ten (acceptance record_e) (plan_of layout_e) accepts-E page_g 0 refl (lit< tt) (57 ∷ 57 ∷ []) (λ r. r.distinct 0 1 (lit< tt) (lit< tt) refl);
  once = accepted-when (acceptance record_e) (plan_of layout_e) accepts-E page_g 0 refl (lit< tt) (57 ∷ []) right;
}
  where
    right : Right (field (plan_of layout_e) 0) (level (plan_of layout_e) 0) (block_word (plan_of layout_e) page_g 0) (57 ∷ [])
    right = record {
      distinct = λ i j k l e. omega arith;
      below = below;
      few = lit≤ tt;
      code = rw flipped-G (codeword-F 0 (lit< tt));
    }
      where
        below : (i : ℕ) → i < 1 → get_or (57 ∷ []) i 0 < length (block_word (plan_of layout_e) page_g 0)
        below zero l = rw (block_word-length (plan_of layout_e) page_g 0) (unfold shape_with shape_of shape degree in lit< tt)
        below (suc i) l = absurd (omega arith)

pub cases : Cases
unfolding record_e
cases = record {
  a = layout-cases.a;
  b = layout-cases.b;
  c = layout-cases.c;
  d = layout-cases.d;
  e = layout-cases.e;
  f = case-F;
  g = record { looks = looks-G; takes = takes-G; flipped = flipped-G; exponent = layout-cases.e.first_bit };
  h = record { thirteen = case-H-thirteen; fourteen = case-H-fourteen };
  i = layout-cases.i;
  j = single-codeword;
  k = layout-cases.k;
  l = case-L;
  edition = layout-cases.edition;
}

-- Cases of layouts of sectors at both sides of each edge (document 02, E12), computed. Where it does not matter m = 13 and t = 8 (level field 4), so that
-- the parity has 104 bits, which are 13 bytes.
--
-- layout count size last level choice page     six numbers under edition 1
-- replied s                                    the reply to a layout
-- SectorCases                                  the table of cases
use mathlib.Core.Path.{◌≡◌, refl}
use Prim.Native.Nat.{ℕ}
use Rattle.std.specs.Prelude.{Ok, Err}
use Rattle.field.specs.Field.{degree, longest}
use Rattle.field.specs.declared.Field.TheVariants.{Thirteen, Fourteen}
use Rattle.replies.specs.Replies.{number}
use Rattle.replies.specs.Edition.{offered, highest}
use Rattle.mark.specs.Mark.{place, marked, streamed}
use Rattle.layout_plan.specs.declared.Sectors.{Sectors}
use Rattle.layout.specs.declared.BitPlace.TheVariants as bit
use Rattle.layout.specs.declared.Refusal.TheVariants.{Range}
use Rattle.layout_plan.specs.Record.{field_of}
use Rattle.layout_plan.specs.Plan.{plan_of, shape, start, room}
use Rattle.layout_plan.specs.SectorPlan.{missing, parity_pads, pad_bytes, sector_shape, sectors_plan, sector_plan, sector_layout}
use Rattle.layout.specs.Acceptance.{test, level_rule, message_rule, length_rule, mark_rule, room_rule, either, of_blocks, finding_of, judged, rule_refusal, refusal_of, refusal_reply}
use Rattle.layout.specs.Answers as numbers
use Rattle.layout.specs.Answers.{acceptance_numbers}
use Rattle.layout.specs.Bits.{within, block_below, block_of, exponent_at, position_at, located, bit_in, bit_for, position_in, position_for}
use Rattle.sectors.specs.Sectors.{in_count, block_fields, sector_fields, sector_found, sector_acceptance}

unfoldable pub layout : ℕ → ℕ → ℕ → ℕ → ℕ → ℕ → Sectors
layout count size last level choice page = record { count = count; size = size; last = last; level = level; choice = choice; page = page; edition = 1 }

unfoldable pub replied : Sectors → ℕ
replied s = (acceptance_numbers (sector_acceptance s)).reply

pub record SectorCases : Type 0 where
  -- The count, which is looked at before everything else.
  pub no-sector : replied (layout 0 0 0 99 9 0) ≡ 7
  pub one-sector : replied (layout 1 512 512 4 0 65535) ≡ 0
  pub sixteen : replied (layout 16 512 512 4 0 65535) ≡ 0
  pub seventeen : replied (layout 17 512 512 99 9 0) ≡ 7
  pub choice : replied (layout 1 512 512 99 2 0) ≡ 7
  -- A sector of one byte takes 16 bytes with its parity and its pads.
  pub one_byte : replied (layout 1 0 1 4 0 16) ≡ 0
  pub one-byte-less : replied (layout 1 0 1 4 0 15) ≡ 4
  -- An empty sector; the sector size is not examined where there is one sector.
  pub last-empty-one : replied (layout 1 512 0 4 0 65535) ≡ 2
  pub last-empty-two : replied (layout 2 512 0 4 0 65535) ≡ 2
  pub size-empty-one : replied (layout 1 0 512 4 0 65535) ≡ 0
  pub size-empty-two : replied (layout 2 0 512 4 0 65535) ≡ 2
  pub size-long-one : replied (layout 1 65535 512 4 0 65535) ≡ 0
  pub size-long-two : replied (layout 2 65535 512 4 0 65535) ≡ 3
  -- Level fields of the first edition, before an empty sector.
  pub level : replied (layout 1 0 0 21 0 0) ≡ 1
  -- Parity that fills its bytes, and parity that leaves six bits of one: t is even, so it never leaves seven.
  pub byte-filled : parity_pads Thirteen 8 ≡ 0
  pub byte-open : parity_pads Thirteen 2 ≡ 6
  pub byte-half : parity_pads Fourteen 2 ≡ 4
  -- A length that is a multiple of 8 bytes as it is, and one that lacks seven bytes.
  pub whole : (sector_shape 3 Thirteen 8).pads ≡ 0
  pub longest-pads : (sector_shape 4 Thirteen 8).pads ≡ 56
  pub most-pads : (sector_shape 5 Thirteen 2).pads ≡ 62
  -- Pads are there at t = 0 too, and are no covered bits.
  pub bare : (sector_shape 1 Thirteen 0).pads ≡ 56
  pub bare-covered : (sector_shape 1 Thirteen 0).covered ≡ 8
  -- Two sectors of 32 and 16 bytes, and a byte less: whole sectors count, the last one's pads too.
  pub fits : replied (layout 2 16 1 4 0 48) ≡ 0
  pub no_room : replied (layout 2 16 1 4 0 47) ≡ 4
  -- Where the bits of the second sector lie, and that pads answer as tail.
  pub last-starts : start (sector_plan (layout 2 16 1 4 0 48)) 1 ≡ 256
  pub first_ends : bit_for (sector_acceptance (layout 2 16 1 4 0 48)) 231 ≡ Ok (bit.InBlock 0 0)
  pub pad-starts : bit_for (sector_acceptance (layout 2 16 1 4 0 48)) 232 ≡ Ok bit.Tail
  pub pad-ends : bit_for (sector_acceptance (layout 2 16 1 4 0 48)) 255 ≡ Ok bit.Tail
  pub second-starts : bit_for (sector_acceptance (layout 2 16 1 4 0 48)) 256 ≡ Ok (bit.InBlock 1 111)
  pub last-pad : bit_for (sector_acceptance (layout 2 16 1 4 0 48)) 383 ≡ Ok bit.Tail
  pub past-page : bit_for (sector_acceptance (layout 2 16 1 4 0 48)) 384 ≡ Err Range
  pub second-position : position_for (sector_acceptance (layout 2 16 1 4 0 48)) 1 111 ≡ Ok 256

pub sector-cases : SectorCases
unfolding layout replied in_count block_fields sector_fields sector_found sector_acceptance missing parity_pads pad_bytes sector_shape sectors_plan sector_plan sector_layout field_of
    plan_of shape start room degree longest offered highest test level_rule message_rule length_rule mark_rule room_rule either of_blocks finding_of judged rule_refusal refusal_of
    refusal_reply number acceptance_numbers numbers.done numbers.refused
    within block_below block_of exponent_at position_at located bit_in bit_for position_in position_for place marked streamed
sector-cases = record {
  no-sector = refl;
  one-sector = refl;
  sixteen = refl;
  seventeen = refl;
  choice = refl;
  one_byte = refl;
  one-byte-less = refl;
  last-empty-one = refl;
  last-empty-two = refl;
  size-empty-one = refl;
  size-empty-two = refl;
  size-long-one = refl;
  size-long-two = refl;
  level = refl;
  byte-filled = refl;
  byte-open = refl;
  byte-half = refl;
  whole = refl;
  longest-pads = refl;
  most-pads = refl;
  bare = refl;
  bare-covered = refl;
  fits = refl;
  no_room = refl;
  last-starts = refl;
  first_ends = refl;
  pad-starts = refl;
  pad-ends = refl;
  second-starts = refl;
  last-pad = refl;
  past-page = refl;
  second-position = refl;
}

-- The layout of a page of sectors (document 02, E12): the other controller family. Six numbers and the edition name it.
--
-- missing n               how much n lacks to the next multiple of 8
-- parity_pads f t          ones after the parity, to a whole byte
-- pad_bytes size f t       bytes of ones after that, until the length of the sector is a multiple of 8 bytes
-- sector_shape size f t    the shape of a sector of so many bytes of data: its parity and its pads follow the data
-- own_shape s, last_shape s the shapes of a sector of the sector size, and of the last sector
-- sectors_plan s n a b     the plan of the numbers s whose first n sectors have the shape a, and whose last one has the shape b
-- sector_plan s            the plan that the numbers s come to, with its sums
-- sector_layout s          their layout
use Rattle.std.specs.Prelude.{ℕ, ◌+◌, ◌-◌, ◌*◌, ◌/◌, ◌%◌, cond, eqb}
use Rattle.field.specs.Field.{degree}
use Rattle.field.specs.declared.Field.{Field}
use Rattle.layout_plan.specs.declared.Sectors.{Sectors}
use Rattle.layout_plan.specs.declared.Layout.{Layout}
use Rattle.layout_plan.specs.declared.Shape.{Shape}
use Rattle.layout_plan.specs.declared.Plan.{Plan}
use Rattle.layout_plan.specs.Record.{field_of}

unfoldable pub missing : ℕ → ℕ
missing n = (8 - n % 8) % 8

unfoldable pub parity_pads : Field → ℕ → ℕ
parity_pads f t = missing (degree f * t)

unfoldable pub pad_bytes : ℕ → Field → ℕ → ℕ
pad_bytes size f t = missing (size + (degree f * t + parity_pads f t) / 8)

-- The message is the data alone: there is no metadata. The pads are there at t = 0 too, and are no covered bits.
unfoldable pub sector_shape : ℕ → Field → ℕ → Shape
sector_shape size f t = record {
  message = 8 * size;
  covered = 8 * size + degree f * t;
  pads = parity_pads f t + 8 * pad_bytes size f t;
  field = f;
  level = t;
}

-- One level field and one field choice serve all sectors; t is twice the level field.
abbrev pub own_shape : Sectors → Shape
own_shape s = sector_shape s.size (field_of s.choice) (2 * s.level)

abbrev pub last_shape : Sectors → Shape
last_shape s = sector_shape s.last (field_of s.choice) (2 * s.level)

-- The data of all sectors, and whole sectors, the pads of the last one too. A page has no metadata and no mark.
unfoldable pub sectors_plan : Sectors → ℕ → Shape → Shape → Plan
sectors_plan s n a b = record {
  blocks = s.count;
  firsts = n;
  size = s.page;
  metadata = 0;
  «data» = (s.count - 1) * s.size + s.last;
  used = (s.count - 1) * (a.covered + a.pads) + (b.covered + b.pads);
  first = a;
  later = b;
  mark = record { offset = 0; length = 0 };
}

-- Every sector but the last has the sector size. Where there is one sector, it is the last, and the sector size does not matter.
unfoldable pub sector_plan : Sectors → Plan
sector_plan s =
    cond (eqb s.count 1)
    (sectors_plan s 1 (last_shape s) (last_shape s))
    (sectors_plan s (s.count - 1) (own_shape s) (last_shape s))

unfoldable pub sector_layout : Sectors → Layout
sector_layout s = record { plan = sector_plan s }

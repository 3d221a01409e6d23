-- Inner promises: what deciding a block of a page says of it.
--
-- DecidedAt q page b ps n    block b is decided with the count n: the exponents ps repair it, or it is erased, or it is ruined
-- Remembers q d              what was found for the last decided block d is right for every block with its shape and its remainder
-- Alike q d b words          block b, whose remainder has these words, and the last decided block d have one shape and one remainder
-- BlockDecided q page b d    block b was decided as d
-- OneField q b               from block b on the blocks of the page have the field of the later ones
-- Serves q b powers logs rows    the tables serve to decode each block of the page from block b on
use Rattle.std.specs.Prelude.{◌≡◌, true, List, ℕ, ◌≤◌, ◌<◌, length, take, replicate, ltb}
use Rattle.layout_plan.specs.declared.Plan.{Plan}
use Rattle.layout_plan.specs.Plan.{bits, field, level, covered}
use Rattle.code.specs.Register.{register}
use Rattle.syndrome_lanes.specs.Lanes.{Decoding}
use Rattle.decoder.specs.Locating.{Finds}
use Rattle.page_theory.specs.Reading.{GivesAt, RefusedAt}
use Rattle.page_decide.specs.declared.Decided.{Decided}
use Rattle.page_decide.specs.Scanning.{LocatedAt}

pub record DecidedAt (q : Plan) (page : List ℕ) (b : ℕ) (ps : List ℕ) (n : ℕ) : Type 0 where
  pub repaired : n < 128 → LocatedAt q page b ps
  pub flips : n < 128 → length ps ≡ n
  pub erased : 128 ≤ n → n < 255 → GivesAt q page b (replicate (bits q b) true) n
  pub ruined : 255 ≤ n → RefusedAt q page b
  pub small : n ≤ 255

-- The first blocks have one shape, and so have the others; what was found for a block holds for each with the same remainder.
pub record Remembers (q : Plan) (d : Decided) : Type 0 where
  pub finds : d.known ≡ true → (b : ℕ) → d.first ≡ ltb b q.firsts
      → Finds (field q b) (level q b) (covered q b) (register d.remainder.words) d.found

pub record Alike (q : Plan) (d : Decided) (b : ℕ) (words : List ℕ) : Type 0 where
  pub known : d.known ≡ true
  pub first : d.first ≡ ltb b q.firsts
  pub same : d.remainder.words ≡ words

pub record BlockDecided (q : Plan) (page : List ℕ) (b : ℕ) (d : Decided) : Type 0 where
  pub at : DecidedAt q page b (take d.count d.found.exponents) d.count
  pub size : length d.found.exponents ≡ 64
  pub remembers : Remembers q d

pub record OneField (q : Plan) (b : ℕ) : Type 0 where
  pub each : (c : ℕ) → b ≤ c → c < q.blocks → field q c ≡ q.later.field

pub record Serves (q : Plan) (b : ℕ) (powers logs rows : List ℕ) : Type 0 where
  pub each : (c : ℕ) → b ≤ c → c < q.blocks → Decoding (field q c) (level q c) powers logs rows

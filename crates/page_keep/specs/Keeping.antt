-- Inner promises: what is kept of the blocks of a page. `places` is the table of exponents, 64 for each block, and `flips` has the count
-- of each block: the number of the exponents that are kept for it, or, from 128 on, 128 plus the zeros of an erased block.
--
-- kept places b n                          the first n exponents for block b
-- KeptFor b n ps before after              the first n exponents of ps are kept for block b, and those for other blocks are as before
-- BlockKept b n ps before .. after         so are they where n is no count of an erased block, and n is kept as the count of block b
-- AllDecided q page n places flips         the first n blocks are decided, and none of them is ruined
-- Underway q page s places flips           the blocks before s are decided, nothing is kept for the others, and s has its remainder
--                                          and, if it is known, that of the next block
-- Pending q page words s places flips      what deciding from s on counts on: the page has its size, the words are the table of the
--                                          later blocks' generator, and the blocks before s are decided
-- PageDecided q page places flips r        what a decision says of a page: every block is decided, or r is the lowest ruined one
-- Kept q places flips                      few exponents are kept for each block that is not erased, those of covered bits
use Rattle.std.specs.Prelude.{◌≡◌, true, List, ℕ, ◌+◌, ◌*◌, ◌≤◌, ◌<◌, length, take, get_or, Option, None, Some}
use Rattle.bits.specs.Bits.{run}
use Rattle.layout_plan.specs.declared.Plan.{Plan}
use Rattle.layout_plan.specs.Plan.{covered}
use Rattle.code.specs.Word.{Below}
use Rattle.code.specs.Register.{register}
use Rattle.division_table.specs.Table.{Table}
use Rattle.page_theory.specs.Reading.{Lowest}
use Rattle.page_plan.specs.Plans.{Ready}
use Rattle.page_decide.specs.declared.Scan.{Scan}
use Rattle.page_decide.specs.Scanning.{remainder_at}
use Rattle.page_decide.specs.Deciding.{DecidedAt}

unfoldable pub kept : List ℕ → ℕ → ℕ → List ℕ
kept places b n = run (λ i. get_or places i 0) (64 * b) n

pub record KeptFor (b n : ℕ) (ps before after : List ℕ) : Type 0 where
  pub same : length after ≡ length before
  pub own : (i : ℕ) → i < n → get_or after (64 * b + i) 0 ≡ get_or ps i 0
  pub others : (k : ℕ) → (64 * b ≤ k → k < 64 * b + 64 → ⊥) → get_or after k 0 ≡ get_or before k 0

pub record BlockKept (b n : ℕ) (ps places flips places' flips' : List ℕ) : Type 0 where
  pub own : n < 128 → kept places' b n ≡ take n ps
  pub count : get_or flips' b 0 ≡ n
  pub other-places : (c k : ℕ) → (c ≡ b → ⊥) → k ≤ 64 → kept places' c k ≡ kept places c k
  pub other-flips : (c : ℕ) → (c ≡ b → ⊥) → get_or flips' c 0 ≡ get_or flips c 0
  pub places-length : length places' ≡ length places
  pub flips-length : length flips' ≡ length flips

pub record AllDecided (q : Plan) (page : List ℕ) (n : ℕ) (places flips : List ℕ) : Type 0 where
  pub each : (b : ℕ) → b < n → DecidedAt q page b (kept places b (get_or flips b 0)) (get_or flips b 0)
  pub sound : (b : ℕ) → b < n → get_or flips b 0 < 255

pub record Underway (q : Plan) (page : List ℕ) (s : Scan) (places flips : List ℕ) : Type 0 where
  pub inside : s.block ≤ q.blocks
  pub decided : AllDecided q page s.block places flips
  pub fresh : (c : ℕ) → s.block ≤ c → get_or flips c 0 ≡ 0
  pub left : s.block < q.blocks → register s.remainder.words ≡ remainder_at q page s.block
  pub ahead : s.known ≡ true → register s.next.words ≡ remainder_at q page (s.block + 1)
  pub room : 64 * q.blocks ≤ length places
  pub flips-length : length flips ≡ 256

pub record Pending (q : Plan) (page words : List ℕ) (s : Scan) (places flips : List ℕ) : Type 0 where
  pub ready : Ready q page
  pub table : Table q.later.field q.later.level words
  pub underway : Underway q page s places flips

unfoldable pub PageDecided : Plan → List ℕ → List ℕ → List ℕ → Option ℕ → Type 0
PageDecided q page places flips None = AllDecided q page q.blocks places flips
PageDecided q page places flips (Some b) = Lowest q page b

pub record Kept (q : Plan) (places flips : List ℕ) : Type 0 where
  pub few : (b : ℕ) → b < q.blocks → get_or flips b 0 < 128 → get_or flips b 0 ≤ 64
  pub below : (b : ℕ) → b < q.blocks → get_or flips b 0 < 128 → Below (covered q b) (kept places b (get_or flips b 0))

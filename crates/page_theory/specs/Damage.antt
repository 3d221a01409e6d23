-- What demand 3 speaks of (document 01, "Damage"): accepted layouts, payloads, damaged pages, and outputs to read them into.
-- A set of numbers is given by its test. Sets of covered bits: `s b j` says whether bit j of block b, counted from the block's
-- start, is in the set of block b.
--
-- Accepts a q                       the answer a accepts a layout, and q is its plan
-- Payload q m d                     m and d are metadata and data of the lengths that the plan gives
-- Outputs q m d c                   m, d and c have the lengths of metadata, data and counts
-- size s n                          how many numbers below n are in the set s
-- flips q s b                       how many covered bits of block b are in its set
-- turn x b                          the bit b, turned over where x is true
-- Damaged q before after s          the page `after` is the page `before` with the sets s turned over, and any tail and mark
-- WrittenAndDamaged a q m d page s      metadata m and data d were written, and damage made `page` of the written page
use Rattle.layout.specs.declared.Refusal.{Refusal}
use Rattle.std.specs.Prelude.{◌≡◌, Bool, cond, List, ℕ, zero, suc, ◌+◌, ◌≤◌, ◌<◌, length, Result, Ok}
use Rattle.algebra.specs.Word.{flip}
use Rattle.bits.specs.Bits.{digit, Bytes}
use Rattle.mark.specs.Mark.{stream_bit}
use Rattle.layout_plan.specs.declared.Plan.{Plan}
use Rattle.layout_plan.specs.declared.Layout.{Layout}
use Rattle.layout_plan.specs.Plan.{plan_of, level, covered, start, Valid}
use Rattle.page_theory.specs.Calls.{write_for}

-- The laws about pages speak of an answer that accepts a layout, whatever names the layout: layout words w with their edition have the answer
-- `acceptance w`. That the plan is valid stands here because an answer could come with any numbers; proofs/Accepted `words-accepts` shows that the
-- answer to layout words does not, so that nothing is left to suppose.
pub record Accepts (a : Result Layout Refusal) (q : Plan) : Type 0 where
  pub layout : Layout
  pub accepted : a ≡ Ok layout
  pub plan : q ≡ plan_of layout
  pub valid : Valid q

pub record Payload (q : Plan) (m d : List ℕ) : Type 0 where
  pub metadata : Bytes q.metadata m
  pub «data» : Bytes q.«data» d

pub record Outputs (q : Plan) (m d c : List ℕ) : Type 0 where
  pub metadata : length m ≡ q.metadata
  pub «data» : length d ≡ q.«data»
  pub counts : length c ≡ q.blocks

unfoldable pub size : (ℕ → Bool) → ℕ → ℕ
size s zero = 0
size s (suc n) = size s n + digit (s n)

unfoldable pub flips : Plan → (ℕ → ℕ → Bool) → ℕ → ℕ
flips q s b = size (s b) (covered q b)

unfoldable pub turn : Bool → Bool → Bool
turn x b = cond x (flip b) b

-- In each block the bits of its set are turned over, at most t of them. Nothing is said of the tail and of the mark: their bits become anything
-- (document 02, E7, counts mark bits with the tail).
pub record Damaged (q : Plan) (before after : List ℕ) (s : ℕ → ℕ → Bool) : Type 0 where
  pub page : Bytes q.size after
  pub turned : (b j : ℕ) → b < q.blocks → j < covered q b
      → stream_bit q.mark after (start q b + j) ≡ turn (s b j) (stream_bit q.mark before (start q b + j))
  pub few : (b : ℕ) → b < q.blocks → flips q s b ≤ level q b

-- The writer was lent some page of PAGE_SIZE bytes, and nothing but the damage changed the page that it left. The edition is part of the layout
-- (document 02, E13): a page is written and read under one answer `a`.
pub record WrittenAndDamaged (a : Result Layout Refusal) (q : Plan) (m d page : List ℕ) (s : ℕ → ℕ → Bool) : Type 0 where
  pub payload : Payload q m d
  pub lent : List ℕ
  pub size : length lent ≡ q.size
  pub damaged : Damaged q (write_for a m d lent).page page s

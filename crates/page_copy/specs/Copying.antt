-- Inner promises: what copying messages out of a page leaves. m and d are metadata and data before, m' and d' after; the payload is the
-- one followed by the other.
--
-- texts q page n                the messages of the first n blocks as they stand in the page, one after the other
-- FlippedIn q b ps m d m' d'    the message of block b was flipped at the exponents ps, and no other message was
-- FilledIn q b m d m' d'        the message of block b was filled with ones, and no other message was
-- RestoredIn q b places n m d m' d'    the message of block b was flipped at its kept exponents, or filled where its count n is that
--                               of an erased block, and no other message changed
-- RestoredAll q n places flips m d m' d'    so were the messages of the first n blocks
use Rattle.std.specs.Prelude.{◌≡◌, true, List, [], ◌++◌, ℕ, zero, suc, ◌≤◌, ◌<◌, length, take, get_or, replicate}
use Rattle.bits.specs.Bits.{run}
use Rattle.mark.specs.Mark.{stream_bit}
use Rattle.layout_plan.specs.declared.Plan.{Plan}
use Rattle.layout_plan.specs.Plan.{bits, covered, start}
use Rattle.code.specs.Word.{Word, flipped}
use Rattle.page_theory.specs.Page.{message}
use Rattle.page_keep.specs.Keeping.{kept}

unfoldable pub texts : Plan → List ℕ → ℕ → Word
texts q page zero = []
texts q page (suc b) = texts q page b ++ run (stream_bit q.mark page) (start q b) (bits q b)

pub record FlippedIn (q : Plan) (b : ℕ) (ps m d m' d' : List ℕ) : Type 0 where
  pub metadata : length m' ≡ length m
  pub «data» : length d' ≡ length d
  pub own : (w : Word) → length w ≡ covered q b → message q (m ++ d) b ≡ take (bits q b) w → message q (m' ++ d') b ≡ take (bits q b) (flipped w ps)
  pub others : (c : ℕ) → (c ≡ b → ⊥) → message q (m' ++ d') c ≡ message q (m ++ d) c

pub record FilledIn (q : Plan) (b : ℕ) (m d m' d' : List ℕ) : Type 0 where
  pub metadata : length m' ≡ length m
  pub «data» : length d' ≡ length d
  pub own : message q (m' ++ d') b ≡ replicate (bits q b) true
  pub others : (c : ℕ) → (c ≡ b → ⊥) → message q (m' ++ d') c ≡ message q (m ++ d) c

pub record RestoredIn (q : Plan) (b : ℕ) (places : List ℕ) (n : ℕ) (m d m' d' : List ℕ) : Type 0 where
  pub metadata : length m' ≡ length m
  pub «data» : length d' ≡ length d
  pub repaired : n < 128 → (w : Word) → length w ≡ covered q b → message q (m ++ d) b ≡ take (bits q b) w
      → message q (m' ++ d') b ≡ take (bits q b) (flipped w (kept places b n))
  pub erased : 128 ≤ n → message q (m' ++ d') b ≡ replicate (bits q b) true
  pub others : (c : ℕ) → (c ≡ b → ⊥) → message q (m' ++ d') c ≡ message q (m ++ d) c

pub record RestoredAll (q : Plan) (n : ℕ) (places flips m d m' d' : List ℕ) : Type 0 where
  pub metadata : length m' ≡ length m
  pub «data» : length d' ≡ length d
  pub repaired : (b : ℕ) → b < n → get_or flips b 0 < 128 → (w : Word) → length w ≡ covered q b → message q (m ++ d) b ≡ take (bits q b) w
      → message q (m' ++ d') b ≡ take (bits q b) (flipped w (kept places b (get_or flips b 0)))
  pub erased : (b : ℕ) → b < n → 128 ≤ get_or flips b 0 → message q (m' ++ d') b ≡ replicate (bits q b) true
  pub others : (b : ℕ) → n ≤ b → message q (m' ++ d') b ≡ message q (m ++ d) b

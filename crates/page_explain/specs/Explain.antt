-- Why a block of a page was answered as it was (document 02, E2): its flips, in the order that locating lists them, each as its page position;
-- or erased, with the number of its zeros; or no codeword within t; or the refusal of the call. The codeword is the one that `judge` repairs the
-- block to (code/Outcome `nearest`), and the order that of code/Locations `listed`: from the highest exponent down.
--
-- differing v w          the places in which two words of one length differ, as a word: its ones
-- position_of q b e       the page position of the exponent e of block b
-- positions q b es       those of a list of exponents
-- flips q b w c          the page positions in which block b, whose word is w, and the word c differ
-- Explained              what the call answers, and the lent list afterwards
-- explained answer list  the same of an answer of the code that leaves the list so
-- listing ps list        a list after ps was put at its start: the places behind keep what they held
-- explain_by ..           a block by whether a codeword is within t flips of it, and whether it has at most t zeros
-- explain_at q page b list       block b of a page of the right length
-- explain_asked, explain_in, explain_for    the same with the replies 6, then 5 and 7, and then those of the layout before it
-- explain_of words page b list   the call
use Rattle.std.specs.Prelude.{Bool, true, false, cond, List, [], ◌∷◌, ◌++◌, ℕ, length, drop, eqb, ltb, leb, Result, Ok, Err}
use Rattle.algebra.specs.Word.{differ}
use Rattle.field.specs.declared.Field.{Field}
use Rattle.mark.specs.Mark.{place}
use Rattle.replies.specs.declared.Refusal.TheVariants as row
use Rattle.layout_plan.specs.declared.Plan.{Plan}
use Rattle.layout_plan.specs.declared.Layout.{Layout}
use Rattle.layout.specs.declared.Refusal.{Refusal}
use Rattle.layout_plan.specs.Plan.{plan_of, field, level}
use Rattle.layout_plan.specs.Record.{Words}
use Rattle.layout.specs.Acceptance as layout
use Rattle.layout.specs.Bits.{position_at}
use Rattle.code.specs.Word.{Word, zeros}
use Rattle.code.specs.Code.{Near}
use Rattle.code.specs.Outcome.{nearest}
use Rattle.code.specs.Locations.{listed}
use Rattle.page_theory.specs.Page.{block_word}
use Rattle.explain.specs.declared.About.TheVariants as about
use Rattle.explain.specs.Reasons.{why, why_of}
use Rattle.explain.specs.declared.Why.{Why}
use Rattle.page_explain.specs.declared.BlockFinding.{BlockFinding}
use Rattle.page_explain.specs.declared.BlockFinding.TheVariants as finding

unfoldable pub differing : Word → Word → Word
differing [] w = []
differing (x ∷ v) [] = []
differing (x ∷ v) (y ∷ w) = differ x y ∷ differing v w

unfoldable pub position_of : Plan → ℕ → ℕ → ℕ
position_of q b e = place q.mark (position_at q b e)

unfoldable pub positions : Plan → ℕ → List ℕ → List ℕ
positions q b [] = []
positions q b (e ∷ es) = position_of q b e ∷ positions q b es

unfoldable pub flips : Plan → ℕ → Word → Word → List ℕ
flips q b w c = positions q b (listed (differing w c))

pub record Explained : Type 0 where
  pub answer : Result BlockFinding Why
  pub list : List ℕ

abbrev pub explained : Result BlockFinding Why → List ℕ → Explained
explained a l = record { answer = a; list = l }

unfoldable pub listing : List ℕ → List ℕ → List ℕ
listing ps list = ps ++ drop (length ps) list

-- Decoded first, as in judging: only a block with no codeword within t flips can be erased (document 02, E1).
unfoldable pub explain_by : Plan → ℕ → List ℕ → {f : Field} {t : ℕ} {w : Word} → Dec ((c : Word) × Near f t w c) → Bool → Explained
explain_by q b list {f} {t} {w} (yes (c, near)) few = explained (Ok (finding.Flips (length (flips q b w c)) t)) (listing (flips q b w c) list)
explain_by q b list {f} {t} {w} (no none) true = explained (Ok (finding.Erased (zeros w) t)) list
explain_by q b list {f} {t} {w} (no none) false = explained (Ok (finding.Ruined b t)) list

unfoldable pub explain_at : Plan → List ℕ → ℕ → List ℕ → Explained
explain_at q page b list =
    explain_by q b list (nearest (field q b) (level q b) (block_word q page b)) (leb (zeros (block_word q page b)) (level q b))

-- 6: a list with fewer than t places, t being the level of the block.
unfoldable pub explain_asked : Plan → List ℕ → ℕ → List ℕ → Explained
explain_asked q page b list =
    cond (leb (level q b) (length list))
    (explain_at q page b list)
    (explained (Err (why row.BufferLength about.List (length list) (level q b))) list)

-- 5: a page of another length than PAGE_SIZE. 7: a block number outside its range, which has no t to ask a list for.
unfoldable pub explain_in : Plan → List ℕ → ℕ → List ℕ → Explained
explain_in q page b list =
    cond (eqb (length page) q.size)
    (cond (ltb b q.blocks)
    (explain_asked q page b list)
    (explained (Err (why row.OutOfRange about.Block b q.blocks)) list))
    (explained (Err (why row.PageLength about.Lent (length page) q.size)) list)

unfoldable pub explain_for : ℕ → ℕ → Result Layout Refusal → List ℕ → ℕ → List ℕ → Explained
explain_for e n (Ok l) page b list = explain_in (plan_of l) page b list
explain_for e n (Err r) page b list = explained (Err (why_of e n r)) list

-- Beside a refusal, an erased block and a ruined one the list stays as lent.
unfoldable pub explain_of : Words → List ℕ → ℕ → List ℕ → Explained
explain_of w page b list = explain_for w.edition (length w.bytes) (layout.acceptance w) page b list

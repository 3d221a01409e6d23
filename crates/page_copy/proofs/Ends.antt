-- What is copied out of a page of which every block is decided.
use mathlib.Core.Path.{◌≡◌, refl, sym, ◌∙◌, subst₂}
use mathlib.Core.List.{List, [], ◌++◌}
use Prim.Native.Nat.{ℕ, ◌≤◌, ◌<◌}
use native.Mathlib.Decide.{dec_lt}
use native.Mathlib.Omega.{arith}
use lib.ListN.{length, take, get_or, length-append}
use Rattle.bits.specs.Bits.{placed}
use Rattle.layout_plan.specs.declared.Plan.{Plan}
use Rattle.layout_plan.specs.Plan.{bits, payload}
use Rattle.code.specs.Word.{flipped}
use Rattle.page_theory.specs.Page.{message, block_word}
use Rattle.page_theory.specs.Reading.{GivesAt}
use Rattle.page_theory.specs.Damage.{Payload}
use Rattle.page_theory.specs.Calls.{take_ended, take_in}
use Rattle.page_theory.proofs.Blocks.{block_word-length}
use Rattle.page_theory.proofs.Calls.{take_gives}
use Rattle.page_theory.proofs.Outcomes.{exponents-gives}
use Rattle.page_plan.specs.Plans.{Ready}
use Rattle.payload.specs.Payload.{Joined}
use Rattle.page_decide.specs.Scanning.{remainder_at, LocatedAt}
use Rattle.page_decide.proofs.Remainders.{located-clean}
use Rattle.page_keep.specs.Keeping.{kept, AllDecided}
use Rattle.page_copy.specs.Copying.{texts, RestoredAll}
use Rattle.page_copy.proofs.Messages.{texts-message}

module _ (q : Plan) (page : List ℕ) (ready : Ready q page) (m d : List ℕ) (em : length m ≡ q.metadata) (ed : length d ≡ q.«data») where
  -- each block gives its message, with some count
  take-given : {m' d' : List ℕ} (n : ℕ → ℕ) → Payload q m' d' → ((b : ℕ) → b < q.blocks → GivesAt q page b (message q (m' ++ d') b) (n b))
      → take_ended 0 0 m' d' ≡ take_in q page m d
  take-given n p each = sym (take_gives q ready.plan.valid page _ _ n ready.size p each m d em ed)

  -- by the exponents that repair it
  located-given : (m' d' : List ℕ) (b : ℕ) {n : ℕ} → b < q.blocks → (ps : List ℕ) → LocatedAt q page b ps
      → message q (m' ++ d') b ≡ take (bits q b) (flipped (block_word q page b) ps) → length ps ≡ n → GivesAt q page b (message q (m' ++ d') b) n
  unfolding remainder_at
  located-given m' d' b i ps located text count =
      subst₂ (GivesAt q page b) (sym text) count (exponents-gives q page ready.plan.valid b i ps located)

  -- the messages as they stand in the page
  copied-message : {m' d' : List ℕ} → Joined m d m' d' (placed (m ++ d) 0 (texts q page q.blocks)) → (b : ℕ) → b < q.blocks
      → message q (m' ++ d') b ≡ take (bits q b) (block_word q page b)
  unfolding payload
  copied-message j b l = rw j.both (texts-message q page ready.plan.valid (m ++ d) (length-append m d ∙ omega arith) b l)

  pub take-clean : {m' d' : List ℕ} → ((b : ℕ) → b < q.blocks → remainder_at q page b ≡ 0)
      → Joined m d m' d' (placed (m ++ d) 0 (texts q page q.blocks))
      → ((i : ℕ) → get_or m' i 0 < 256) → ((i : ℕ) → get_or d' i 0 < 256) → take_ended 0 0 m' d' ≡ take_in q page m d
  unfolding flipped
  take-clean {m'} {d'} clean j a b =
      take-given (λ b. 0)
      (record { metadata = record { count = j.metadata ∙ em; small = a }; «data» = record { count = j.«data» ∙ ed; small = b } })
      (λ b l. located-given m' d' b l [] (located-clean q page ready.plan.valid b l (clean b l)) (copied-message j b l) refl)

  pub take-decided : {m₁ d₁ m' d' : List ℕ} (places flips : List ℕ) → AllDecided q page q.blocks places flips
      → Joined m d m₁ d₁ (placed (m ++ d) 0 (texts q page q.blocks)) → RestoredAll q q.blocks places flips m₁ d₁ m' d'
      → ((i : ℕ) → get_or m' i 0 < 256) → ((i : ℕ) → get_or d' i 0 < 256) → take_ended 0 0 m' d' ≡ take_in q page m d
  take-decided {m' = m'} {d' = d'} places flips decided j t a b =
      take-given (λ b. get_or flips b 0)
      (record {
        metadata = record { count = t.metadata ∙ j.metadata ∙ em; small = a };
        «data» = record { count = t.«data» ∙ j.«data» ∙ ed; small = b };
      })
      each
    where
      each : (b : ℕ) → b < q.blocks → GivesAt q page b (message q (m' ++ d') b) (get_or flips b 0)
      each b l = let at = decided.each b l in elim (dec_lt (get_or flips b 0) 128) [
        | yes k ↦ located-given m' d' b l (kept places b (get_or flips b 0)) (at.repaired k)
            (t.repaired b l k (block_word q page b) (block_word-length q page b) (copied-message j b l)) (at.flips k)
        | no k ↦ (let h : 128 ≤ get_or flips b 0 = omega arith in rw (t.erased b l h) (at.erased h (decided.sound b l)))
      ]

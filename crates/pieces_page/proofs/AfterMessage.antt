-- The parity of a message in pieces is what stands after that message in the stream of the written page (document 02, E4).
use mathlib.Core.Path.{◌≡◌, refl, sym, ap, ◌∙◌}
use mathlib.Core.Bool.{true}
use mathlib.Core.List.{List, ◌++◌}
use Prim.Native.Nat.{ℕ, zero, suc, ◌+◌, ◌-◌, ◌*◌, ◌≤◌, ◌<◌}
use native.Mathlib.Omega.{arith}
use native.Mathlib.Decide.{dec_lt}
use lib.ListN.{length, drop}
use lib.Seq.{drop_at}
use Rattle.field.specs.Field.{degree}
use Rattle.bits.specs.Bits.{bit_of, run}
use Rattle.bits.proofs.Runs.{run_length, run-append}
use Rattle.mark.specs.Mark.{stream_bit}
use Rattle.replies.specs.Edition.{offered, highest}
use Rattle.replies.proofs.Editions.{highest-small}
use Rattle.layout_plan.specs.declared.Fields.{Fields}
use Rattle.layout_plan.specs.declared.Shape.{Shape}
use Rattle.layout_plan.specs.declared.Plan.{Plan}
use Rattle.layout_plan.specs.Record.{Words, fields_at, fields_under, fields_in}
use Rattle.layout_plan.specs.Plan.{shape_with, shape_of, plan_for, shape, bits, field, level, covered, start}
use Rattle.layout.specs.Acceptance.{acceptance}
use Rattle.layout_plan.proofs.Plans.{later-some, shape-later}
use Rattle.layout.proofs.Accepting.{Keeps, keeps, accepted-taken, accepted-plan, accepted-kept}
use Rattle.code.specs.Generator.{parity}
use Rattle.remainder.specs.Remainder.{bytes_for}
use Rattle.page_theory.specs.Page.{message, block_word}
use Rattle.page_theory.specs.Calls.{write_of}
use Rattle.page_theory.specs.Damage.{Accepts, Payload}
use Rattle.page_theory.proofs.Blocks.{message-length}
use Rattle.page_theory.proofs.Demand2.{write-blocks}
use Rattle.piece_rules.specs.declared.State.{State}
use Rattle.piece_parity.specs.Carried.{bits_of}
use Rattle.piece_states.specs.State.{state_of}
use Rattle.piece_states.specs.Calls as calls
use Rattle.piece_rules.specs.Rules.{start_reply}
use Rattle.piece_states.specs.Calls.{answered}
use Rattle.pieces.specs.Cutting.{joined, parity_in}
use Rattle.piece_rules.proofs.Replies.{reply-plain, reply-right}
use Rattle.pieces.proofs.Cutting.{cutting, parity-last}
use Rattle.pieces_page.specs.InPieces.{InPieces, finished}

-- ---- an accepted layout

module _ (f : Fields) (k : Keeps f (plan_for f)) where
  level-low : (b : ℕ) → b < (plan_for f).blocks → level (plan_for f) b ≤ 2 * highest f.edition
  unfolding shape plan_for shape_of shape_with
  level-low zero h = omega (arith, k.levels)
  level-low (suc b) h =
      let n : 0 < f.nblocks = omega arith in
      let e : (plan_for f).later.level ≡ level (plan_for f) (suc b) = ap (λ (s : Shape). s.level) (shape-later (plan_for f) (suc b) (omega arith)) in
      let g : (plan_for f).later.level ≡ 2 * f.later.ecc = ap (λ (s : Shape). s.level) (later-some f n) in
      omega (arith, k.levels-later n)

accepted-low : (rec : Words) (q : Plan) → Accepts (acceptance rec) q → (b : ℕ) → b < q.blocks → level q b ≤ 2 * highest rec.edition
unfolding fields_under fields_at
accepted-low rec q a b h =
    let e = a.plan ∙ accepted-plan rec a.layout a.accepted in
    rw e (level-low (fields_in rec) (keeps (fields_in rec) _ (accepted-kept rec a.layout a.accepted)) b (rw e at h))

-- ---- the law

module _ (rec : Words) (q : Plan) (accepted : Accepts (acceptance rec) q) (m d page : List ℕ) (payload : Payload q m d) (lent : length page ≡ q.size)
    (b : ℕ) (inside : b < q.blocks) (ecc : ℕ) (ps : List (List ℕ)) (given : InPieces q (m ++ d) b ecc ps) where
  low : ecc ≤ highest rec.edition
  low = let h = accepted-low rec q accepted b inside in omega (arith, given.twice)

  known : offered rec.edition ≡ true
  known = (accepted-taken rec accepted.layout accepted.accepted).edition

  size : 8 * length (joined ps) ≡ bits q b
  unfolding bits_of
  size = sym (run_length (bit_of (joined ps)) 0 (8 * length (joined ps))) ∙ ap length given.bits ∙ message-length q (m ++ d) b

  -- a start accepts the block
  right : start_reply rec.edition (field q b) ecc (length (joined ps)) ≡ 0
  right = let v = accepted.valid in let c = v.sums b in let t = given.twice in let n = size in let f = v.filled b inside in elim (dec_lt 0 ecc) [
    | no h ↦ sym (reply-plain rec.edition (field q b) ecc (length (joined ps)) low (omega arith) (omega arith))
    | yes h ↦ (let s = v.short b inside (omega arith) in
        let e : degree (field q b) * level q b ≡ degree (field q b) * (2 * ecc) = ap (λ x. degree (field q b) * x) t in
        sym (reply-right rec.edition (field q b) ecc (length (joined ps)) low (omega arith) h (omega arith)))
  ]

  -- what stands in the stream of the page after the message
  stands : run (stream_bit q.mark (write_of rec m d page).page) (start q b + bits q b) (degree (field q b) * level q b)
      ≡ parity (field q b) (level q b) (message q (m ++ d) b)
  unfolding block_word
  stands =
      sym (drop_at (run (stream_bit q.mark (write_of rec m d page).page) (start q b) (bits q b)) _ (bits q b) (run_length _ _ _))
      ∙ ap (drop (bits q b)) (sym (ap (run (stream_bit q.mark (write_of rec m d page).page) (start q b)) (accepted.valid.sums b)
      ∙ run-append (stream_bit q.mark (write_of rec m d page).page) (start q b) (bits q b) (degree (field q b) * level q b))
      ∙ write-blocks (acceptance rec) q accepted m d page payload lent b inside)
      ∙ drop_at (message q (m ++ d) b) _ (bits q b) (message-length q (m ++ d) b)

  module _ (s : State) (buffer : List ℕ) (room : length buffer ≡ bytes_for (degree (field q b) * level q b)) where
    ended : finished s rec.edition (field q b) ecc ps buffer
        ≡ calls.finished (answered 0 (state_of (field q b) ecc (length (joined ps)) (joined ps))) (parity_in (field q b) (2 * ecc) (joined ps))
    unfolding finished
    ended = cutting rec.edition (field q b) ecc (length (joined ps)) known right s ps buffer refl (rw given.twice at room)

    -- Finishing answers 0, and the last mt bits of the buffer are those that stand in the stream of the page after the message.
    pub pieces-done : (finished s rec.edition (field q b) ecc ps buffer).reply ≡ 0
    pieces-done = rw ended (unfold calls.finished in refl)

    pub parity-after-message : run (bit_of (finished s rec.edition (field q b) ecc ps buffer).parity) (8 * length buffer - degree (field q b) * level q b) (degree (field q b) * level q b)
        ≡ run (stream_bit q.mark (write_of rec m d page).page) (start q b + bits q b) (degree (field q b) * level q b)
    parity-after-message = rw (stands, ended, room, ← given.bits, given.twice) (unfold calls.finished in parity-last (field q b) ecc (joined ps) (omega (arith, low, highest-small rec.edition)))

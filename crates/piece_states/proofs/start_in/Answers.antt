use mathlib.Core.Path.{sym}
use Rattle.std.proofs.lemmas.Result.{err_from_is_err_and}
use Rattle.replies.specs.Replies.{verdict_number}
use Rattle.replies.proofs.Given.{number-positive}
use native.Mathlib.Omega.{arith}
use Rattle.piece_states.proofs.Starting.{state-start}
use Rattle.piece_states.proofs.Replies.{start-refused, start-done}
use Rattle.piece_states.proofs.start_in.Goals as goal

pub returns-in_err-start_reply : goal.returns-in_err-start_reply
unfolding verdict_number
returns-in_err-start_reply c = let p = err_from_is_err_and c.from_residual.result c.from_residual.ensures.1 in
    rw (p.1, p.2) (start-refused _ _ _ _ _ c.in_err-start_reply.ensures (λ z. omega (arith, number-positive c.in_err-start_reply.field-0.0)))

pub returns : goal.returns
unfolding verdict_number
returns c = start-done _ _ _ _ _ (sym c.in_ok-start_reply.ensures) (state-start _ _ _ c.choice_of.ensures)

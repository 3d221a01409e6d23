use mathlib.Core.Path.{sym}
use Rattle.std.proofs.lemmas.Result.{err_from_is_err_and}
use Rattle.replies.specs.Replies.{verdict_number}
use Rattle.replies.proofs.Given.{number-positive}
use native.Mathlib.Omega.{arith}
use Rattle.piece_rules.proofs.Replies.{finish-room}
use Rattle.piece_states.proofs.Replies.{finish-refused, finish-done}
use Rattle.piece_states.proofs.finish_in.Goals as goal

pub returns-in_err-finish_reply : goal.returns-in_err-finish_reply
unfolding verdict_number
returns-in_err-finish_reply c = let p = err_from_is_err_and c.from_residual.result c.from_residual.ensures.1 in
    rw (p.1, p.2) (finish-refused _ _ _ c.in_err-finish_reply.ensures (λ z. omega (arith, number-positive c.in_err-finish_reply.field-0.0)))

pub to_bytes-requires : goal.to_bytes-requires
unfolding verdict_number
to_bytes-requires c = finish-room _ _ _ (sym c.in_ok-finish_reply.ensures)

pub returns : goal.returns
unfolding verdict_number
returns c = finish-done _ _ _ (sym c.in_ok-finish_reply.ensures) c.to_bytes.ensures

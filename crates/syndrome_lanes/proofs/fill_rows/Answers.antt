use native.Mathlib.Omega.{arith}
use Rattle.syndrome_lanes.proofs.Rows.{filled-fewer}
use Rattle.syndrome_lanes.proofs.fill_rows.Goals as goal

pub returns-then-t-le16 : goal.returns-then-t-le16
returns-then-t-le16 c = filled-fewer (omega arith) c.fill_lanes.ensures

pub returns : goal.returns
returns c = filled-fewer (omega arith) c.fill_lanes-2.ensures

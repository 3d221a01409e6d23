use native.Mathlib.Omega.{arith}
use Rattle.syndrome_lanes.proofs.Rows.{scanned-fewer}
use Rattle.syndrome_lanes.proofs.add_digit_fixed.Goals as goal

pub returns-then-t-le16 : goal.returns-then-t-le16
returns-then-t-le16 c = scanned-fewer (omega arith) c.add_digit.ensures

pub returns : goal.returns
returns c = scanned-fewer (omega arith) c.add_digit-2.ensures

use native.Mathlib.Omega.{arith}
use Rattle.rudderfig.proofs.Locating.{locate-few, located-size, locate-done, locate-refused}
use Rattle.rudderfig.proofs.rudderfig_locate_errors.Goals as goal

pub overflow_cast-count : goal.overflow_cast-count
overflow_cast-count c = let few = located-size _ c.locate_errors.ensures c.in-Ok.is (locate-few _ _ _ _ _ _) in
    omega arith

pub returns-in-Ok : goal.returns-in-Ok
returns-in-Ok c = locate-done _ c.locate_errors.ensures c.in-Ok.is c.done.ensures

pub returns-in-Err : goal.returns-in-Err
returns-in-Err c = locate-refused _ c.locate_errors.ensures c.in-Err.is c.refused_by.ensures

use Rattle.division_table.proofs.Filling.{wide-last}
use Rattle.division.proofs.feed.finish_run.Goals as goal

pub finish-requires : goal.finish-requires
finish-requires c = let e = c.if-used-eq4.true in
    (rw e at c.requires.0, rw e at c.requires.1)

pub returns-then-used-eq4 : goal.returns-then-used-eq4
returns-then-used-eq4 c = rw c.if-used-eq4.true c.finish.ensures

pub finish-requires-then-used-eq10 : goal.finish-requires-then-used-eq10
finish-requires-then-used-eq10 c = let e = c.if-used-eq10.true in
    (rw e at c.requires.0, rw e at c.requires.1)

pub returns-then-used-eq10 : goal.returns-then-used-eq10
returns-then-used-eq10 c = rw c.if-used-eq10.true c.finish-then-used-eq10.ensures

pub finish-requires-2 : goal.finish-requires-2
finish-requires-2 c = let p = c.requires in
    let e = wide-last p.0.wide c.if-used-eq4.false c.if-used-eq10.false in
    (rw e at p.0, rw e at p.1)

pub returns : goal.returns
returns c = let e = wide-last c.requires.0.wide c.if-used-eq4.false c.if-used-eq10.false in
    rw e c.finish-2.ensures

use Rattle.division_table.proofs.Filling.{wide-last}
use Rattle.division.proofs.feed.feed_few_words.Goals as goal

pub feed_wide-requires : goal.feed_wide-requires
feed_wide-requires c = let e = c.if-used-eq4.true in
    (rw e at c.requires.0, rw e at c.requires.1, c.requires.2, c.requires.3)

pub returns-then-used-eq4 : goal.returns-then-used-eq4
returns-then-used-eq4 c = rw c.if-used-eq4.true c.feed_wide.ensures

pub feed_wide-requires-then-used-eq10 : goal.feed_wide-requires-then-used-eq10
feed_wide-requires-then-used-eq10 c = let e = c.if-used-eq10.true in
    (rw e at c.requires.0, rw e at c.requires.1, c.requires.2, c.requires.3)

pub returns-then-used-eq10 : goal.returns-then-used-eq10
returns-then-used-eq10 c = rw c.if-used-eq10.true c.feed_wide-then-used-eq10.ensures

pub feed_wide-requires-2 : goal.feed_wide-requires-2
feed_wide-requires-2 c = let p = c.requires in
    let e = wide-last p.0.wide c.if-used-eq4.false c.if-used-eq10.false in
    (rw e at p.0, rw e at p.1, p.2, p.3)

pub returns : goal.returns
returns c = let e = wide-last c.requires.0.wide c.if-used-eq4.false c.if-used-eq10.false in
    rw e c.feed_wide-2.ensures

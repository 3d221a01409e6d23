use mathlib.Core.Path.{◌∙◌}
use Rattle.division_table.proofs.Filling.{wide-last}
use Rattle.bitwise_division.proofs.bits_taken_fixed.Goals as goal

pub bits_taken-requires : goal.bits_taken-requires
bits_taken-requires c = let p = c.requires in
    let e = c.if-used-eq4.true in
    (rw e at p.0, rw e at p.1, p.2)

pub returns-then-used-eq4 : goal.returns-then-used-eq4
returns-then-used-eq4 c = c.bits_taken.ensures ∙ rw c.if-used-eq4.true

pub bits_taken-requires-then-used-eq10 : goal.bits_taken-requires-then-used-eq10
bits_taken-requires-then-used-eq10 c = let p = c.requires in
    let e = c.if-used-eq10.true in
    (rw e at p.0, rw e at p.1, p.2)

pub returns-then-used-eq10 : goal.returns-then-used-eq10
returns-then-used-eq10 c = c.bits_taken-then-used-eq10.ensures ∙ rw c.if-used-eq10.true

pub bits_taken-requires-2 : goal.bits_taken-requires-2
bits_taken-requires-2 c = let p = c.requires in
    let e = wide-last p.0 c.if-used-eq4.false c.if-used-eq10.false in
    (rw e at p.0, rw e at p.1, p.2)

pub returns : goal.returns
returns c = let e = wide-last c.requires.0 c.if-used-eq4.false c.if-used-eq10.false in
    c.bits_taken-2.ensures ∙ rw e

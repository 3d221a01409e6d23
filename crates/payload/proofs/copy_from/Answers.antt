use native.Mathlib.Omega.{arith}
use lib.ListN.{length-append}
use Rattle.payload.proofs.Payload.{payload-data, payload-metadata, payload-both}
use borrow.Author.Rules.{rules}
use Rattle.payload.proofs.copy_from.Goals as goal

pub copy_bits-requires : goal.copy_bits-requires
copy_bits-requires c = let l = length-append c.args.metadata.now c.args.«data».now in
    (record { ends = omega arith; fits = omega arith }, c.requires.2)

pub returns-then-split-at : goal.returns-then-split-at
returns-then-split-at c = let a = c.args in
    payload-data a.metadata.now a.«data».now a.page.now a.at a.position a.n (search rules) c.copy_bits.ensures

pub returns-then-at-n : goal.returns-then-at-n
returns-then-at-n c = let a = c.args in
    payload-metadata a.metadata.now a.«data».now a.page.now a.at a.position a.n (search rules) c.copy_bits-then-at-n.ensures

pub copy_bits-requires-3 : goal.copy_bits-requires-3
copy_bits-requires-3 c = let l = length-append c.args.metadata.now c.args.«data».now in
    (record { ends = omega arith; fits = omega arith }, record { ends = omega arith; fits = omega arith })

pub returns : goal.returns
returns c = let a = c.args in
    payload-both a.metadata.now a.«data».now a.page.now a.at a.position a.n (omega arith) (omega arith)
    c.copy_bits-2.ensures c.copy_bits-3.ensures

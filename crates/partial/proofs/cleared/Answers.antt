use Prim.Native.Nat.{ℕ, ◌<◌, ◌+◌, ◌-◌, ◌*◌, ◌/◌, ◌%◌, ◌^◌}
use mathlib.Core.Path.{◌≡◌, refl, ap, ◌∙◌}
use native.Mathlib.Omega.{arith}
use borrow.Author.Rules.{rules}
use lib.ListN.{length, get_or}
use Rattle.code.specs.Register.{register}
use Rattle.remainder.proofs.Words.{Words}
use Rattle.wide.proofs.Bytes.{Bytes}
use Rattle.table_rows.specs.Rows.{row_bytes}
use Rattle.partial.specs.Clearing.{row_words}
use Rattle.partial.proofs.Turns.{row_room, top-word, added-below, turn_below, turn-same}
use Rattle.partial.proofs.cleared.Goals as goal

pub overflow_mul-size : goal.overflow_mul-size
overflow_mul-size c = let n = c.row_size.result in
    let v : ℕ = c.args.first + get_or c.args.state.words c.args.used 0 / 2 ^ (8 * c.args.b + c.args.k) % 16 in
    let m = row_room n v c.row_bytes-size.ensures c.row_size.ensures.2 (omega arith) in
    record { fits = omega arith }

pub overflow_add-size : goal.overflow_add-size
overflow_add-size c = let n = c.row_size.result in
    let v : ℕ = c.args.first + get_or c.args.state.words c.args.used 0 / 2 ^ (8 * c.args.b + c.args.k) % 16 in
    let m = row_room n v c.row_bytes-size.ensures c.row_size.ensures.2 (omega arith) in
    record { fits = omega arith }

pub row_added-requires : goal.row_added-requires
row_added-requires c = let n = c.row_size.result in
    let v : ℕ = c.args.first + get_or c.args.state.words c.args.used 0 / 2 ^ (8 * c.args.b + c.args.k) % 16 in
    let m = row_room n v c.row_bytes-size.ensures c.row_size.ensures.2 (omega arith) in
    let e : 64 * (c.args.used + 1) ≡ 64 * c.args.used + 64 = omega arith in
    (omega arith, omega arith, rw e c.requires.6)

pub returns : goal.returns
returns c = let u = c.args.used in
    let b = c.args.b in
    let k = c.args.k in
    let first = c.args.first in
    let ws = c.args.state.words in
    let bytes = c.args.table.now in
    let hb : Bytes bytes = λ j. (c.shared_slice_known-1.given j).fits in
    let len : length ws ≡ 15 = search rules in
    let hw : Words ws = λ j. search rules in
    let top = top-word ws hw u (omega arith) c.requires.6 in
    let size : c.row_bytes-size.result ≡ row_bytes (row_words u) = c.row_bytes-size.ensures ∙ ap row_bytes c.row_size.ensures.0 in
    let room : u < row_words u = rw (← c.row_size.ensures.0) c.row_size.ensures.1 in
    let place = ap (λ z. z * (first + get_or ws u 0 / 2 ^ (8 * b + k) % 16) + 8 - b) size in
    let sum = c.row_added.ensures in (
      added-below bytes hb u (c.row_bytes-size.result * (first + get_or ws u 0 / 2 ^ (8 * b + k) % 16) + 8 - b) c.requires.6 sum,
      λ g rows monic ek ef h. (
        turn_below bytes hb u g c.requires.0 (row_words u) room rows monic (register ws) b k first c.requires.2 c.requires.3 ek ef h top refl place sum,
        turn-same bytes hb u g c.requires.0 (row_words u) room rows monic (register ws) b k first c.requires.2 c.requires.3 ek ef h top refl place sum,
      ),
    )

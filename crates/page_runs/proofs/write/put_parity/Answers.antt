use native.Mathlib.Omega.{arith}
use Rattle.page_runs.proofs.Puts.{put-before-digits, put-word-digits}
use Rattle.page_runs.proofs.write.put_parity.Goals as goal

pub returns-then-first-degree : goal.returns-then-first-degree
returns-then-first-degree c = let a = c.args in
    put-before-digits a.mark a.page.now a.position a.degree c.near-first.ensures _ c.if-first-degree.true c.place_parity.ensures

pub returns : goal.returns
returns c = let a = c.args in
    put-word-digits a.mark a.page.now a.position a.degree _ _ (omega arith) c.place_parity-2.ensures c.put_word.ensures

-- A version that a store holds (document 02, E11).
--
-- Names s v w q        at the state s the version v is the layout of the words w, which are accepted and have the plan q
use Rattle.std.specs.Prelude.{◌≡◌, ℕ, Some}
use Rattle.layout_plan.specs.declared.Plan.{Plan}
use Rattle.layout_plan.specs.Record.{Words}
use Rattle.layout.specs.Acceptance.{acceptance}
use Rattle.page_theory.specs.Damage.{Accepts}
use Rattle.version_list.specs.declared.Numbered.{Numbered}
use Rattle.version_list.specs.Plain.{Listed, find}
use Rattle.store_runs.specs.Runs.{version_of}

pub record Names (s : Listed) (v : ℕ) (w : Words) (q : Plan) : Type 0 where
  pub entry : Numbered
  pub found : find s.layouts v ≡ Some entry
  pub plan : entry.plan ≡ q
  pub edition : entry.edition ≡ w.edition
  pub accepts : Accepts (acceptance w) q
  pub answer : version_of s v ≡ acceptance w

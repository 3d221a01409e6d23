use mathlib.Core.Path.{◌≡◌, refl}
use Rattle.std.specs.Prelude.{Err}
use Rattle.std.proofs.Common.{rules}
use Rattle.fragment_trips.proofs.Trips.{export-import-refused, export-import-done}
use Rattle.fragment_trips.proofs.export_import.Goals as goal

pub returns : goal.returns
returns c = let known = c.shared_slice_known-1.given in
    export-import-done _ _ _ _ _ c.export_fragments.ensures c.in_ok-export_fragments.was _ _ (record { count = refl; small = λ i. (known i).fits }) c.import_fragments.ensures

pub returns-in_err-export_fragments : goal.returns-in_err-export_fragments
returns-in_err-export_fragments c = let e : c.from_residual.result ≡ Err c.in_err-export_fragments.field-0.0 = search rules in
    rw e (export-import-refused _ _ _ _ _ c.export_fragments.ensures (search rules))

use mathlib.Core.Path.{◌≡◌}
use Rattle.std.specs.Prelude.{Err}
use Rattle.std.proofs.Common.{rules}
use Rattle.fragment_trips.proofs.Trips.{import-export-refused, import-export-done}
use Rattle.fragment_trips.proofs.import_export.Goals as goal

pub returns : goal.returns
returns c = let known = c.shared_slice_known-1.given in
    import-export-done _ _ _ _ _ c.import_fragments.ensures c.in_ok-import_fragments.was _ _ (λ i. (known i).fits) c.export_fragments.ensures

pub returns-in_err-import_fragments : goal.returns-in_err-import_fragments
returns-in_err-import_fragments c = let e : c.from_residual.result ≡ Err c.in_err-import_fragments.field-0.0 = search rules in
    rw e (import-export-refused _ _ _ _ _ c.import_fragments.ensures (search rules))

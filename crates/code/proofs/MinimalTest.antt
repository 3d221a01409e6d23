-- Computed: the two lists are the minimal polynomials of a, a^3, .., a^123.
use Prim.Native.Nat.{ℕ, suc, ◌+◌, ◌<◌}
use lib.ListN.{get_or}
use lib.Dec.{T}
use Rattle.field.specs.declared.Field.{Field}
use Rattle.field.specs.declared.Field.TheVariants.{Thirteen, Fourteen}
use Rattle.field.specs.Field.{degree}
use Rattle.field.proofs.Fast.{fast_x, reduce}
use Rattle.code.specs.Generator.{minimals, minimals13, minimals14}
use Rattle.code.proofs.Minimal.{Minimal, times_a, stepped, strided, is_minimal, all_minimal, tested}

test13 : T (all_minimal Thirteen 1845 (stepped (times_a Thirteen) 1845 1) 0 minimals13)
unfolding all_minimal is_minimal strided stepped times_a fast_x reduce minimals13 degree
test13 = tt

test14 : T (all_minimal Fourteen 1845 (stepped (times_a Fourteen) 1845 1) 0 minimals14)
unfolding all_minimal is_minimal strided stepped times_a fast_x reduce minimals14 degree
test14 = tt

pub minimals-minimal : (f : Field) (i : ℕ) → i < 62 → Minimal f (suc (i + i)) (get_or (minimals f) i 0)
unfolding minimals
minimals-minimal Thirteen i h = tested Thirteen 1845 minimals13 test13 i (unfold minimals13 in h)
minimals-minimal Fourteen i h = tested Fourteen 1845 minimals14 test14 i (unfold minimals14 in h)

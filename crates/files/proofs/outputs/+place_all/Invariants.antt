use Rattle.std.proofs.Common.{length}
use Rattle.files.proofs.outputs.+place_all.Given as goal

abbrev pub decreases-place_all : goal.decreases-place_all
decreases-place_all g l = length l.paths.now

use Rattle.std.proofs.Common.{◌<◌, ◌≤◌}
use Rattle.splitting.proofs.common.Given as goal

abbrev pub invariant-loop-short : goal.invariant-loop-short
invariant-loop-short l = (l.side ≤ 64) × (0 < l.long) × (l.long ≤ 64) × (l.short ≤ 64)

abbrev pub decreases-loop-short : goal.decreases-loop-short
decreases-loop-short l = l.short

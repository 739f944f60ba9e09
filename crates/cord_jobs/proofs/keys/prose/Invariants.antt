use Rattle.std.proofs.Common.{◌-◌, vec_len}
use Rattle.cord_jobs.proofs.keys.prose.Given as goal

abbrev pub decreases-loop-text : goal.decreases-loop-text
decreases-loop-text l = l.len - vec_len l.text

use Rattle.std.proofs.Common.{◌≡◌, take}
use Rattle.saved_session.proofs.taking.listed_rows.Given as goal

abbrev pub invariant-loop-j : goal.invariant-loop-j
invariant-loop-j g l = l.listed.items ≡ take l.j (g.R.Rows.listed l.rows)

use Rattle.std.proofs.Common.{length}
use Rattle.std.specs.Option.{option_copied}
use Rattle.psm_table.specs.Evaluator.{test_of}
use Rattle.psm_tablecode.specs.Codes.{over}
use Rattle.psm_cursor.proofs.Meeting.{Meeting}
use Rattle.psm_cursor.proofs.walking.met_past.Given as goal

abbrev pub invariant-rows : goal.invariant-rows
invariant-rows l = Meeting l.table.contents (test_of (over l.vars) l.query.test) l.query.downward (option_copied l.key) l.rows

abbrev pub decreases-rows : goal.decreases-rows
decreases-rows l = length l.rows

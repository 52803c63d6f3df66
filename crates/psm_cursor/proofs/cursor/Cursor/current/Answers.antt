use Rattle.std.proofs.Common.{sym, ◌∙◌}
use Rattle.psm_cursor.proofs.Standing.{current_found}
use Rattle.psm_cursor.proofs.cursor.Cursor.current.Goals as goal

pub returns-in-Some-clause-row : goal.returns-in-Some-clause-row
returns-in-Some-clause-row c = c.get.ensures.row ∙ current_found c.args.table.now.contents c.args.self.now c.in-Some.key.now (sym c.in-Some.ensures)

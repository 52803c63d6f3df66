use Rattle.psm_table.proofs.Undo.{hidden-inserted, revived-hidden, revived-swapped}
use Rattle.psm_table.proofs.laws.undo_laws.Goals as goal

pub returns-clause-inserted : goal.returns-clause-inserted
returns-clause-inserted c = hidden-inserted

pub returns-clause-erased : goal.returns-clause-erased
returns-clause-erased c = revived-hidden

pub returns-clause-changed : goal.returns-clause-changed
returns-clause-changed c = revived-swapped

use Rattle.psm_table.proofs.Deleting.{ended_legal}
use Rattle.psm_table.proofs.Leaving.{deleted_at_legally}
use Rattle.psm_table.proofs.Legal.{legal_deleted, legal_deleted_at, legal_inserted, legal_updated, legal_updated_at}
use Rattle.psm_table.proofs.laws.statements_leave_legal_tables.Goals as goal

pub returns-clause-inserted : goal.returns-clause-inserted
returns-clause-inserted c = legal_inserted

pub returns-clause-updated : goal.returns-clause-updated
returns-clause-updated c = legal_updated

pub returns-clause-deleted : goal.returns-clause-deleted
returns-clause-deleted c = legal_deleted

pub returns-clause-updated_at : goal.returns-clause-updated_at
returns-clause-updated_at c = legal_updated_at

pub returns-clause-deleted_at : goal.returns-clause-deleted_at
returns-clause-deleted_at c = λ plain schema. legal_deleted_at plain plain schema

pub returns-clause-unchanged : goal.returns-clause-unchanged
returns-clause-unchanged c = ended_legal

pub returns-clause-left : goal.returns-clause-left
returns-clause-left c = deleted_at_legally

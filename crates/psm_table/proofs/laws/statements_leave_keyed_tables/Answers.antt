use Rattle.psm_table.proofs.Legal.{keyed_deleted, keyed_deleted_at, keyed_inserted, keyed_updated, keyed_updated_at}
use Rattle.psm_table.proofs.laws.statements_leave_keyed_tables.Goals as goal

pub returns-clause-inserted : goal.returns-clause-inserted
returns-clause-inserted c = keyed_inserted

pub returns-clause-updated : goal.returns-clause-updated
returns-clause-updated c = keyed_updated

pub returns-clause-deleted : goal.returns-clause-deleted
returns-clause-deleted c = keyed_deleted

pub returns-clause-updated_at : goal.returns-clause-updated_at
returns-clause-updated_at c = keyed_updated_at

pub returns-clause-deleted_at : goal.returns-clause-deleted_at
returns-clause-deleted_at c = keyed_deleted_at

use Rattle.psm_table.proofs.Keyless.{deleted_apart, deleted_at_apart, inserted_apart, updated_apart, updated_at_apart}
use Rattle.psm_table.proofs.laws.foreign_keys_come_last.Goals as goal

pub returns-clause-inserted : goal.returns-clause-inserted
returns-clause-inserted c = inserted_apart

pub returns-clause-updated : goal.returns-clause-updated
returns-clause-updated c = updated_apart

pub returns-clause-deleted : goal.returns-clause-deleted
returns-clause-deleted c = deleted_apart

pub returns-clause-updated_at : goal.returns-clause-updated_at
returns-clause-updated_at c = updated_at_apart

pub returns-clause-deleted_at : goal.returns-clause-deleted_at
returns-clause-deleted_at c = deleted_at_apart

use Rattle.psm_table.proofs.UniqueLaws.{unique-kept, unique-none}
use Rattle.psm_table.proofs.laws.unique_laws.Goals as goal

pub returns-clause-none : goal.returns-clause-none
returns-clause-none c = unique-none

pub returns-clause-kept : goal.returns-clause-kept
returns-clause-kept c = unique-kept

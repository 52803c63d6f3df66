use Rattle.psm_names.proofs.ForeignKeys.{foreign_keys-resolved}
use Rattle.psm_names.proofs.Keys.{keys-resolved, uniques-resolved}
use Rattle.psm_names.proofs.laws.names_in_keys_are_resolved.Goals as goal

pub returns-clause-keys : goal.returns-clause-keys
returns-clause-keys c = keys-resolved

pub returns-clause-uniques : goal.returns-clause-uniques
returns-clause-uniques c = uniques-resolved

pub returns-clause-foreign_keys : goal.returns-clause-foreign_keys
returns-clause-foreign_keys c = foreign_keys-resolved

use Rattle.psm_table.proofs.Keying.{added_are_referred, keys_elsewhere, referring}
use Rattle.psm_table.proofs.laws.tests_of_foreign_keys.Goals as goal

pub returns-clause-elsewhere : goal.returns-clause-elsewhere
returns-clause-elsewhere c = keys_elsewhere

pub returns-clause-added : goal.returns-clause-added
returns-clause-added c = added_are_referred

pub returns-clause-referring : goal.returns-clause-referring
returns-clause-referring c = referring

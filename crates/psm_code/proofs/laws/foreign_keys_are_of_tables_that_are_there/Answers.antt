use Rattle.psm_code.proofs.KeysOfTables.{keys_are_of_tables, kept_definitions}
use Rattle.psm_code.proofs.laws.foreign_keys_are_of_tables_that_are_there.Goals as goal

pub returns : goal.returns
returns c = record {
  keys = keys_are_of_tables;
  definitions = λ code tables h. kept_definitions code.tables tables h;
}

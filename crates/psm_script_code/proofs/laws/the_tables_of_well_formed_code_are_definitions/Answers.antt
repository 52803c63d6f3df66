use Rattle.psm_script_code.proofs.CodeTables.{code_definitions}
use Rattle.psm_script_code.proofs.laws.the_tables_of_well_formed_code_are_definitions.Goals as goal

pub returns : goal.returns
returns c = code_definitions

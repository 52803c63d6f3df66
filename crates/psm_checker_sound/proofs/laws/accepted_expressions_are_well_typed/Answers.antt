use Rattle.psm_checker_sound.proofs.Clauses.{on_rows, outside_of_rows, queries}
use Rattle.psm_checker_sound.proofs.laws.accepted_expressions_are_well_typed.Goals as goal

pub returns : goal.returns
returns c = record { outside_of_rows = outside_of_rows; on_rows = on_rows; queries = queries }

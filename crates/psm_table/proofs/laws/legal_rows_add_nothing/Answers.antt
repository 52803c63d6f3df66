use Rattle.psm_table.proofs.Checks.{passing_rows}
use Rattle.psm_table.proofs.Rules.{keep-new}
use Rattle.psm_table.proofs.Legal.{legal_passes}
use Rattle.psm_table.proofs.laws.legal_rows_add_nothing.Goals as goal

pub returns-clause-checks : goal.returns-clause-checks
returns-clause-checks c = λ ev schema old new h. passing_rows ev schema.checks schema.def.key old new (legal_passes ev schema old h)

pub returns-clause-rules : goal.returns-clause-rules
returns-clause-rules c = keep-new

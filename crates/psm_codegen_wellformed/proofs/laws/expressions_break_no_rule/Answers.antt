use Rattle.psm_codegen_wellformed.proofs.Sources.{operand-well_formed, source-well_formed}
use Rattle.psm_codegen_wellformed.proofs.laws.expressions_break_no_rule.Goals as goal

pub returns : goal.returns
returns c = record { sources = source-well_formed; operands = operand-well_formed }

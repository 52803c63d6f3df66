use Rattle.psm_codegen_wellformed.proofs.CodeWellFormed.{code-well_formed}
use Rattle.psm_codegen_wellformed.proofs.laws.written_code_is_well_formed.Goals as goal

pub returns : goal.returns
returns c = record { files = code-well_formed }

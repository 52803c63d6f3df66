use Rattle.psm_codegen_wellformed.proofs.CodeWellFormed.{letters-kept}
use Rattle.psm_codegen_wellformed.proofs.laws.written_code_keeps_letters.Goals as goal

pub returns : goal.returns
returns c = record { routines = letters-kept }

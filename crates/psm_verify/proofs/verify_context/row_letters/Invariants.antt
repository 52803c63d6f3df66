use Rattle.std.proofs.Common.{◌≡◌, take, map}
use Rattle.psm_code.specs.Instructions.{end_letter}
use Rattle.psm_verify.proofs.verify_context.row_letters.Given as goal

abbrev pub invariant-loop-code : goal.invariant-loop-code
invariant-loop-code l = l.letters.items ≡ map (end_letter l.columns l.variables) (take l.code-index l.codes)

use Rattle.psm_exprcode.specs.Kinds.{letter_of}
use Rattle.psm_codegen.specs.FileKnown.{passes}
use Rattle.psm_codegen.proofs.Gathers.{Picks}
use Rattle.psm_codegen.proofs.routines.letters_of.Given as goal

abbrev pub invariant-loop-parameter : goal.invariant-loop-parameter
invariant-loop-parameter l = Picks (λ p. passes l.back p.mode) (λ p. letter_of p.kind) l.parameter-items l.parameter-index l.letters.items

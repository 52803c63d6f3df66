use Rattle.std.proofs.Common.{◌≡◌, take, map}
use Rattle.psm_codegen.specs.FileKnown.{passes}
use Rattle.psm_codegen.specs.Files.{letters_of}
use Rattle.psm_codegen.proofs.routines.all_letters.Given as goal

abbrev pub invariant-loop-routine : goal.invariant-loop-routine
invariant-loop-routine l = l.letters.items ≡ map (letters_of (passes l.back)) (take l.routine-index l.routine-items)

use Rattle.std.proofs.Common.{◌≡◌, take, map}
use Rattle.psm_exprcode.specs.Kinds.{letter_of}
use Rattle.psm_codegen.proofs.routines.slot_letters.Given as goal

abbrev pub invariant-loop-kind : goal.invariant-loop-kind
invariant-loop-kind l = l.letters.items ≡ map letter_of (take l.kind-index l.kind-items)

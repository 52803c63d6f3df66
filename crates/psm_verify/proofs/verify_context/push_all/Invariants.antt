use Rattle.std.proofs.Common.{◌≡◌, ◌++◌, take, map}
use Rattle.psm_exprcode.specs.Kinds.{letter_of}
use Rattle.psm_verify.proofs.verify_context.push_all.Given as goal

abbrev pub invariant-loop-kind : goal.invariant-loop-kind
invariant-loop-kind l = l.letters.items ≡ l.fn.letters.items ++ map letter_of (take l.kind-index l.kinds)

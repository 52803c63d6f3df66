use Rattle.std.proofs.Common.{arith, sym}
use Rattle.psm_exprcode.specs.Kinds.{letter_of}
use Rattle.psm_resolved.specs.declared.file.ResolvedParameter.{ResolvedParameter}
use Rattle.psm_codegen.specs.FileKnown.{passes}
use Rattle.psm_codegen.proofs.Gathers.{picks_all, picks_next}
use Rattle.psm_codegen.proofs.routines.letters_of.Goals as goal

pub loop-parameter-preserved : goal.loop-parameter-preserved
loop-parameter-preserved c =
    picks_next (λ (p : ResolvedParameter). passes c.args.back p.mode) (λ p. letter_of p.kind) c.items-parameter-items.result.now c.loop-parameter.parameter-index c.parameter-item.result c.loop-parameter.letters.items c.push_letter.new.letters.items
    (omega arith) c.parameter-item.is c.in_ok-push_letter.ensures c.loop-parameter.invariant

pub returns : goal.returns
returns c =
    picks_all (λ (p : ResolvedParameter). passes c.args.back p.mode) (λ p. letter_of p.kind) c.items-parameter-items.result.now c.args.routine.now.parameters c.loop-parameter.parameter-index c.loop-parameter.letters.items c.of.result
    (sym c.items-parameter-items.ensures) (omega arith) c.of.ensures c.loop-parameter.invariant

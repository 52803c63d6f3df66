use Rattle.std.proofs.Common.{ap, ◌∙◌}
use Rattle.psm_exprgen.specs.Written.{letter_at}
use Rattle.psm_exprgen.proofs.Drafts.{one}
use Rattle.psm_codegen.proofs.CallForms.{in_written}
use Rattle.psm_codegen.proofs.DraftCalls.{inout_drafted, out_drafted}
use Rattle.psm_codegen.proofs.calling.call_argument.Goals as goal

pub returns-in_ok-expr-in-In-clause-written : goal.returns-in_ok-expr-in-In-clause-written
returns-in_ok-expr-in-In-clause-written c = one c.in_ok-expr-in-In.ensures (λ σ x. in_written c.get.result.now c.in-In.is c.get.ensures c.letter_at-letter.ensures x)

pub returns-in-Out-clause-written : goal.returns-in-Out-clause-written
returns-in-Out-clause-written c = out_drafted c.in-Out.slot c.in-Out.is

pub returns-in_ok-applied-in-InOut-clause-written : goal.returns-in_ok-applied-in-InOut-clause-written
returns-in_ok-applied-in-InOut-clause-written c = inout_drafted c.in-InOut.slot c.in-InOut.is (c.letter_at-letter-in-InOut.ensures ∙ ap (λ letters. letter_at letters c.in-InOut.slot) c.items.ensures) c.in_ok-applied-in-InOut.ensures

use Rattle.std.proofs.Common.{ap, sym, ◌∙◌}
use Rattle.psm_value.specs.SqlType.{IsType}
use Rattle.psm_code.specs.Parts.{slots_of}
use Rattle.psm_code.specs.Run.{losing}
use Rattle.psm_code.specs.Steps.{Came}
use Rattle.psm_unwind.specs.View.{machine_of}
use Rattle.psm_machine.proofs.ActSequences.{one_of, stopped}
use Rattle.psm_machine.proofs.variables.retrieve.Goals as goal

pub returns-in_err-value-clause-expected : goal.returns-in_err-value-clause-expected
returns-in_err-value-clause-expected c = λ tables at.
    rw (sym c.slot_type.ensures ∙ c.in-Some.is) (stopped _ _ _ c.in_err-value.field-0.0 c.from_residual.result c.from_residual.ensures.1 (c.in_err-value.ensures.expected tables at))

pub fetched-requires : goal.fetched-requires
fetched-requires c = one_of IsType (slots_of c.args.routine.now) c.args.slot c.in-Some.kind c.requires (sym c.slot_type.ensures ∙ c.in-Some.is)

pub returns-in_err-fetched-clause-expected : goal.returns-in_err-fetched-clause-expected
returns-in_err-fetched-clause-expected c = λ tables at.
    rw (sym c.slot_type.ensures ∙ c.in-Some.is, c.in_ok-value.ensures.expected tables at)
    (stopped _ _ _ c.in_err-fetched.field-0.0 c.from_residual-in_err-fetched.result c.from_residual-in_err-fetched.ensures.1 (c.in_err-fetched.ensures (machine_of tables at c.pop.new.run)))

pub returns-clause-expected : goal.returns-clause-expected
returns-clause-expected c = λ tables at.
    rw (sym c.slot_type.ensures ∙ c.in-Some.is, c.in_ok-value.ensures.expected tables at, c.in_ok-fetched.ensures (machine_of tables at c.pop.new.run))
    (ap (λ (came : Came (Unit {0})). losing c.in_ok-fetched.is_cut came.machine) (c.set_variable.ensures.expected tables at) ∙ c.lose.ensures.expected tables at)

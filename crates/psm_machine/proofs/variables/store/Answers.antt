use Rattle.std.proofs.Common.{sym, ◌∙◌}
use Rattle.psm_value.specs.SqlType.{IsType}
use Rattle.psm_code.specs.Parts.{slots_of}
use Rattle.psm_unwind.specs.View.{machine_of}
use Rattle.psm_machine.proofs.ActSequences.{one_of, stopped}
use Rattle.psm_machine.proofs.variables.store.Goals as goal

pub returns-in_err-value-clause-expected : goal.returns-in_err-value-clause-expected
returns-in_err-value-clause-expected c = λ tables at.
    rw (sym c.slot_type.ensures ∙ c.in-Some.is) (stopped _ _ _ c.in_err-value.field-0.0 c.from_residual.result c.from_residual.ensures.1 (c.in_err-value.ensures.expected tables at))

pub stored-requires : goal.stored-requires
stored-requires c = one_of IsType (slots_of c.args.routine.now) c.args.slot c.in-Some.kind c.requires (sym c.slot_type.ensures ∙ c.in-Some.is)

pub returns-in_err-stored-clause-expected : goal.returns-in_err-stored-clause-expected
returns-in_err-stored-clause-expected c = λ tables at.
    rw (sym c.slot_type.ensures ∙ c.in-Some.is, c.in_ok-value.ensures.expected tables at)
    (stopped _ _ _ c.in_err-stored.field-0.0 c.from_residual-in_err-stored.result c.from_residual-in_err-stored.ensures.1 (c.in_err-stored.ensures (machine_of tables at c.pop.new.run)))

pub returns-clause-expected : goal.returns-clause-expected
returns-clause-expected c = λ tables at.
    rw (sym c.slot_type.ensures ∙ c.in-Some.is, c.in_ok-value.ensures.expected tables at, c.in_ok-stored.ensures (machine_of tables at c.pop.new.run)) (c.set_variable-2.ensures.expected tables at)

pub returns-then-is_stored-clause-expected : goal.returns-then-is_stored-clause-expected
returns-then-is_stored-clause-expected c = λ tables at.
    rw (sym c.slot_type.ensures ∙ c.in-Some.is, c.in_ok-value.ensures.expected tables at, (c.storing_is_stable.ensures.exactly c.in-Some.kind c.in_ok-value.value).0 (sym c.is_stored.ensures ∙ c.if-is_stored.true)) (c.set_variable.ensures.expected tables at)

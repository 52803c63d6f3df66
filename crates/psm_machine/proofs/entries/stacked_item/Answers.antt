use Rattle.std.proofs.Common.{◌≡◌, Bool, Some, true, false, arith, ap, reverse, ◌∙◌}
use Rattle.psm_code.specs.Rules.{there}
use Rattle.psm_unwind.specs.Actions.{activating_of, stacked_in}
use Rattle.psm_unwind.specs.View.{machine_of}
use Rattle.psm_machine.proofs.ActSequences.{stopped}
use Rattle.psm_machine.proofs.Numbering.{item_in, item_next}
use Rattle.psm_machine.proofs.StackedArea.{condition_of, stuck_at_area, none_there, some_there}
use Rattle.psm_machine.proofs.entries.stacked_item.Goals as goal

pub returns-then-not-runs_action-clause-expected : goal.returns-then-not-runs_action-clause-expected
returns-then-not-runs_action-clause-expected c = λ tables at.
    let none : there (stacked_in c.args.run.now) ≡ false = grind (arith, c.runs_action.ensures, c.if-not-runs_action.true) in
    stuck_at_area tables at c.args.run.now (Unit {0}) (λ a. item_in a c.args.item) c.stop_at.result (none_there (stacked_in c.args.run.now) none) c.stop_at.ensures

pub returns-in_err-number-clause-expected : goal.returns-in_err-number-clause-expected
returns-in_err-number-clause-expected c = λ tables at.
    let there_is : there (stacked_in c.args.run.now) ≡ true = grind (arith, c.runs_action.ensures, c.if-not-runs_action.false) in
    let area = some_there (stacked_in c.args.run.now) there_is in
    rw (condition_of tables at c.args.run.now c.args.item area.0 area.1)
    (stopped _ _ _ c.in_err-number.field-0.0 c.from_residual.result c.from_residual.ensures.1 (c.in_err-number.ensures.expected tables at))

pub returns-in_err-value-clause-expected : goal.returns-in_err-value-clause-expected
returns-in_err-value-clause-expected c = λ tables at.
    let there_is : there (stacked_in c.args.run.now) ≡ true = grind (arith, c.runs_action.ensures, c.if-not-runs_action.false) in
    let area = some_there (stacked_in c.args.run.now) there_is in
    let same : stacked_in c.pop.new.run ≡ Some area.0 = ap (λ v. activating_of (reverse v.items)) c.pop.ensures.same.frames ∙ area.1 in
    rw (condition_of tables at c.args.run.now c.args.item area.0 area.1, item_next area.0 c.args.item (machine_of tables at c.args.run.now) (machine_of tables at c.pop.new.run) c.in_ok-number.number (c.in_ok-number.ensures.expected tables at))
    (stopped _ _ _ c.in_err-value.field-0.0 c.from_residual-in_err-value.result c.from_residual-in_err-value.ensures.1 (c.in_err-value.ensures area.0 same (machine_of tables at c.pop.new.run)))

pub returns-clause-expected : goal.returns-clause-expected
returns-clause-expected c = λ tables at.
    let there_is : there (stacked_in c.args.run.now) ≡ true = grind (arith, c.runs_action.ensures, c.if-not-runs_action.false) in
    let area = some_there (stacked_in c.args.run.now) there_is in
    let same : stacked_in c.pop.new.run ≡ Some area.0 = ap (λ v. activating_of (reverse v.items)) c.pop.ensures.same.frames ∙ area.1 in
    rw (condition_of tables at c.args.run.now c.args.item area.0 area.1, item_next area.0 c.args.item (machine_of tables at c.args.run.now) (machine_of tables at c.pop.new.run) c.in_ok-number.number (c.in_ok-number.ensures.expected tables at))
    (rw (c.in_ok-value.ensures area.0 same (machine_of tables at c.pop.new.run)) (c.put.ensures.expected tables at))

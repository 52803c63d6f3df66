use Rattle.std.proofs.Common.{sym, subst}
use Rattle.psm_code.specs.Steps.{Came}
use Rattle.psm_unwind.specs.View.{machine_of}
use Rattle.psm_machine.specs.ActResults.{Evaluates}
use Rattle.psm_machine.proofs.Doing.{other_within}
use Rattle.psm_machine.proofs.performing.within.Goals as goal

pub returns-in-Clear-clause-expected : goal.returns-in-Clear-clause-expected
returns-in-Clear-clause-expected c = λ tables at. rw c.in-Clear.is (c.clear.ensures.expected tables at)

pub returns-in-Store-clause-expected : goal.returns-in-Store-clause-expected
returns-in-Store-clause-expected c = λ tables at. rw c.in-Store.is (c.store.ensures.expected tables at)

pub returns-in-FetchStore-clause-expected : goal.returns-in-FetchStore-clause-expected
returns-in-FetchStore-clause-expected c = λ tables at. rw c.in-FetchStore.is (c.retrieve.ensures.expected tables at)

pub returns-in-Warn-clause-expected : goal.returns-in-Warn-clause-expected
returns-in-Warn-clause-expected c = λ tables at. rw c.in-Warn.is (c.warn.ensures tables at)

pub returns-in-Turn-clause-expected : goal.returns-in-Turn-clause-expected
returns-in-Turn-clause-expected c = λ tables at. rw c.in-Turn.is (c.turn.ensures.expected tables at)

pub returns-in-StatementItem-clause-expected : goal.returns-in-StatementItem-clause-expected
returns-in-StatementItem-clause-expected c = λ tables at. rw c.in-StatementItem.is (c.item_of_statement.ensures.expected tables at)

pub returns-in-ConditionItem-clause-expected : goal.returns-in-ConditionItem-clause-expected
returns-in-ConditionItem-clause-expected c = λ tables at. rw c.in-ConditionItem.is (c.item_of_condition.ensures.expected tables at)

pub returns-in_default : goal.returns-in_default
returns-in_default c = record {
  expected = λ tables at.
      let m = machine_of tables at c.args.run.now in
      subst (λ (x : Came (Unit {0})). Evaluates x c.raise_anew.result (machine_of tables at c.raise_anew.new.run))
      (sym (other_within c.args.routine.now c.args.instruction.now m c.in_default.not-Clear c.in_default.not-Store c.in_default.not-FetchStore c.in_default.not-Warn c.in_default.not-Turn c.in_default.not-NoReturn c.in_default.not-NoCase c.in_default.not-StatementItem c.in_default.not-ConditionItem))
      (c.raise_anew.ensures.expected tables at);
  same = c.raise_anew.ensures.same;
}

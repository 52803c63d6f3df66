use Rattle.psm_machine.proofs.entries.item_of_condition.Goals as goal

pub returns-in-Current-clause-expected : goal.returns-in-Current-clause-expected
returns-in-Current-clause-expected c = λ tables at. rw c.in-Current.is (c.current_item.ensures.expected tables at)

pub returns-in-Stacked-clause-expected : goal.returns-in-Stacked-clause-expected
returns-in-Stacked-clause-expected c = λ tables at. rw c.in-Stacked.is (c.stacked_item.ensures.expected tables at)

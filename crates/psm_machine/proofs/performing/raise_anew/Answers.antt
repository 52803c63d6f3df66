use Rattle.psm_machine.proofs.performing.raise_anew.Goals as goal

pub returns-in-Signal-clause-expected : goal.returns-in-Signal-clause-expected
returns-in-Signal-clause-expected c = λ tables at. rw c.in-Signal.is (c.signal.ensures tables at)

pub returns-in-SignalMessage-clause-expected : goal.returns-in-SignalMessage-clause-expected
returns-in-SignalMessage-clause-expected c = λ tables at. rw c.in-SignalMessage.is (c.signal_message.ensures.expected tables at)

pub returns-in-Resignal-clause-expected : goal.returns-in-Resignal-clause-expected
returns-in-Resignal-clause-expected c = λ tables at. rw c.in-Resignal.is (c.resignal.ensures tables at)

pub returns-in-ResignalCondition-clause-expected : goal.returns-in-ResignalCondition-clause-expected
returns-in-ResignalCondition-clause-expected c = λ tables at. rw c.in-ResignalCondition.is (c.resignal_condition.ensures tables at)

pub returns-in-ResignalMessage-clause-expected : goal.returns-in-ResignalMessage-clause-expected
returns-in-ResignalMessage-clause-expected c = λ tables at. rw c.in-ResignalMessage.is (c.resignal_message.ensures.expected tables at)

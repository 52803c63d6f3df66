use Rattle.psm_machine.proofs.variables.lose.Goals as goal

pub returns-then-is_cut-clause-expected : goal.returns-then-is_cut-clause-expected
returns-then-is_cut-clause-expected c = λ tables at. rw c.if-is_cut.true (c.warn_of.ensures.expected tables at)

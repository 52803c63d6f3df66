use Rattle.psm_machine.proofs.cursors.fetch.Goals as goal

pub returns-in-Some-clause-expected : goal.returns-in-Some-clause-expected
returns-in-Some-clause-expected g c = λ at. rw (c.in_ok-next_row.ensures.expected at, c.in-Some.is) (c.put_values.ensures.expected (g.S.Store.tables c.args.store.now) at)

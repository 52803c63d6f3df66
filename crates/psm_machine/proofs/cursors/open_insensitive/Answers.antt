use Rattle.std.proofs.Common.{IfSome, true, sym, subst, slice_get, ◌∙◌}
use Rattle.psm_tablecode.specs.Faults.{Answers}
use Rattle.psm_cursor.specs.Opened.{opened_over}
use Rattle.psm_code.specs.Querying.{open_as}
use Rattle.psm_unwind.specs.View.{machine_of}
use Rattle.psm_machine.proofs.Fetching.{opens, Opens}
use Rattle.psm_machine.proofs.cursors.open_insensitive.Goals as goal

pub returns-clause-expected : goal.returns-clause-expected
returns-clause-expected g c = λ at.
    let tables = g.S.Store.tables c.args.store.now in
    let q = c.args.query.now in
    let answered = subst (λ vars. IfSome (slice_get tables q.table) (λ t. Answers (opened_over q vars t) c.open_insensitive.result)) c.as_slice-vars.ensures.value c.open_insensitive.ensures in
    subst (λ p. Opens (open_as true c.args.number q) c.args.number (machine_of tables at c.args.run.now) p) (sym c.in_ok-cursor.ensures) (opens c.args.number q tables at c.args.run.now c.open_insensitive.result c.requires answered)
    ∙ c.set_cursor.ensures.expected tables at

use Rattle.std.proofs.Common.{◌≡◌, true, ap, sym, subst, ◌∙◌, arith}
use Rattle.std.specs.Option.{option_copied}
use Rattle.psm_cursor.specs.Opened.{is_opened}
use Rattle.psm_code.specs.Querying.{next}
use Rattle.psm_code.specs.State.{with_cursor}
use Rattle.psm_unwind.specs.View.{machine_of}
use Rattle.psm_machine.specs.ActResults.{Evaluates}
use Rattle.psm_machine.proofs.Fetching.{next_comes, value_is}
use Rattle.psm_machine.proofs.cursors.next_row.Goals as goal

pub returns-clause-expected : goal.returns-clause-expected
returns-clause-expected g c = λ at.
    let m = machine_of (g.S.Store.tables c.args.store.now) at c.args.run.now in
    let opened : is_opened c.in-Some-cursor_at.cursor.now ≡ true = grind (arith, c.is_open.ensures, c.if-not-is_open.false) in
    let there = sym c.cursor_at.ensures ∙ ap option_copied c.in-Some-cursor_at.is in
    subst (λ p. Evaluates (next c.args.routine.now c.args.number m) p (with_cursor c.args.number c.next.new.self m)) (sym c.part_of.ensures)
    (next_comes c.args.routine.now c.args.number c.in-Some.declared.now c.in-Some-query_at.query.now c.in-Some-cursor_at.cursor.now c.index_mut-cursor.result.now c.next.new.self m c.next.result c.requires
    (sym c.declared_at.ensures ∙ ap option_copied c.in-Some.is) there opened (sym c.query_at.ensures ∙ ap option_copied c.in-Some-query_at.is)
    (value_is c.args.run.now.running.cursors.items c.args.number c.in-Some-cursor_at.cursor.now c.index_mut-cursor.result.now there c.index_mut-cursor.ensures.value) c.next.ensures.fetches)

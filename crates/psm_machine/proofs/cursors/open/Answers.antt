use Rattle.std.proofs.Common.{◌≡◌, Some, false, ap, sym, ◌∙◌, arith}
use Rattle.std.specs.Option.{option_copied}
use Rattle.psm_table.specs.Cursors.{Cursor}
use Rattle.psm_cursor.specs.Opened.{is_opened}
use Rattle.psm_machine.proofs.Fetching.{closed_is}
use Rattle.psm_machine.proofs.cursors.open.Goals as goal

pub returns-else-declared-clause-expected : goal.returns-else-declared-clause-expected
returns-else-declared-clause-expected g c = λ at.
    let opened : is_opened c.in-Some-cursor_at.cursor.now ≡ false = grind (arith, c.is_open.ensures, c.if-is_open.false) in
    let closed = closed_is c.in-Some-cursor_at.cursor.now opened in
    rw (
      sym c.declared_at.ensures ∙ ap option_copied c.in-Some.is,
      sym c.cursor_at.ensures ∙ ap option_copied c.in-Some-cursor_at.is ∙ ap (λ (x : Cursor). Some x) closed,
      sym c.query_at.ensures ∙ ap option_copied c.in-Some-query_at.is,
      c.if-declared.false,
    ) (c.open_plain.ensures.expected c.in-Some-query_at.query.now (g.S.Store.tables c.args.store.now) at)

use Rattle.std.proofs.Common.{◌≡◌, true, ap, sym, ◌∙◌, arith}
use Rattle.std.specs.Option.{option_copied}
use Rattle.psm_cursor.specs.Opened.{is_opened}
use Rattle.psm_code.specs.State.{with_cursor}
use Rattle.psm_code.specs.Steps.{change}
use Rattle.psm_unwind.specs.View.{machine_of}
use Rattle.psm_machine.proofs.Fetching.{lets_go}
use Rattle.psm_machine.proofs.cursors.close.Goals as goal

pub returns-clause-expected : goal.returns-clause-expected
returns-clause-expected c = λ tables at.
    let m = machine_of tables at c.args.run.now in
    let opened : is_opened c.in-Some-cursor_at.cursor.now ≡ true = grind (arith, c.is_open.ensures, c.if-not-is_open.false) in
    rw (sym c.declared_at.ensures ∙ ap option_copied c.in-Some.is, sym c.cursor_at.ensures ∙ ap option_copied c.in-Some-cursor_at.is)
    (lets_go c.args.number c.in-Some.declared.now c.in-Some-cursor_at.cursor.now m opened ∙ ap (λ x. change (with_cursor c.args.number x) m) (sym c.closed.ensures) ∙ c.set_cursor.ensures.expected tables at)

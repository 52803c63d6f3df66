use Rattle.std.proofs.Common.{◌≡◌, None, Some, ap, sym, ◌∙◌, arith}
use Rattle.std.specs.Option.{option_copied}
use Rattle.psm_table.specs.Table.{keyed}
use Rattle.psm_cursor.specs.Current.{current_key}
use Rattle.psm_cursor.proofs.Standing.{current_found}
use Rattle.psm_machine.proofs.positioned.key_on.Goals as goal

pub returns-else-is_some-clause-none : goal.returns-else-is_some-clause-none
returns-else-is_some-clause-none c =
    let key : current_key c.args.cursor.now ≡ Some c.in-Some.key.now = sym c.key.ensures ∙ ap option_copied c.in-Some.is in
    let none : keyed c.args.table.now.contents c.in-Some.key.now ≡ None = grind (arith, c.get.ensures.row, c.is_some.ensures, c.if-is_some.false) in
    sym (current_found c.args.table.now.contents c.args.cursor.now c.in-Some.key.now key) ∙ none

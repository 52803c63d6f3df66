use Rattle.std.proofs.Common.{List, subst, Option, Bor}
use Rattle.std.specs.Prelude.{IfSome}
use Rattle.psm_value.specs.declared.datum.Datum.{Datum}
use Rattle.psm_table.specs.Definition.{IsRow}
use Rattle.psm_tablecode.proofs.Fitting.{type_checks_row}
use Rattle.psm_cursor.proofs.fetching.advance.Goals as goal

pub items_on-requires-clause-run : goal.items_on-requires-clause-run
items_on-requires-clause-run c =
    let fits : IsRow c.args.table.now.contents.def c.in-Some.row.now =
    subst (λ (o : Option (Bor (List Datum))). IfSome o (λ row. IsRow c.args.table.now.contents.def row.now)) c.in-Some.is c.in_ok-row.ensures.fits in
    (type_checks_row c.args.query.now c.args.vars.now c.args.table.now.contents.def c.in-Some.row.now c.requires.type_checks.fits fits).items

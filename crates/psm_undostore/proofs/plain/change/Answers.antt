use Rattle.psm_table.specs.Definition.{IsRow}
use Rattle.psm_table.specs.Table.{namesake, with_row}
use Rattle.psm_store.specs.RowCalls.{AnswersFound}
use Rattle.psm_undostore.proofs.Calls.{answered_at, called_at, contents_called, tidy_called}
use Rattle.psm_undostore.proofs.plain.change.Goals as goal

pub change_row-requires-clause-fits : goal.change_row-requires-clause-fits
change_row-requires-clause-fits c = called_at c.args.tables.now c.args.t c.index-tables-t.result c.requires.exists (λ x. IsRow x.def c.args.row) c.requires.fits

pub returns-clause-answer : goal.returns-clause-answer
returns-clause-answer c = answered_at c.args.tables.now c.args.t c.index-tables-t.result c.requires.exists (λ x. AnswersFound (namesake x c.args.row) c.change_row.result) c.change_row.ensures.answer

pub returns-clause-tables : goal.returns-clause-tables
returns-clause-tables c = contents_called c.args.tables.now c.args.t c.index-tables-t.result c.requires.exists (λ x. with_row x c.args.row) c.change_row.result c.change_row.new.table c.change_row.ensures.table

pub returns-clause-tidy : goal.returns-clause-tidy
returns-clause-tidy c = tidy_called c.args.tables.now c.args.t c.index-tables-t.result c.change_row.new.table c.requires.exists c.change_row.ensures.tidy

use Rattle.psm_table.specs.Definition.{IsRow}
use Rattle.psm_table.specs.Table.{with_row}
use Rattle.psm_store.specs.RowCalls.{AnswersInsert}
use Rattle.psm_undostore.proofs.Calls.{answered_at, called_at, contents_called, tidy_called}
use Rattle.psm_undostore.proofs.plain.insert.Goals as goal

pub insert_row-requires-clause-fits : goal.insert_row-requires-clause-fits
insert_row-requires-clause-fits c = called_at c.args.tables.now c.args.t c.index-tables-t.result c.requires.exists (λ x. IsRow x.def c.args.row) c.requires.fits

pub returns-clause-answer : goal.returns-clause-answer
returns-clause-answer c = answered_at c.args.tables.now c.args.t c.index-tables-t.result c.requires.exists (AnswersInsert c.args.row c.insert_row.result) c.insert_row.ensures.answer

pub returns-clause-tables : goal.returns-clause-tables
returns-clause-tables c = contents_called c.args.tables.now c.args.t c.index-tables-t.result c.requires.exists (λ x. with_row x c.args.row) c.insert_row.result c.insert_row.new.table c.insert_row.ensures.table

pub returns-clause-tidy : goal.returns-clause-tidy
returns-clause-tidy c = tidy_called c.args.tables.now c.args.t c.index-tables-t.result c.insert_row.new.table c.requires.exists c.insert_row.ensures.tidy

use Rattle.psm_table.specs.Definition.{IsKey}
use Rattle.psm_table.specs.Table.{keyed, without_row}
use Rattle.psm_store.specs.RowCalls.{AnswersFound}
use Rattle.psm_undostore.proofs.Calls.{answered_at, called_at, contents_called, tidy_called}
use Rattle.psm_undostore.proofs.plain.erase.Goals as goal

pub erase_row-requires-clause-fits : goal.erase_row-requires-clause-fits
erase_row-requires-clause-fits c = called_at c.args.tables.now c.args.t c.index-tables-t.result c.requires.exists (λ x. IsKey x.def c.args.key.now) c.requires.fits

pub returns-clause-answer : goal.returns-clause-answer
returns-clause-answer c = answered_at c.args.tables.now c.args.t c.index-tables-t.result c.requires.exists (λ x. AnswersFound (keyed x c.args.key.now) c.erase_row.result) c.erase_row.ensures.answer

pub returns-clause-tables : goal.returns-clause-tables
returns-clause-tables c = contents_called c.args.tables.now c.args.t c.index-tables-t.result c.requires.exists (without_row c.args.key.now) c.erase_row.result c.erase_row.new.table c.erase_row.ensures.table

pub returns-clause-tidy : goal.returns-clause-tidy
returns-clause-tidy c = tidy_called c.args.tables.now c.args.t c.index-tables-t.result c.erase_row.new.table c.requires.exists c.erase_row.ensures.tidy

use Rattle.std.proofs.Common.{◌∙◌}
use Rattle.psm_tree.specs.FileGrammar.{file}
use Rattle.psm_tree.proofs.FileFits.{file_fit}
use Rattle.psm_parse_file.proofs.Once.{gives_fault, gives_tree}
use Rattle.psm_parse_file.proofs.Whole.{whole_reads}
use Rattle.psm_parse_file.proofs.parse.parse_file.Goals as goal

pub returns-clause-reads : goal.returns-clause-reads
returns-clause-reads c = whole_reads file file_fit c.args.tokens.now c.of-cursor.result.rest.now (c.of-cursor.ensures ∙ c.items.ensures) c.file-read.result c.file-read.new.tokens.rest.now c.file-read.ensures c.whole.result c.whole.ensures

pub returns-clause-only : goal.returns-clause-only
returns-clause-only c = gives_tree file_fit c.args.tokens.now c.whole.result (whole_reads file file_fit c.args.tokens.now c.of-cursor.result.rest.now (c.of-cursor.ensures ∙ c.items.ensures) c.file-read.result c.file-read.new.tokens.rest.now c.file-read.ensures c.whole.result c.whole.ensures)

pub returns-clause-only_fault : goal.returns-clause-only_fault
returns-clause-only_fault c = gives_fault file_fit c.args.tokens.now c.whole.result (whole_reads file file_fit c.args.tokens.now c.of-cursor.result.rest.now (c.of-cursor.ensures ∙ c.items.ensures) c.file-read.result c.file-read.new.tokens.rest.now c.file-read.ensures c.whole.result c.whole.ensures)

use Rattle.std.proofs.Common.{◌∙◌}
use Rattle.psm_tree.specs.FileGrammar.{script}
use Rattle.psm_tree.proofs.FileFits.{script_fit}
use Rattle.psm_parse_file.proofs.Once.{gives_fault, gives_tree}
use Rattle.psm_parse_file.proofs.Whole.{whole_reads}
use Rattle.psm_parse_file.proofs.parse.parse_script.Goals as goal

pub returns-clause-reads : goal.returns-clause-reads
returns-clause-reads c = whole_reads script script_fit c.args.tokens.now c.of-cursor.result.rest.now (c.of-cursor.ensures ∙ c.items.ensures) c.script-read.result c.script-read.new.tokens.rest.now c.script-read.ensures c.whole.result c.whole.ensures

pub returns-clause-only : goal.returns-clause-only
returns-clause-only c = gives_tree script_fit c.args.tokens.now c.whole.result (whole_reads script script_fit c.args.tokens.now c.of-cursor.result.rest.now (c.of-cursor.ensures ∙ c.items.ensures) c.script-read.result c.script-read.new.tokens.rest.now c.script-read.ensures c.whole.result c.whole.ensures)

pub returns-clause-only_fault : goal.returns-clause-only_fault
returns-clause-only_fault c = gives_fault script_fit c.args.tokens.now c.whole.result (whole_reads script script_fit c.args.tokens.now c.of-cursor.result.rest.now (c.of-cursor.ensures ∙ c.items.ensures) c.script-read.result c.script-read.new.tokens.rest.now c.script-read.ensures c.whole.result c.whole.ensures)

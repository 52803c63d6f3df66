use Rattle.psm_print.proofs.Read.{has_tree, read_tree}
use Rattle.psm_print.proofs.format.format_module.Goals as goal

pub returns-in-Ok-parse_file : goal.returns-in-Ok-parse_file
returns-in-Ok-parse_file c = (c.in-Ok-parse_file.tree, has_tree c.args.bytes.now c.in-Ok.list c.in-Ok-parse_file.tree c.in-Ok.ensures.ok c.in-Ok-parse_file.ensures.reads, c.in_ok-print-in-Ok-parse_file.ensures)

pub print-requires : goal.print-requires
print-requires c = read_tree c.args.bytes.now c.in-Ok.list c.in-Ok-parse_file.tree c.in-Ok.ensures.ok c.in-Ok-parse_file.ensures.reads

use Rattle.std.proofs.Common.{sym}
use Rattle.psm_load_line.specs.Groups.{alone_operations}
use Rattle.psm_load_line.proofs.Entries.{none_chosen}
use Rattle.psm_load_line.proofs.Spelled.{◌&◌}
use Rattle.psm_load_line.proofs.mnemonics.alone_operation.Goals as goal

pub returns-in_default : goal.returns-in_default
unfolding alone_operations
returns-in_default c =
    let d = c.in_default in
    sym (none_chosen alone_operations c.args.word.now (d.not-DUP & d.not-DROP & d.not-NIP & d.not-NEG & d.not-ADD & d.not-SUB & d.not-MUL & d.not-DIV & d.not-CAT & d.not-LEN & d.not-POS & d.not-SUB2 & d.not-SUB3 & d.not-UP & d.not-LOW & d.not-EQ & d.not-NE & d.not-LT & d.not-LE & d.not-GT & d.not-GE & d.not-AND & d.not-OR & d.not-NOT & d.not-ISNULL & d.not-LIKE & d.not-LIKEE & d.not-BETW & d.not-NULLIF & tt))

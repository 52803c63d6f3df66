use Rattle.std.proofs.Common.{sym}
use Rattle.psm_load_line.specs.Groups.{alone_control}
use Rattle.psm_load_line.proofs.Entries.{none_chosen}
use Rattle.psm_load_line.proofs.Spelled.{◌&◌}
use Rattle.psm_load_line.proofs.mnemonics.alone_control.Goals as goal

pub returns-in_default : goal.returns-in_default
unfolding alone_control
returns-in_default c =
    let d = c.in_default in
    sym (none_chosen alone_control c.args.word.now (d.not-CLEAR & d.not-WARN & d.not-TURN & d.not-RETV & d.not-END & d.not-NORET & d.not-RESIG & d.not-NOCASE & tt))

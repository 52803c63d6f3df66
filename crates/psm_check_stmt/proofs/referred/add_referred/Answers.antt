use Rattle.std.proofs.Common.{◌∙◌, ap}
use Rattle.psm_rules.specs.BlockFaults.{declared_once}
use Rattle.psm_check_stmt.proofs.Once.{added_once}
use Rattle.psm_check_stmt.proofs.referred.add_referred.Goals as goal

pub returns : goal.returns
returns c =
    let n = c.args.table.now.name.name in
    added_once n c.in_ok-referred.referred c.args.known.now c.add.new.self c.in_ok-add.field-0 c.in_ok-add.ensures ∙ ap (declared_once c.args.known.now n) c.in_ok-referred.ensures

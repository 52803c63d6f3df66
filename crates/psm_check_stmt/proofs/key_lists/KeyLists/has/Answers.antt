use Rattle.std.proofs.Common.{◌∙◌, ap}
use Rattle.std.specs.List.{list_any}
use Rattle.psm_rules.specs.BlockFaults.{same_names}
use Rattle.psm_check_stmt.specs.KeyLists.{listed}
use Rattle.psm_check_stmt.proofs.ListKeys.{is-among}
use Rattle.psm_check_stmt.proofs.key_lists.KeyLists.has.Goals as goal

pub returns : goal.returns
returns c = c.contains.ensures ∙ is-among c.args.list.now c.self.inside.lists.keys ∙ ap (list_any (same_names (listed c.args.list.now))) c.self.view_is

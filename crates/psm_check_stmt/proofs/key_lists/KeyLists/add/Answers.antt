use Rattle.psm_check_stmt.proofs.ListKeys.{list-added}
use Rattle.psm_check_stmt.proofs.key_lists.KeyLists.add.Goals as goal

pub returns : goal.returns
returns c = list-added c.self.inside.lists.keys c.insert.new.self.keys c.in_ok-list.list c.args.self.now _ c.self.view_is c.in_ok-list.ensures c.in_ok-insert.ensures.keys

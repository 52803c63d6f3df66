use Rattle.std.proofs.Common.{drop, map}
use Rattle.std.specs.Option.{option_copied}
use Rattle.psm_rules.specs.ExprFaults.{items_in, typed_pick}
use Rattle.psm_check_expr.specs.Seen.{pick_of}
use Rattle.psm_check_expr.proofs.Items.{ItemsLeft}
use Rattle.psm_check_expr.proofs.queries.items_in.Given as goal

abbrev pub invariant-loop-pick : goal.invariant-loop-pick
invariant-loop-pick l = ItemsLeft (option_copied l.columns) l.items.items (map (typed_pick l.all_sets) (map pick_of (drop l.pick-index l.picks))) (items_in (option_copied l.columns) (map (typed_pick l.all_sets) (map pick_of l.picks)))

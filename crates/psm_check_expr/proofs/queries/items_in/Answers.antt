use Rattle.std.specs.Option.{option_copied}
use Rattle.psm_rules.specs.ExprFaults.{items_in, typed_pick}
use Rattle.psm_check_expr.specs.Seen.{pick_of}
use Rattle.std.proofs.Common.{map}
use Rattle.psm_check_expr.proofs.Items.{picks_step, picks_unknown}
use Rattle.psm_check_expr.proofs.queries.items_in.Goals as goal

pub returns-then-not-branch : goal.returns-then-not-branch
returns-then-not-branch c =
    picks_unknown c.args.all_sets (option_copied c.args.columns) c.loop-pick.items.items c.push_items.new.items.items c.args.picks.now c.loop-pick.pick-index c.pick-item.result c.in_ok-push_items.field-0
    (items_in (option_copied c.args.columns) (map (typed_pick c.args.all_sets) (map pick_of c.args.picks.now))) (search c.if-not-branch.true) c.loop-pick-test.true c.pick-item.is c.in_ok-push_items.ensures c.loop-pick.invariant

pub loop-pick-preserved : goal.loop-pick-preserved
loop-pick-preserved c =
    picks_step c.args.all_sets (option_copied c.args.columns) c.loop-pick.items.items c.push_items.new.items.items c.args.picks.now c.loop-pick.pick-index c.pick-item.result c.in_ok-push_items.field-0
    (items_in (option_copied c.args.columns) (map (typed_pick c.args.all_sets) (map pick_of c.args.picks.now))) (search c.if-not-branch.false) c.loop-pick-test.true c.pick-item.is c.in_ok-push_items.ensures c.loop-pick.invariant

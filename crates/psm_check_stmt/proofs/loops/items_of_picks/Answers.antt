use Rattle.std.proofs.Common.{ap, sym, ◌∙◌}
use Rattle.psm_tree.specs.declared.expr.Select.{out-Select}
use Rattle.psm_rules.specs.ExprFaults.{check_pick}
use Rattle.psm_check_expr.specs.Seen.{pick_of, seen_in_checker_scope}
use Rattle.psm_check_stmt.proofs.ForItems.{picked_at}
use Rattle.psm_check_stmt.proofs.loops.items_of_picks.Goals as goal

pub for_item-requires-in-loop-number : goal.for_item-requires-in-loop-number
for_item-requires-in-loop-number c =
    let picks = (out-Select c.args.select.now).picks in
    picked_at pick_of (λ p. check_pick p (seen_in_checker_scope c.args.checker_scope)) c.args.picks.now picks.first picks.rest c.items-others.result.now c.loop-number.number
    c.index-picks-number.result c.index-others-number.result c.requires (c.items-others.ensures ∙ ap (λ s. s.rest) c.trees.view_is)
    c.loop-number-test.true c.index-picks-number.is c.index-others-number.is
    ∙ ap (λ p. check_pick p (seen_in_checker_scope c.args.checker_scope)) (sym c.get-in-loop-number.ensures)

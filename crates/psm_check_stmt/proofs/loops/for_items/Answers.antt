use Rattle.std.proofs.Common.{ap, map, ◌∙◌}
use Rattle.psm_scope.specs.Rows.{columns_known, row_table}
use Rattle.psm_tree.specs.declared.expr.Select.{out-Select}
use Rattle.psm_rules.specs.CheckerScope.{on_row}
use Rattle.psm_rules.specs.ExprFaults.{spelling}
use Rattle.psm_check_stmt.specs.InRoutine.{context}
use Rattle.psm_check_expr.specs.Seen.{pick_of, seen_in_checker_scope}
use Rattle.psm_check_stmt.proofs.ForItems.{checked_inside, checked_picks}
use Rattle.psm_check_stmt.proofs.loops.for_items.Goals as goal

pub items_of_picks-requires : goal.items_of_picks-requires
items_of_picks-requires c =
    let select = c.args.select.now in
    let checker_scope = (context c.args.c c.args.scopes.now).checker_scope in
    let q = c.args.query.now in
    let on = seen_in_checker_scope c.on_row-checker_scope.result in
    let row = row_table c.row_of-row.result in
    let inside = checked_inside select checker_scope on q row c.requires
    (c.row_of-row.ensures ∙ ap (λ q. record { name = (out-Select select).table.name; alias = spelling (out-Select select).alias; columns = columns_known q.columns }) c.query.view_is)
    (c.on_row-checker_scope.ensures ∙ ap (λ v. on_row v row) c.checker_scope.ensures) in
    ap (map pick_of) c.as_slice.ensures.value ∙ ap (λ q. q.picks) c.query.view_is ∙ checked_picks select checker_scope on q c.requires inside

-- Expressions and statements made of one layer forget their places layer by layer.
use Rattle.std.proofs.Common.{◌≡◌}
use Rattle.psm_tree.specs.declared.expr.Expr.{Expr, roll-Expr}
use Rattle.psm_tree.specs.declared.expr.Expr.TheOpen.{Pick-F, ChainLink-F, Select-F, When-F}
use Rattle.psm_tree.specs.declared.expr.Expr.TheFolds.{map-Expr, map-Pick, map-ChainLink, map-Select, map-When, fold-roll-Expr, fold-roll-Pick, fold-roll-ChainLink, fold-roll-Select, fold-roll-When}
use Rattle.psm_tree.specs.declared.expr.ChainLink.{ChainLink, roll-ChainLink}
use Rattle.psm_tree.specs.declared.expr.When.{When, roll-When}
use Rattle.psm_tree.specs.declared.expr.Select.{Select, roll-Select}
use Rattle.psm_tree.specs.declared.expr.Pick.{Pick, roll-Pick}
use Rattle.psm_tree.specs.declared.statement.Statement.{Statement, roll-Statement}
use Rattle.psm_tree.specs.declared.statement.Block.{Block, roll-Block}
use Rattle.psm_tree.specs.declared.statement.Block.TheOpen.{Branch-F, Handler-F}
use Rattle.psm_tree.specs.declared.statement.Block.TheFolds.{map-Block, map-Statement, map-Branch, map-Handler, fold-roll-Block, fold-roll-Statement, fold-roll-Branch, fold-roll-Handler}
use Rattle.psm_tree.specs.declared.statement.Branch.{Branch, roll-Branch}
use Rattle.psm_tree.specs.declared.statement.Handler.{Handler, roll-Handler}
use Rattle.psm_print.specs.ExprWithoutPositions.{Layer, expr_step, pick_step, chain_link_step, select_step, when_step, expr_without_positions, pick_without_positions, chain_link_without_positions, select_without_positions, when_without_positions}
use Rattle.psm_print.specs.StatementWithoutPositions.{BlockLayer, Layer as StatementLayer, block_step, statement_step, branch_step, handler_step, block_without_positions, statement_without_positions, branch_without_positions, handler_without_positions}

pub expr_rolled : (layer : Layer) → expr_without_positions (roll-Expr layer) ≡ expr_step (map-Expr Expr Pick ChainLink Select When Expr Pick ChainLink Select When expr_without_positions pick_without_positions chain_link_without_positions select_without_positions when_without_positions layer)
expr_rolled layer = fold-roll-Expr Expr Pick ChainLink Select When expr_step pick_step chain_link_step select_step when_step layer

pub pick_rolled : (layer : Pick-F Expr Pick ChainLink Select When) → pick_without_positions (roll-Pick layer) ≡ pick_step (map-Pick Expr Pick ChainLink Select When Expr Pick ChainLink Select When expr_without_positions pick_without_positions chain_link_without_positions select_without_positions when_without_positions layer)
pick_rolled layer = fold-roll-Pick Expr Pick ChainLink Select When expr_step pick_step chain_link_step select_step when_step layer

pub chain_link_rolled : (layer : ChainLink-F Expr Pick ChainLink Select When) → chain_link_without_positions (roll-ChainLink layer) ≡ chain_link_step (map-ChainLink Expr Pick ChainLink Select When Expr Pick ChainLink Select When expr_without_positions pick_without_positions chain_link_without_positions select_without_positions when_without_positions layer)
chain_link_rolled layer = fold-roll-ChainLink Expr Pick ChainLink Select When expr_step pick_step chain_link_step select_step when_step layer

pub select_rolled : (layer : Select-F Expr Pick ChainLink Select When) → select_without_positions (roll-Select layer) ≡ select_step (map-Select Expr Pick ChainLink Select When Expr Pick ChainLink Select When expr_without_positions pick_without_positions chain_link_without_positions select_without_positions when_without_positions layer)
select_rolled layer = fold-roll-Select Expr Pick ChainLink Select When expr_step pick_step chain_link_step select_step when_step layer

pub when_rolled : (layer : When-F Expr Pick ChainLink Select When) → when_without_positions (roll-When layer) ≡ when_step (map-When Expr Pick ChainLink Select When Expr Pick ChainLink Select When expr_without_positions pick_without_positions chain_link_without_positions select_without_positions when_without_positions layer)
when_rolled layer = fold-roll-When Expr Pick ChainLink Select When expr_step pick_step chain_link_step select_step when_step layer

pub block_rolled : (layer : BlockLayer) → block_without_positions (roll-Block layer) ≡ block_step (map-Block Block Statement Branch Handler Block Statement Branch Handler block_without_positions statement_without_positions branch_without_positions handler_without_positions layer)
block_rolled layer = fold-roll-Block Block Statement Branch Handler block_step statement_step branch_step handler_step layer

pub statement_rolled : (layer : StatementLayer) → statement_without_positions (roll-Statement layer) ≡ statement_step (map-Statement Block Statement Branch Handler Block Statement Branch Handler block_without_positions statement_without_positions branch_without_positions handler_without_positions layer)
statement_rolled layer = fold-roll-Statement Block Statement Branch Handler block_step statement_step branch_step handler_step layer

pub branch_rolled : (layer : Branch-F Block Statement Branch Handler) → branch_without_positions (roll-Branch layer) ≡ branch_step (map-Branch Block Statement Branch Handler Block Statement Branch Handler block_without_positions statement_without_positions branch_without_positions handler_without_positions layer)
branch_rolled layer = fold-roll-Branch Block Statement Branch Handler block_step statement_step branch_step handler_step layer

pub handler_rolled : (layer : Handler-F Block Statement Branch Handler) → handler_without_positions (roll-Handler layer) ≡ handler_step (map-Handler Block Statement Branch Handler Block Statement Branch Handler block_without_positions statement_without_positions branch_without_positions handler_without_positions layer)
handler_rolled layer = fold-roll-Handler Block Statement Branch Handler block_step statement_step branch_step handler_step layer

-- The referents that stand in each form of resolved statement, by its layer.
use Rattle.std.proofs.Common.{◌≡◌, ℕ, List, ◌∷◌, ◌++◌, Option, map}
use denote.Hole.Carrier
use Rattle.psm_resolved.specs.declared.expr.ResolvedExpr.{ResolvedExpr}
use Rattle.psm_resolved.specs.declared.statement.ResolvedBlock.{ResolvedBlock, roll-ResolvedBlock}
use Rattle.psm_resolved.specs.declared.statement.ResolvedBranch.{ResolvedBranch, roll-ResolvedBranch}
use Rattle.psm_resolved.specs.declared.statement.ResolvedFor.{ResolvedFor}
use Rattle.psm_resolved.specs.declared.statement.ResolvedHandler.{ResolvedHandler, roll-ResolvedHandler}
use Rattle.psm_resolved.specs.declared.statement.ResolvedSimple.{ResolvedSimple}
use Rattle.psm_resolved.specs.declared.statement.ResolvedStatement.{ResolvedStatement, roll-ResolvedStatement}
use Rattle.psm_resolved.specs.declared.statement.ResolvedStatement.TheVariants as resolved
use Rattle.psm_resolved.specs.declared.statement.ResolvedStatement.TheOpen.{ResolvedStatement-F, ResolvedBlock-F, ResolvedBranch-F, ResolvedHandler-F}
use Rattle.psm_resolved.specs.declared.statement.ResolvedStatement.TheOpen as layers
use Rattle.psm_resolved.specs.declared.statement.ResolvedStatement.TheFolds.{map-ResolvedStatement, fold-roll-ResolvedStatement, fold-roll-ResolvedBlock, fold-roll-ResolvedBranch, fold-roll-ResolvedHandler}
use Rattle.psm_names.specs.Referents.{Block, Declaration, together}
use Rattle.psm_names.specs.ExprReferents.{R, expr_referents}
use Rattle.psm_names.specs.StatementReferents.{block_layer, block_referents, branch_layer, branch_referents, handler_layer, handler_referents, of_cursor, of_declaration, of_head, of_value, optional_referents, simple_referents, statement_layer, statement_referents}

rolled : (layer : ResolvedStatement-F ResolvedStatement ResolvedBlock ResolvedBranch ResolvedHandler) → statement_referents (roll-ResolvedStatement layer) ≡ statement_layer (map-ResolvedStatement ResolvedStatement ResolvedBlock ResolvedBranch ResolvedHandler R R R R statement_referents block_referents branch_referents handler_referents layer)
rolled layer = fold-roll-ResolvedStatement R R R R statement_layer block_layer branch_layer handler_layer layer

pub standing-Compound : (level : ℕ) (block : ResolvedBlock) → statement_referents (resolved.Compound level block) ≡ Declaration (Block level) ∷ block_referents block
unfolding roll-ResolvedStatement Carrier.roll
standing-Compound level block = rolled (layers.Compound level block)

pub standing-Loop : (level : ℕ) (ss : List ResolvedStatement) → statement_referents (resolved.Loop level ss) ≡ Declaration (Block level) ∷ together (map statement_referents ss)
unfolding roll-ResolvedStatement Carrier.roll
standing-Loop level ss = rolled (layers.Loop level ss)

pub standing-While : (level : ℕ) (test : ResolvedExpr) (ss : List ResolvedStatement) → statement_referents (resolved.While level test ss) ≡ Declaration (Block level) ∷ (expr_referents test ++ together (map statement_referents ss))
unfolding roll-ResolvedStatement Carrier.roll
standing-While level test ss = rolled (layers.While level test ss)

pub standing-Repeat : (level : ℕ) (ss : List ResolvedStatement) (until : ResolvedExpr) → statement_referents (resolved.Repeat level ss until) ≡ Declaration (Block level) ∷ (together (map statement_referents ss) ++ expr_referents until)
unfolding roll-ResolvedStatement Carrier.roll
standing-Repeat level ss until = rolled (layers.Repeat level ss until)

pub standing-For : (level : ℕ) (head : ResolvedFor) (ss : List ResolvedStatement) → statement_referents (resolved.For level head ss) ≡ Declaration (Block level) ∷ (of_head head ++ together (map statement_referents ss))
unfolding roll-ResolvedStatement Carrier.roll
standing-For level head ss = rolled (layers.For level head ss)

pub standing-If : (bs : List ResolvedBranch) (ss : List ResolvedStatement) → statement_referents (resolved.If bs ss) ≡ together (map branch_referents bs) ++ together (map statement_referents ss)
unfolding roll-ResolvedStatement Carrier.roll
standing-If bs ss = rolled (layers.If bs ss)

pub standing-Case : (operand : Option ResolvedExpr) (bs : List ResolvedBranch) (ss : List ResolvedStatement) → statement_referents (resolved.Case operand bs ss) ≡ optional_referents operand ++ (together (map branch_referents bs) ++ together (map statement_referents ss))
unfolding roll-ResolvedStatement Carrier.roll
standing-Case operand bs ss = rolled (layers.Case operand bs ss)

pub standing-Simple : (simple : ResolvedSimple) → statement_referents (resolved.Simple simple) ≡ simple_referents simple
unfolding roll-ResolvedStatement Carrier.roll
standing-Simple simple = rolled (layers.Simple simple)

pub standing-block : (b : ResolvedBlock-F ResolvedStatement ResolvedBlock ResolvedBranch ResolvedHandler) → block_referents (roll-ResolvedBlock b) ≡ (together (map of_declaration b.declarations) ++ together (map of_cursor b.cursors)) ++ (together (map handler_referents b.handlers) ++ together (map statement_referents b.statements))
standing-block b = fold-roll-ResolvedBlock R R R R statement_layer block_layer branch_layer handler_layer b

pub standing-branch : (b : ResolvedBranch-F ResolvedStatement ResolvedBlock ResolvedBranch ResolvedHandler) → branch_referents (roll-ResolvedBranch b) ≡ expr_referents b.test ++ together (map statement_referents b.statements)
standing-branch b = fold-roll-ResolvedBranch R R R R statement_layer block_layer branch_layer handler_layer b

pub standing-handler : (h : ResolvedHandler-F ResolvedStatement ResolvedBlock ResolvedBranch ResolvedHandler) → handler_referents (roll-ResolvedHandler h) ≡ together (map of_value h.values) ++ statement_referents h.action
standing-handler h = fold-roll-ResolvedHandler R R R R statement_layer block_layer branch_layer handler_layer h

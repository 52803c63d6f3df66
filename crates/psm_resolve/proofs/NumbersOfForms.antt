-- What the declarations in each form of resolved statement are numbered by.
use Rattle.std.proofs.Common.{◌≡◌, ℕ, List, Option, map}
use denote.Hole.Carrier
use Rattle.psm_resolved.specs.declared.expr.ResolvedExpr.{ResolvedExpr}
use Rattle.psm_resolved.specs.declared.statement.ResolvedBlock.{ResolvedBlock, roll-ResolvedBlock}
use Rattle.psm_resolved.specs.declared.statement.ResolvedBranch.{ResolvedBranch, roll-ResolvedBranch}
use Rattle.psm_resolved.specs.declared.statement.ResolvedFor.{ResolvedFor}
use Rattle.psm_resolved.specs.declared.statement.ResolvedHandler.{ResolvedHandler, roll-ResolvedHandler}
use Rattle.psm_resolved.specs.declared.statement.ResolvedSimple.{ResolvedSimple}
use Rattle.psm_resolved.specs.declared.statement.ResolvedStatement.{ResolvedStatement, roll-ResolvedStatement}
use Rattle.psm_resolved.specs.declared.statement.ResolvedStatement.TheVariants as resolved
use Rattle.psm_resolved.specs.declared.statement.ResolvedStatement.TheOpen.{ResolvedStatement-F, ResolvedBlock-F, ResolvedBranch-F, ResolvedHandler-F}
use Rattle.psm_resolved.specs.declared.statement.ResolvedStatement.TheOpen as layers
use Rattle.psm_resolved.specs.declared.statement.ResolvedStatement.TheFolds.{map-ResolvedStatement, fold-roll-ResolvedStatement, fold-roll-ResolvedBlock, fold-roll-ResolvedBranch, fold-roll-ResolvedHandler}
use Rattle.psm_resolve.specs.OwnNumbers.{Numbers, beside, block_numbers_layer, branch_numbers_layer, cursors_in, handler_numbers_layer, no_numbers, numbers_layer, numbers_of, numbers_of_block, numbers_of_branch, numbers_of_handler, numbers_of_head, together, variables_in}

rolled : (layer : ResolvedStatement-F ResolvedStatement ResolvedBlock ResolvedBranch ResolvedHandler) → numbers_of (roll-ResolvedStatement layer) ≡ numbers_layer (map-ResolvedStatement ResolvedStatement ResolvedBlock ResolvedBranch ResolvedHandler Numbers Numbers Numbers Numbers numbers_of numbers_of_block numbers_of_branch numbers_of_handler layer)
rolled layer = fold-roll-ResolvedStatement Numbers Numbers Numbers Numbers numbers_layer block_numbers_layer branch_numbers_layer handler_numbers_layer layer

pub numbers-Compound : (level : ℕ) (block : ResolvedBlock) → numbers_of (resolved.Compound level block) ≡ numbers_of_block block
unfolding roll-ResolvedStatement Carrier.roll
numbers-Compound level block = rolled (layers.Compound level block)

pub numbers-Loop : (level : ℕ) (ss : List ResolvedStatement) → numbers_of (resolved.Loop level ss) ≡ together (map numbers_of ss)
unfolding roll-ResolvedStatement Carrier.roll
numbers-Loop level ss = rolled (layers.Loop level ss)

pub numbers-While : (level : ℕ) (test : ResolvedExpr) (ss : List ResolvedStatement) → numbers_of (resolved.While level test ss) ≡ together (map numbers_of ss)
unfolding roll-ResolvedStatement Carrier.roll
numbers-While level test ss = rolled (layers.While level test ss)

pub numbers-Repeat : (level : ℕ) (ss : List ResolvedStatement) (until : ResolvedExpr) → numbers_of (resolved.Repeat level ss until) ≡ together (map numbers_of ss)
unfolding roll-ResolvedStatement Carrier.roll
numbers-Repeat level ss until = rolled (layers.Repeat level ss until)

pub numbers-For : (level : ℕ) (head : ResolvedFor) (ss : List ResolvedStatement) → numbers_of (resolved.For level head ss) ≡ beside (numbers_of_head head) (together (map numbers_of ss))
unfolding roll-ResolvedStatement Carrier.roll
numbers-For level head ss = rolled (layers.For level head ss)

pub numbers-If : (bs : List ResolvedBranch) (ss : List ResolvedStatement) → numbers_of (resolved.If bs ss) ≡ beside (together (map numbers_of_branch bs)) (together (map numbers_of ss))
unfolding roll-ResolvedStatement Carrier.roll
numbers-If bs ss = rolled (layers.If bs ss)

pub numbers-Case : (operand : Option ResolvedExpr) (bs : List ResolvedBranch) (ss : List ResolvedStatement) → numbers_of (resolved.Case operand bs ss) ≡ beside (together (map numbers_of_branch bs)) (together (map numbers_of ss))
unfolding roll-ResolvedStatement Carrier.roll
numbers-Case operand bs ss = rolled (layers.Case operand bs ss)

pub numbers-Simple : (simple : ResolvedSimple) → numbers_of (resolved.Simple simple) ≡ no_numbers
unfolding roll-ResolvedStatement Carrier.roll
numbers-Simple simple = rolled (layers.Simple simple)

pub numbers-block : (b : ResolvedBlock-F ResolvedStatement ResolvedBlock ResolvedBranch ResolvedHandler) → numbers_of_block (roll-ResolvedBlock b) ≡ beside (variables_in b.declarations) (beside (cursors_in b.cursors) (beside (together (map numbers_of_handler b.handlers)) (together (map numbers_of b.statements))))
numbers-block b = fold-roll-ResolvedBlock Numbers Numbers Numbers Numbers numbers_layer block_numbers_layer branch_numbers_layer handler_numbers_layer b

pub numbers-branch : (b : ResolvedBranch-F ResolvedStatement ResolvedBlock ResolvedBranch ResolvedHandler) → numbers_of_branch (roll-ResolvedBranch b) ≡ together (map numbers_of b.statements)
numbers-branch b = fold-roll-ResolvedBranch Numbers Numbers Numbers Numbers numbers_layer block_numbers_layer branch_numbers_layer handler_numbers_layer b

pub numbers-handler : (h : ResolvedHandler-F ResolvedStatement ResolvedBlock ResolvedBranch ResolvedHandler) → numbers_of_handler (roll-ResolvedHandler h) ≡ numbers_of h.action
numbers-handler h = fold-roll-ResolvedHandler Numbers Numbers Numbers Numbers numbers_layer block_numbers_layer branch_numbers_layer handler_numbers_layer h

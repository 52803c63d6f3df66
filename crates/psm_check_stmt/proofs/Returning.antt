-- Whether a RETURN stands in each kind of statement, by its layer.
use Rattle.std.proofs.Common.{◌≡◌, Bool, ◌||◌, List, Option, map}
use denote.Hole.Carrier
use Rattle.psm_list.specs.Several.{Several, several_map}
use Rattle.psm_token.specs.declared.place.Place.{Place}
use Rattle.psm_tree.specs.declared.expr.Expr.{Expr}
use Rattle.psm_tree.specs.declared.statement.Statement.{Statement, roll-Statement}
use Rattle.psm_tree.specs.declared.statement.Statement.TheVariants as statements
use Rattle.psm_tree.specs.declared.statement.Block.{Block, roll-Block}
use Rattle.psm_tree.specs.declared.statement.Block.TheVariants as blocks
use Rattle.psm_tree.specs.declared.statement.Block.TheOpen.{Block-F, Statement-F}
use Rattle.psm_tree.specs.declared.statement.Block.TheOpen as layers
use Rattle.psm_tree.specs.declared.statement.Block.TheFolds.{map-Block, map-Statement, fold-roll-Block, fold-roll-Statement, fold_out-Branch, fold_out-Handler}
use Rattle.psm_tree.specs.declared.statement.Branch.{Branch, out-Branch}
use Rattle.psm_tree.specs.declared.statement.Handler.{Handler, out-Handler}
use Rattle.psm_tree.specs.declared.statement.Label.{Label}
use Rattle.psm_tree.specs.declared.statement.ForHead.{ForHead}
use Rattle.psm_tree.specs.declared.statement.Declaration.{Declaration}
use Rattle.psm_tree.specs.declared.statement.CursorDeclaration.{CursorDeclaration}
use Rattle.psm_tree.specs.declared.statement.Simple.{Simple}
use Rattle.psm_rules.specs.StatementFaults.{several}
use Rattle.psm_rules.specs.FileFaults.{block_returns, branch_returns, handler_returns, has_return, returning_block, returning_branch, returning_handler, returning_statement, returns, some}

block_rolled : (layer : Block-F Block Statement Branch Handler) → block_returns (roll-Block layer) ≡ returning_block (map-Block Block Statement Branch Handler Bool Bool Bool Bool block_returns has_return branch_returns handler_returns layer)
unfolding has_return block_returns branch_returns handler_returns
block_rolled layer = fold-roll-Block Bool Bool Bool Bool returning_block returning_statement returning_branch returning_handler layer

statement_rolled : (layer : Statement-F Block Statement Branch Handler) → has_return (roll-Statement layer) ≡ returning_statement (map-Statement Block Statement Branch Handler Bool Bool Bool Bool block_returns has_return branch_returns handler_returns layer)
unfolding has_return block_returns branch_returns handler_returns
statement_rolled layer = fold-roll-Statement Bool Bool Bool Bool returning_block returning_statement returning_branch returning_handler layer

pub returns-Block : (label : Option Label) (block : Block) → has_return (statements.Block label block) ≡ block_returns block
unfolding roll-Statement Carrier.roll
returns-Block label block = statement_rolled (layers.Block label block)

pub returns-If : (place : Place) (branches : Several Branch) (otherwise : List Statement) → has_return (statements.If place branches otherwise) ≡ (some (several (several_map branch_returns branches)) || some (map has_return otherwise))
unfolding roll-Statement Carrier.roll
returns-If place branches otherwise = statement_rolled (layers.If place branches otherwise)

pub returns-Case : (place : Place) (operand : Option Expr) (branches : Several Branch) (otherwise : List Statement) → has_return (statements.Case place operand branches otherwise) ≡ (some (several (several_map branch_returns branches)) || some (map has_return otherwise))
unfolding roll-Statement Carrier.roll
returns-Case place operand branches otherwise = statement_rolled (layers.Case place operand branches otherwise)

pub returns-Simple : (simple : Simple) → has_return (statements.Simple simple) ≡ returns simple
unfolding roll-Statement Carrier.roll
returns-Simple simple = statement_rolled (layers.Simple simple)

pub ruleset statement_returns = (returns-Block, returns-If, returns-Case, returns-Simple)

pub returns-Compound : (place : Place) (atomic : Bool) (xs : List Declaration) (cursors : List CursorDeclaration) (handlers : List Handler) (body : List Statement) → block_returns (blocks.Compound place atomic xs cursors handlers body) ≡ (some (map handler_returns handlers) || some (map has_return body))
unfolding roll-Block Carrier.roll
returns-Compound place atomic xs cursors handlers body = block_rolled (layers.Compound place atomic xs cursors handlers body)

pub returns-Loop : (place : Place) (body : Several Statement) → block_returns (blocks.Loop place body) ≡ some (several (several_map has_return body))
unfolding roll-Block Carrier.roll
returns-Loop place body = block_rolled (layers.Loop place body)

pub returns-While : (place : Place) (test : Expr) (body : Several Statement) → block_returns (blocks.While place test body) ≡ some (several (several_map has_return body))
unfolding roll-Block Carrier.roll
returns-While place test body = block_rolled (layers.While place test body)

pub returns-Repeat : (place : Place) (body : Several Statement) (until : Expr) → block_returns (blocks.Repeat place body until) ≡ some (several (several_map has_return body))
unfolding roll-Block Carrier.roll
returns-Repeat place body until = block_rolled (layers.Repeat place body until)

pub returns-For : (place : Place) (head : ForHead) (body : Several Statement) → block_returns (blocks.For place head body) ≡ some (several (several_map has_return body))
unfolding roll-Block Carrier.roll
returns-For place head body = block_rolled (layers.For place head body)

pub ruleset block_returns_equations = (returns-Compound, returns-Loop, returns-While, returns-Repeat, returns-For)

pub returns_branch : (branch : Branch) → branch_returns branch ≡ some (several (several_map has_return (out-Branch branch).statements))
unfolding has_return block_returns branch_returns handler_returns
returns_branch branch = fold_out-Branch Bool Bool Bool Bool returning_block returning_statement returning_branch returning_handler branch

pub returns_handler : (handler : Handler) → handler_returns handler ≡ has_return (out-Handler handler).action
unfolding has_return block_returns branch_returns handler_returns
returns_handler handler = fold_out-Handler Bool Bool Bool Bool returning_block returning_statement returning_branch returning_handler handler

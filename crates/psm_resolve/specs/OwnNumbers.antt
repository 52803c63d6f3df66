-- What the declarations of a routine are numbered by, in their order: each variable, a FOR statement's too, by a slot, and each
-- cursor by a number. The conditions without an SQLSTATE are numbered by their places among their names.
use Rattle.std.specs.Prelude.{◌≡◌, ℕ, suc, Option, Some, None, List, [], ◌∷◌, ◌++◌, map, length}
use Rattle.std.specs.List.{concat}
use Rattle.psm_scope.specs.Scopes.{Spelling}
use Rattle.psm_rules.specs.StatementFaults.{several}
use Rattle.psm_tree.specs.declared.types.State.{State}
use Rattle.psm_tree.specs.declared.statement.Block.{Block}
use Rattle.psm_tree.specs.declared.statement.Branch.{Branch}
use Rattle.psm_tree.specs.declared.statement.Declaration.{Declaration}
use Rattle.psm_tree.specs.declared.statement.Declaration.TheVariants as declarations
use Rattle.psm_tree.specs.declared.statement.Handler.{Handler}
use Rattle.psm_tree.specs.declared.statement.Statement.{Statement}
use Rattle.psm_tree.specs.declared.statement.Block.TheOpen.{Statement-F, Block-F, Branch-F, Handler-F}
use Rattle.psm_tree.specs.declared.statement.Block.TheOpen as written
use Rattle.psm_tree.specs.declared.statement.Block.TheFolds.{fold-Statement, fold-Block, fold-Branch, fold-Handler}
use Rattle.psm_resolved.specs.declared.file.ResolvedRoutine.{ResolvedRoutine}
use Rattle.psm_resolved.specs.declared.statement.ResolvedBlock.{ResolvedBlock}
use Rattle.psm_resolved.specs.declared.statement.ResolvedBranch.{ResolvedBranch}
use Rattle.psm_resolved.specs.declared.statement.ResolvedCursor.{ResolvedCursor}
use Rattle.psm_resolved.specs.declared.statement.ResolvedDeclaration.{ResolvedDeclaration}
use Rattle.psm_resolved.specs.declared.statement.ResolvedFor.{ResolvedFor}
use Rattle.psm_resolved.specs.declared.statement.ResolvedHandler.{ResolvedHandler}
use Rattle.psm_resolved.specs.declared.statement.ResolvedStatement.{ResolvedStatement}
use Rattle.psm_resolved.specs.declared.statement.ResolvedStatement.TheOpen.{ResolvedStatement-F, ResolvedBlock-F, ResolvedBranch-F, ResolvedHandler-F}
use Rattle.psm_resolved.specs.declared.statement.ResolvedStatement.TheOpen as layers
use Rattle.psm_resolved.specs.declared.statement.ResolvedStatement.TheFolds.{fold-ResolvedStatement, fold-ResolvedBlock, fold-ResolvedBranch, fold-ResolvedHandler}

-- ---- resolved statements

-- the slots of variables and the numbers of cursors
pub record Numbers : Type 0 where
  pub slots : List ℕ
  pub cursors : List ℕ

abbrev pub no_numbers : Numbers
no_numbers = record { slots = []; cursors = [] }

abbrev pub beside : Numbers → Numbers → Numbers
beside a b = record { slots = a.slots ++ b.slots; cursors = a.cursors ++ b.cursors }

abbrev pub together : List Numbers → Numbers
together [] = no_numbers
together (a ∷ others) = beside a (together others)

abbrev pub variables_in : List ResolvedDeclaration → Numbers
variables_in xs = record { slots = concat (map (λ x. x.slots) xs); cursors = [] }

abbrev pub cursors_in : List ResolvedCursor → Numbers
cursors_in xs = record { slots = []; cursors = map (λ x. x.number) xs }

abbrev pub numbers_of_head : ResolvedFor → Numbers
numbers_of_head head = record { slots = head.slots; cursors = head.cursor.number ∷ [] }

-- those of the layers, in which the parts are what they have
abbrev pub numbers_layer : ResolvedStatement-F Numbers Numbers Numbers Numbers → Numbers
numbers_layer (layers.Compound level block) = block
numbers_layer (layers.Loop level statements) = together statements
numbers_layer (layers.While level test statements) = together statements
numbers_layer (layers.Repeat level statements until) = together statements
numbers_layer (layers.For level head statements) = beside (numbers_of_head head) (together statements)
numbers_layer (layers.If branches otherwise) = beside (together branches) (together otherwise)
numbers_layer (layers.Case operand branches otherwise) = beside (together branches) (together otherwise)
numbers_layer (layers.Simple simple) = no_numbers

abbrev pub block_numbers_layer : ResolvedBlock-F Numbers Numbers Numbers Numbers → Numbers
block_numbers_layer b = beside (variables_in b.declarations) (beside (cursors_in b.cursors) (beside (together b.handlers) (together b.statements)))

abbrev pub branch_numbers_layer : ResolvedBranch-F Numbers Numbers Numbers Numbers → Numbers
branch_numbers_layer b = together b.statements

abbrev pub handler_numbers_layer : ResolvedHandler-F Numbers Numbers Numbers Numbers → Numbers
handler_numbers_layer h = h.action

-- what the declarations in a statement are numbered by
abbrev pub numbers_of : ResolvedStatement → Numbers
numbers_of = fold-ResolvedStatement Numbers Numbers Numbers Numbers numbers_layer block_numbers_layer branch_numbers_layer handler_numbers_layer

abbrev pub numbers_of_block : ResolvedBlock → Numbers
numbers_of_block = fold-ResolvedBlock Numbers Numbers Numbers Numbers numbers_layer block_numbers_layer branch_numbers_layer handler_numbers_layer

abbrev pub numbers_of_branch : ResolvedBranch → Numbers
numbers_of_branch = fold-ResolvedBranch Numbers Numbers Numbers Numbers numbers_layer block_numbers_layer branch_numbers_layer handler_numbers_layer

abbrev pub numbers_of_handler : ResolvedHandler → Numbers
numbers_of_handler = fold-ResolvedHandler Numbers Numbers Numbers Numbers numbers_layer block_numbers_layer branch_numbers_layer handler_numbers_layer

-- ---- conditions, of which a resolved statement keeps no declaration

abbrev pub with_own_name : Spelling → Option State → List Spelling → List Spelling
with_own_name name None names = name ∷ names
with_own_name name (Some state) names = names

-- the names of conditions without an SQLSTATE
abbrev pub condition_names : List Declaration → List Spelling
condition_names [] = []
condition_names (declarations.Variables place names kind default ∷ xs) = condition_names xs
condition_names (declarations.Condition place name state ∷ xs) = with_own_name name.name state (condition_names xs)

abbrev pub all_names : List (List Spelling) → List Spelling
all_names [] = []
all_names (names ∷ others) = names ++ all_names others

-- those of the layers
abbrev pub block_names_layer : Block-F (List Spelling) (List Spelling) (List Spelling) (List Spelling) → List Spelling
block_names_layer (written.Compound place atomic xs cursors handlers statements) = condition_names xs ++ (all_names handlers ++ all_names statements)
block_names_layer (written.Loop place statements) = all_names (several statements)
block_names_layer (written.While place test statements) = all_names (several statements)
block_names_layer (written.Repeat place statements until) = all_names (several statements)
block_names_layer (written.For place head statements) = all_names (several statements)

abbrev pub names_layer : Statement-F (List Spelling) (List Spelling) (List Spelling) (List Spelling) → List Spelling
names_layer (written.Block label block) = block
names_layer (written.If place branches otherwise) = all_names (several branches) ++ all_names otherwise
names_layer (written.Case place operand branches otherwise) = all_names (several branches) ++ all_names otherwise
names_layer (written.Simple simple) = []

abbrev pub branch_names_layer : Branch-F (List Spelling) (List Spelling) (List Spelling) (List Spelling) → List Spelling
branch_names_layer b = all_names (several b.statements)

abbrev pub handler_names_layer : Handler-F (List Spelling) (List Spelling) (List Spelling) (List Spelling) → List Spelling
handler_names_layer h = h.action

-- the names of the conditions without an SQLSTATE that are declared in a statement
abbrev pub own_conditions : Statement → List Spelling
own_conditions = fold-Statement (List Spelling) (List Spelling) (List Spelling) (List Spelling) block_names_layer names_layer branch_names_layer handler_names_layer

abbrev pub own_conditions_of_block : Block → List Spelling
own_conditions_of_block = fold-Block (List Spelling) (List Spelling) (List Spelling) (List Spelling) block_names_layer names_layer branch_names_layer handler_names_layer

abbrev pub own_conditions_of_branch : Branch → List Spelling
own_conditions_of_branch = fold-Branch (List Spelling) (List Spelling) (List Spelling) (List Spelling) block_names_layer names_layer branch_names_layer handler_names_layer

abbrev pub own_conditions_of_handler : Handler → List Spelling
own_conditions_of_handler = fold-Handler (List Spelling) (List Spelling) (List Spelling) (List Spelling) block_names_layer names_layer branch_names_layer handler_names_layer

-- ---- routines

-- the numbers from one up to another, each once and in order
abbrev pub CountsUp : ℕ → List ℕ → ℕ → Type 0
CountsUp from [] to = from ≡ to
CountsUp from (n ∷ ns) to = (n ≡ from) × CountsUp (suc from) ns to

-- Each variable has a slot of its own after those of the parameters, each cursor a number of its own, and each slot and each
-- number is a declaration's.
pub record HasNumbersOfItsOwn (r : ResolvedRoutine) : Type 0 where
  pub slots : CountsUp (length r.parameters) (numbers_of r.body).slots (length r.slots)
  pub cursors : CountsUp 0 (numbers_of r.body).cursors r.cursors

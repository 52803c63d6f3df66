-- Which cursor of the code stands for a cursor, and where a statement sees one (ISO/IEC 9075:1992, 13.1).
use Rattle.std.specs.Prelude.{◌≡◌, ℕ, List, find, nat_eq, slice_get, Some}
use Rattle.psm_value.specs.declared.datum.Datum.{Datum}
use Rattle.psm_table.specs.Cursors.{Position, advanced}
use Rattle.psm_table.specs.Evaluator.{values_of}
use Rattle.psm_table.specs.Queries as trees_of
use Rattle.psm_exprcode.specs.declared.items.Items.{Items}
use Rattle.psm_exprcode.specs.declared.items.Items.TheVariants as items_of
use Rattle.psm_resolved.specs.declared.expr.ResolvedExpr.{ResolvedExpr}
use Rattle.psm_resolved.specs.declared.statement.ResolvedCursor.{ResolvedCursor}
use Rattle.psm_meaning.specs.Rows as trees
use Rattle.psm_code.specs.declared.code.CodeCursor.{CodeCursor}
use Rattle.psm_code.specs.declared.code.RawRoutine.{RawRoutine}
use Rattle.psm_tablecode.specs.Codes as codes
use Rattle.psm_simulation.specs.Env.{Env}
use Rattle.psm_simulation.specs.Expressions.{IsQuery}

-- the items of a row are the same over all rows and variables
abbrev pub SameItems : Items → trees_of.Items ResolvedExpr → Type 0
SameItems (items_of.Rows es) (trees_of.Rows fs) = (vars : List Datum) (row : List Datum) → values_of (codes.over vars) es row ≡ values_of (trees.over vars) fs row
SameItems (items_of.Rows es) (trees_of.Sets sets) = ⊥
SameItems (items_of.Sets sets) (trees_of.Rows fs) = ⊥
SameItems (items_of.Sets sets) (trees_of.Sets others) = Unit {0}

-- a cursor of the routine's code has the same number, name and sensitivity, and a query that finds the same rows
pub record IsCursor (r : RawRoutine) (x : ResolvedCursor) : Type 0 where
  pub code : CodeCursor
  pub there : slice_get r.cursors x.number ≡ Some code
  pub name : code.name ≡ x.name
  pub insensitive : code.insensitive ≡ x.insensitive
  pub query : IsQuery r code.query x.query
  pub moves : (vars : List Datum) (key : List ℕ) (rows : List (List Datum)) (p : Position) → advanced (codes.over vars) (codes.query_of query.code) key rows p ≡ advanced (trees.over vars) (trees.query_of x.query) key rows p
  pub items : SameItems query.code.items (trees.query_of x.query).items

-- the innermost cursor with that number that a statement sees
pub record Sees (r : RawRoutine) (env : Env) (number : ℕ) (x : ResolvedCursor) : Type 0 where
  pub first : find (λ y. nat_eq y.number number) env.cursors ≡ Some x
  pub cursor : IsCursor r x

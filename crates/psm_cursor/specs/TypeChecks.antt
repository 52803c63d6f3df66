-- When a cursor may be moved over a table.
use Rattle.std.specs.Prelude.{List, IfSome}
use Rattle.psm_exprcode.specs.declared.items.Items.{Items}
use Rattle.psm_exprcode.specs.declared.items.Items.TheVariants.{Rows, Sets}
use Rattle.psm_exprcode.specs.declared.query.Query.{Query}
use Rattle.psm_value.specs.declared.datum.Datum.{Datum}
use Rattle.psm_table.specs.Cursors.{Cursor, Closed, Plain, Insensitive, Position}
use Rattle.psm_table.specs.Definition.{IsKey}
use Rattle.psm_table.specs.declared.definition.TableDef.{TableDef}
use Rattle.psm_tablecode.specs.TypeChecks.{TypeChecksTable}

-- each item is of one row, and none is a set function
abbrev pub HasRows : Items → Type 0
HasRows (Rows codes) = Unit {0}
HasRows (Sets sets) = ⊥

-- the key that a plain cursor reached is one of the table
abbrev pub IsPosition : TableDef → Position → Type 0
IsPosition def p = IfSome p.bound (IsKey def)

abbrev pub StandsIn : TableDef → Cursor → Type 0
StandsIn def Closed = Unit {0}
StandsIn def (Plain p vars) = IsPosition def p
StandsIn def (Insensitive rows) = Unit {0}

-- the query of a plain cursor fits the table and the variables that the cursor keeps, and has no set functions
pub record TypeChecksPlain (query : Query) (vars : List Datum) (def : TableDef) : Type 0 where
  pub fits : TypeChecksTable query vars def
  pub rows : HasRows query.items

abbrev pub TypeChecksCursor : Query → TableDef → Cursor → Type 0
TypeChecksCursor query def Closed = Unit {0}
TypeChecksCursor query def (Plain p vars) = TypeChecksPlain query vars def × IsPosition def p
TypeChecksCursor query def (Insensitive rows) = Unit {0}

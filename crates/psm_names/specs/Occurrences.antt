-- The occurrences of names and of declarations in a routine, each with the scopes around it, and what look-up gives for each.
--
-- A declaration is known by its ordinal: how many variables, or cursors, or conditions without an SQLSTATE, are declared before it
-- in its routine. A block is known by its level, the number of scopes around it. In
--     CREATE PROCEDURE p (OUT a INTEGER)                            -- a is variable 0
--     l: BEGIN DECLARE b, a INTEGER DEFAULT a;                      -- b, a are variables 1, 2; the DEFAULT is variable 0
--       DECLARE CONTINUE HANDLER FOR NOT FOUND SET a = 1;           -- variable 2
--       f: FOR g AS SELECT b FROM t DO SET p.a = b; LEAVE l; END FOR; END  -- SET variable 0 to variable 3; level 1
-- t has a column b, which comes first in the query; the FOR statement declares it as variable 3.
use Rattle.std.specs.Prelude.{ℕ, suc, codes, List, [], ◌∷◌, ◌++◌, Option, Some, None, Result, Ok, Err}
use Rattle.psm_value.specs.declared.sqltype.SqlType.{SqlType}
use Rattle.psm_scope.specs.Scopes.{Spelling, Scope}
use Rattle.psm_scope.specs.Lookup.{Meaning, RowTable, meant, meant_on_row, as_variable, index_named}
use Rattle.psm_scope.specs.Lookup as lookup
use Rattle.psm_scope.specs.KeptScopes.{level}
use Rattle.psm_scope.specs.Routines.{function, procedure}
use Rattle.psm_scope.specs.declared.fault.ChoiceFault.{ChoiceFault}
use Rattle.psm_scope.specs.declared.kinds.ArgKind.{ArgKind}
use Rattle.psm_scope.specs.declared.procedures.ProcedureScope.{ProcedureScope}
use Rattle.psm_rules.specs.CheckerScope.{Columns, SymbolTable}
use Rattle.psm_rules.specs.StatementFaults.{good_state}
use Rattle.psm_tree.specs.declared.name.Target.{Target}
use Rattle.psm_tree.specs.declared.types.State.{State}
use Rattle.psm_rules.specs.ExprFaults.{spelling}
use Rattle.psm_resolved.specs.declared.statement.ResolvedCondition.{ResolvedCondition}
use Rattle.psm_resolved.specs.declared.statement.ResolvedCondition.TheVariants as conditions
use Rattle.psm_names.specs.Referents.{Referent, Null, Column, Variable, Cursor, Condition, Block, Table, Procedure, Function, Declaration}

-- a variable is known by its ordinal, and has a type
pub record KnownVariable : Type 0 where
  pub ordinal : ℕ
  pub kind : Option SqlType

-- the scopes around an occurrence, innermost first; a cursor is known by its ordinal
abbrev pub EnclosingScopes : Type 0
EnclosingScopes = List (Scope KnownVariable ResolvedCondition ℕ)

-- where an expression stands: a row expression has the table of its row
pub record Site : Type 0 where
  pub symbols : SymbolTable
  pub scopes : EnclosingScopes
  pub row : Option (RowTable (Option SqlType))

pub data Occurrence : Type 0 where
  NullLiteral : Occurrence
  -- a name, or q.n, in an expression
  Name : Target → Site → Occurrence
  -- `*`, or the columns of an INSERT that names none
  EachColumn : Columns → Occurrence
  -- a name, or q.n, that is assigned to
  Assigned : Target → EnclosingScopes → Occurrence
  -- an expression that is no name where one is to be assigned to
  NoTarget : Occurrence
  -- a column that an INSERT or an UPDATE names
  ColumnName : Spelling → Columns → Occurrence
  TableName : Spelling → Occurrence
  CursorName : Spelling → EnclosingScopes → Occurrence
  Label : Spelling → EnclosingScopes → Occurrence
  ConditionName : Spelling → EnclosingScopes → Occurrence
  StateName : State → Occurrence
  -- CALL, with the number of its arguments
  ProcedureName : Spelling → ℕ → Occurrence
  -- a call of a function, with the kinds of its arguments
  FunctionName : Spelling → List ArgKind → Occurrence
  -- what is declared there, or a block that begins there, and its name; an item of a FOR statement, its cursor and a block may have none
  Declared : Option Spelling → Referent → Occurrence

-- ---- what look-up gives; where it gives nothing, in no accepted file, NULL or the number 0 stands for it

abbrev pub of_meaning : Option (Meaning KnownVariable (Option SqlType)) → Referent
of_meaning None = Null
of_meaning (Some (lookup.Column i t)) = Column i
of_meaning (Some (lookup.Variable v)) = Variable v.ordinal

-- in a row expression the columns of the table come first
abbrev pub name_meaning : Target → EnclosingScopes → Option (RowTable (Option SqlType)) → Option (Meaning KnownVariable (Option SqlType))
name_meaning t scopes None = as_variable (meant t.first.name (spelling t.second) scopes)
name_meaning t scopes (Some row) = meant_on_row t.first.name (spelling t.second) row scopes

abbrev pub or_zero : Option ℕ → ℕ
or_zero None = 0
or_zero (Some n) = n

abbrev pub ordinal_in : Option KnownVariable → ℕ
ordinal_in None = 0
ordinal_in (Some v) = v.ordinal

abbrev pub or_first : Option ResolvedCondition → ResolvedCondition
or_first None = conditions.Own 0
or_first (Some c) = c

-- a text that is no SQLSTATE of a condition stands for success
abbrev pub state_or_success : Option Spelling → ResolvedCondition
state_or_success None = conditions.State (codes "00000")
state_or_success (Some s) = conditions.State s

abbrev pub place_of : {A : Type 0} → Option (ℕ × A) → ℕ
place_of None = 0
place_of (Some p) = p.0

abbrev pub procedure_number : Option ProcedureScope → ℕ
procedure_number None = 0
procedure_number (Some p) = p.number

abbrev pub function_number : Result (ℕ × Option SqlType) ChoiceFault → ℕ
function_number (Ok p) = p.0
function_number (Err fault) = 0

abbrev pub columns_from : ℕ → Columns → List Referent
columns_from i [] = []
columns_from i (c ∷ columns) = Column i ∷ columns_from (suc i) columns

-- no declaration of a condition is kept
abbrev pub of_declared : Referent → List Referent
of_declared Null = []
of_declared (Condition c) = []
of_declared r = Declaration r ∷ []

abbrev pub referents : SymbolTable → Occurrence → List Referent
referents symbols NullLiteral = Null ∷ []
referents symbols (Name t site) = of_meaning (name_meaning t site.scopes site.row) ∷ []
referents symbols (EachColumn columns) = columns_from 0 columns
referents symbols (Assigned t scopes) = Variable (ordinal_in (meant t.first.name (spelling t.second) scopes)) ∷ []
referents symbols NoTarget = Variable 0 ∷ []
referents symbols (ColumnName n columns) = Column (place_of (index_named 0 n columns)) ∷ []
referents symbols (TableName n) = Table (place_of (index_named 0 n symbols.tables)) ∷ []
referents symbols (CursorName n scopes) = Cursor (or_zero (lookup.cursor n scopes)) ∷ []
referents symbols (Label l scopes) = Block (or_zero (level l scopes)) ∷ []
referents symbols (ConditionName n scopes) = Condition (or_first (lookup.condition n scopes)) ∷ []
referents symbols (StateName s) = Condition (state_or_success (good_state s.text)) ∷ []
referents symbols (ProcedureName n count) = Procedure (procedure_number (procedure n count symbols.procedures)) ∷ []
referents symbols (FunctionName n kinds) = Function (function_number (function symbols.functions n kinds)) ∷ []
referents symbols (Declared name r) = of_declared r

abbrev pub looked_up : SymbolTable → List Occurrence → List Referent
looked_up symbols [] = []
looked_up symbols (o ∷ os) = referents symbols o ++ looked_up symbols os

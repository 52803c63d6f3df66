-- Which declaration a name of a routine means: what look-up finds is declared before the name occurs, by that name; and each variable,
-- cursor and condition without an SQLSTATE has a number that no other one has (ISO/IEC 9075-4:1996, compound statement).
use Rattle.std.specs.Prelude.{◌≡◌, ◌⊎◌, ℕ, suc, List, [], ◌∷◌, ◌++◌, length, drop, map, slice_get, Contains, Option, Some, None, option_map, if◌then◌else◌}
use Rattle.psm_value.specs.declared.sqltype.SqlType.{SqlType}
use Rattle.psm_scope.specs.Scopes.{Spelling, is_spelled}
use Rattle.psm_scope.specs.Lookup.{Meaning, RowTable, meant, index_named, named, or_else}
use Rattle.psm_scope.specs.Lookup as lookup
use Rattle.psm_scope.specs.KeptScopes.{declared_here, level}
use Rattle.psm_rules.specs.CheckerScope.{SymbolTable}
use Rattle.psm_rules.specs.BlockFaults.{last_name}
use Rattle.psm_rules.specs.ExprFaults.{spelling}
use Rattle.psm_tree.specs.declared.file.Routine.{Routine}
use Rattle.psm_tree.specs.declared.statement.CursorDeclaration.{CursorDeclaration}
use Rattle.psm_tree.specs.declared.statement.Declaration.{Declaration as DeclarationTree}
use Rattle.psm_tree.specs.declared.statement.ForHead.{ForHead}
use Rattle.psm_resolve.specs.OwnNumbers.{CountsUp}
use Rattle.psm_resolved.specs.declared.file.ResolvedRoutine.{ResolvedRoutine}
use Rattle.psm_resolved.specs.declared.statement.ResolvedCondition.{ResolvedCondition}
use Rattle.psm_resolved.specs.declared.statement.ResolvedCondition.TheVariants as conditions
use Rattle.psm_names.specs.Referents.{Referent, Null, Variable, Cursor, Condition, Block, Declaration, together}
use Rattle.psm_names.specs.Occurrences.{EnclosingScopes, KnownVariable, Occurrence, Name, Assigned, ColumnName, TableName, CursorName, Label, ConditionName, NullLiteral, EachColumn, NoTarget, StateName, ProcedureName, FunctionName, Declared, Site, name_meaning}
use Rattle.psm_names.specs.ExprOccurrences.{row_columns}
use Rattle.psm_names.specs.Declaring.{Ordinals, Point, in_cursors, in_declarations, in_for, in_head, variables_from, with_cursors, with_declarations}
use Rattle.psm_names.specs.StatementOccurrences.{begin, parameter_names}
use Rattle.psm_names.specs.StatementReferents.{routine_referents}

-- ---- numbers

-- the slot of a variable or a parameter that is declared
abbrev pub slot_of : Referent → List ℕ
slot_of (Declaration (Variable k)) = k ∷ []
slot_of r = []

abbrev pub cursor_of : Referent → List ℕ
cursor_of (Declaration (Cursor k)) = k ∷ []
cursor_of r = []

-- The slots of a resolved routine are those of its declarations, in their order with the parameters first, and so are the numbers of
-- its cursors: each number is that of one declaration.
pub record NumbersEachOnce (r : ResolvedRoutine) : Type 0 where
  pub slots : CountsUp 0 (together (map slot_of (routine_referents r))) (length r.slots)
  pub cursors : CountsUp 0 (together (map cursor_of (routine_referents r))) r.cursors

-- a condition without an SQLSTATE that is declared, with its number
abbrev pub own_condition : Occurrence → List (Option Spelling × ℕ)
own_condition (Declared name (Condition (conditions.Own k))) = (name, k) ∷ []
own_condition o = []

-- each name with its place among the names, counted from k
abbrev pub in_order : ℕ → List Spelling → List (Option Spelling × ℕ)
in_order k [] = []
in_order k (n ∷ ns) = (Some n, k) ∷ in_order (suc k) ns

-- ---- what look-up finds, if it finds something, has the name, and was declared

-- in a list of what has names, it is the one with the number
abbrev pub IsNamed : {A : Type 0} → Spelling → List (Spelling × A) → Option (ℕ × A) → Type 0
IsNamed n xs None = Unit {0}
IsNamed n xs (Some p) = slice_get xs p.0 ≡ Some (n, p.1)

abbrev pub IsVariable : List Occurrence → Spelling → Option KnownVariable → Type 0
IsVariable before n None = Unit {0}
IsVariable before n (Some v) = Contains before (Declared (Some n) (Variable v.ordinal))

abbrev pub IsMeant : List Occurrence → Spelling → Option (RowTable (Option SqlType)) → Option (Meaning KnownVariable (Option SqlType)) → Type 0
IsMeant before n row None = Unit {0}
IsMeant before n row (Some (lookup.Column i t)) = slice_get (row_columns row) i ≡ Some (n, t)
IsMeant before n row (Some (lookup.Variable v)) = Contains before (Declared (Some n) (Variable v.ordinal))

abbrev pub IsCursor : List Occurrence → Spelling → Option ℕ → Type 0
IsCursor before n None = Unit {0}
IsCursor before n (Some k) = Contains before (Declared (Some n) (Cursor k))

abbrev pub IsBlock : List Occurrence → Spelling → Option ℕ → Type 0
IsBlock before n None = Unit {0}
IsBlock before n (Some k) = Contains before (Declared (Some n) (Block k))

-- or it was declared FOR a text that is no SQLSTATE of a condition, in no accepted file
abbrev pub IsCondition : List Occurrence → Spelling → Option ResolvedCondition → Type 0
IsCondition before n None = Unit {0}
IsCondition before n (Some c) = Contains before (Declared (Some n) (Condition c)) ⊎ Contains before (Declared (Some n) Null)

-- tables and routines are known in the whole file
abbrev pub IsDeclared : SymbolTable → List Occurrence → Occurrence → Type 0
IsDeclared symbols before NullLiteral = Unit {0}
IsDeclared symbols before (Name t site) = IsMeant before (last_name t.first t.second) site.row (name_meaning t site.scopes site.row)
IsDeclared symbols before (EachColumn columns) = Unit {0}
IsDeclared symbols before (Assigned t scopes) = IsVariable before (last_name t.first t.second) (meant t.first.name (spelling t.second) scopes)
IsDeclared symbols before NoTarget = Unit {0}
IsDeclared symbols before (ColumnName n columns) = IsNamed n columns (index_named 0 n columns)
IsDeclared symbols before (TableName n) = IsNamed n symbols.tables (index_named 0 n symbols.tables)
IsDeclared symbols before (CursorName n scopes) = IsCursor before n (lookup.cursor n scopes)
IsDeclared symbols before (Label l scopes) = IsBlock before l (level l scopes)
IsDeclared symbols before (ConditionName n scopes) = IsCondition before n (lookup.condition n scopes)
IsDeclared symbols before (StateName s) = Unit {0}
IsDeclared symbols before (ProcedureName n count) = Unit {0}
IsDeclared symbols before (FunctionName n kinds) = Unit {0}
IsDeclared symbols before (Declared name r) = Unit {0}

-- of each occurrence, after those before it
abbrev pub AreDeclared : SymbolTable → List Occurrence → List Occurrence → Type 0
AreDeclared symbols before [] = Unit {0}
AreDeclared symbols before (o ∷ os) = IsDeclared symbols before o × AreDeclared symbols (before ++ o ∷ []) os

-- ---- what a scope declares: of each name, the first declaration there

-- the first answer
abbrev pub first_in : {A : Type 0} → (Occurrence → Option A) → List Occurrence → Option A
first_in f [] = None
first_in f (o ∷ os) = or_else (f o) (first_in f os)

abbrev pub variable_named : Spelling → Occurrence → Option ℕ
variable_named n (Declared (Some m) (Variable k)) = if is_spelled n m then Some k else None
variable_named n o = None

abbrev pub cursor_named : Spelling → Occurrence → Option ℕ
cursor_named n (Declared (Some m) (Cursor k)) = if is_spelled n m then Some k else None
cursor_named n o = None

-- one FOR a text that is no SQLSTATE of a condition is in no accepted file
abbrev pub condition_named : Spelling → Occurrence → Option ResolvedCondition
condition_named n (Declared (Some m) (Condition c)) = if is_spelled n m then Some c else None
condition_named n (Declared (Some m) Null) = if is_spelled n m then Some (conditions.Own 0) else None
condition_named n o = None

-- the innermost scope declares what is declared among the occurrences, and the others are those around
pub record Holds (scopes : EnclosingScopes) (os : List Occurrence) (around : EnclosingScopes) : Type 0 where
  pub variables : (n : Spelling) → option_map (λ v. v.ordinal) (named n (declared_here scopes).variables) ≡ first_in (variable_named n) os
  pub conditions : (n : Spelling) → named n (declared_here scopes).conditions ≡ first_in (condition_named n) os
  pub cursors : (n : Spelling) → named n (declared_here scopes).cursors ≡ first_in (cursor_named n) os
  pub others : drop 1 scopes ≡ around

-- a compound statement from the point where its scope is open and empty, a FOR statement, and a routine
abbrev pub CompoundHolds : SymbolTable → Point → List DeclarationTree → List CursorDeclaration → EnclosingScopes → Type 0
CompoundHolds symbols opened xs cursors around = let declared = with_declarations opened xs in
    Holds (with_cursors declared cursors).0 (in_declarations symbols opened xs ++ in_cursors symbols declared cursors) around

abbrev pub ForHolds : Option Spelling → Site → ForHead → Ordinals → Type 0
ForHolds label site head n = Holds (in_for site label head n).0 (in_head site head n) site.scopes

abbrev pub RoutineHolds : Routine → Type 0
RoutineHolds r = Holds (begin r).0 (variables_from 0 (parameter_names r.parameters)) []

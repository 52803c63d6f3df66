-- The numbers in a resolved routine are those of its declarations, and what is declared before its names.
use Rattle.std.proofs.Common.{◌≡◌, ℕ, suc, List, [], ◌∷◌, ◌++◌, length, map, Option, Some, None, refl, ap, sym, ◌∙◌, subst}
use Rattle.psm_value.specs.declared.sqltype.SqlType.{SqlType}
use Rattle.psm_scope.specs.Scopes.{Spelling}
use Rattle.psm_scope.specs.Lookup.{Meaning}
use Rattle.psm_scope.specs.Lookup as lookup
use Rattle.psm_rules.specs.CheckerScope.{Columns, SymbolTable}
use Rattle.psm_rules.specs.FileFaults.{no_symbols, table_elements}
use Rattle.psm_tree.specs.declared.file.ColumnRule.{ColumnRule}
use Rattle.psm_tree.specs.declared.file.ColumnRuleForm.{ColumnRuleForm}
use Rattle.psm_tree.specs.declared.file.ColumnRuleForm.TheVariants as column_rules
use Rattle.psm_tree.specs.declared.file.Element.{Element}
use Rattle.psm_tree.specs.declared.file.Element.TheVariants as elements
use Rattle.psm_tree.specs.declared.file.Routine.{Routine}
use Rattle.psm_tree.specs.declared.file.TableRuleForm.{TableRuleForm}
use Rattle.psm_tree.specs.declared.file.TableRuleForm.TheVariants as table_rules
use Rattle.psm_tree.specs.declared.file.TableTree.{TableTree}
use Rattle.psm_resolve.proofs.EachOwn.{own-conditions}
use Rattle.psm_resolve.specs.Blocks.{resolve_statement}
use Rattle.psm_resolve.specs.Files.{resolve_routine, routine_numbered}
use Rattle.psm_resolve.specs.OwnNumbers.{CountsUp}
use Rattle.psm_names.specs.Referents.{Referent, Null, Column, Variable, Cursor, Condition, Block, Table, Procedure, Function, Declaration, together}
use Rattle.psm_names.specs.Occurrences.{KnownVariable, Occurrence, NullLiteral, Name, EachColumn, Assigned, NoTarget, ColumnName, TableName, CursorName, Label, ConditionName, StateName, ProcedureName, FunctionName, Declared, columns_from, looked_up, name_meaning, of_declared, of_meaning, referents}
use Rattle.psm_names.specs.Declaring.{control}
use Rattle.psm_names.specs.DeclaredNames.{AreDeclared, NumbersEachOnce, cursor_of, in_order, own_condition, slot_of}
use Rattle.psm_names.specs.FileOccurrences.{in_checks, in_column_rule, in_element, in_table_rule, of_table}
use Rattle.psm_names.specs.StatementOccurrences.{begin, routine_occurrences, statement_occurrences}
use Rattle.psm_names.proofs.AtScopes.{AllAt, at-both, at-none, expr-all_at}
use Rattle.psm_names.proofs.DeclaredBefore.{routine-opens}
use Rattle.psm_names.proofs.Exprs.{together-append}
use Rattle.psm_names.proofs.Opening.{cursor_in, each-declared, nothing-in, slot_in}
use Rattle.psm_names.proofs.Points.{ordinals}
use Rattle.psm_names.proofs.Statements.{body-lists, routine-gives}

-- ---- numbers that stand in resolved trees

-- a number of a declaration that stands there
record Kept (of : Referent → List ℕ) (in_one : Occurrence → List ℕ) : Type 0 where
  columns : (i : ℕ) → of (Column i) ≡ []
  same : (symbols : SymbolTable) (o : Occurrence) → ((columns : Columns) (i : ℕ) → together (map of (columns_from i columns)) ≡ []) → together (map of (referents symbols o)) ≡ in_one o

columns-none : (of : Referent → List ℕ) → ((i : ℕ) → of (Column i) ≡ []) → (columns : Columns) (i : ℕ) → together (map of (columns_from i columns)) ≡ []
columns-none of h [] i = refl
columns-none of h (c ∷ columns) i = ap (λ l. l ++ together (map of (columns_from (suc i) columns))) (h i) ∙ columns-none of h columns (suc i)

kept-in : (of : Referent → List ℕ) (in_one : Occurrence → List ℕ) → Kept of in_one → (symbols : SymbolTable) (os : List Occurrence) → together (map of (looked_up symbols os)) ≡ together (map in_one os)
kept-in of in_one k symbols [] = refl
kept-in of in_one k symbols (o ∷ os) =
    together-append of (referents symbols o) (looked_up symbols os)
    ∙ ap (λ l. l ++ together (map of (looked_up symbols os))) (k.same symbols o (columns-none of k.columns))
    ∙ ap (λ l. in_one o ++ l) (kept-in of in_one k symbols os)

meaning-slot : (m : Option (Meaning KnownVariable (Option SqlType))) → together (map slot_of (of_meaning m ∷ [])) ≡ []
meaning-slot None = refl
meaning-slot (Some (lookup.Column i t)) = refl
meaning-slot (Some (lookup.Variable v)) = refl

declared-slot : (name : Option Spelling) (r : Referent) → together (map slot_of (of_declared r)) ≡ slot_in (Declared name r)
declared-slot name Null = refl
declared-slot name (Column i) = refl
declared-slot name (Variable k) = refl
declared-slot name (Cursor k) = refl
declared-slot name (Condition c) = refl
declared-slot name (Block k) = refl
declared-slot name (Table i) = refl
declared-slot name (Procedure i) = refl
declared-slot name (Function i) = refl
declared-slot name (Declaration r) = refl

slot-same : (symbols : SymbolTable) (o : Occurrence) → ((columns : Columns) (i : ℕ) → together (map slot_of (columns_from i columns)) ≡ []) → together (map slot_of (referents symbols o)) ≡ slot_in o
slot-same symbols NullLiteral h = refl
slot-same symbols (Name t site) h = meaning-slot (name_meaning t site.scopes site.row)
slot-same symbols (EachColumn columns) h = h columns 0
slot-same symbols (Assigned t scopes) h = refl
slot-same symbols NoTarget h = refl
slot-same symbols (ColumnName n columns) h = refl
slot-same symbols (TableName n) h = refl
slot-same symbols (CursorName n scopes) h = refl
slot-same symbols (Label l scopes) h = refl
slot-same symbols (ConditionName n scopes) h = refl
slot-same symbols (StateName s) h = refl
slot-same symbols (ProcedureName n count) h = refl
slot-same symbols (FunctionName n kinds) h = refl
slot-same symbols (Declared name r) h = declared-slot name r

meaning-cursor : (m : Option (Meaning KnownVariable (Option SqlType))) → together (map cursor_of (of_meaning m ∷ [])) ≡ []
meaning-cursor None = refl
meaning-cursor (Some (lookup.Column i t)) = refl
meaning-cursor (Some (lookup.Variable v)) = refl

declared-cursor : (name : Option Spelling) (r : Referent) → together (map cursor_of (of_declared r)) ≡ cursor_in (Declared name r)
declared-cursor name Null = refl
declared-cursor name (Column i) = refl
declared-cursor name (Variable k) = refl
declared-cursor name (Cursor k) = refl
declared-cursor name (Condition c) = refl
declared-cursor name (Block k) = refl
declared-cursor name (Table i) = refl
declared-cursor name (Procedure i) = refl
declared-cursor name (Function i) = refl
declared-cursor name (Declaration r) = refl

cursor-same : (symbols : SymbolTable) (o : Occurrence) → ((columns : Columns) (i : ℕ) → together (map cursor_of (columns_from i columns)) ≡ []) → together (map cursor_of (referents symbols o)) ≡ cursor_in o
cursor-same symbols NullLiteral h = refl
cursor-same symbols (Name t site) h = meaning-cursor (name_meaning t site.scopes site.row)
cursor-same symbols (EachColumn columns) h = h columns 0
cursor-same symbols (Assigned t scopes) h = refl
cursor-same symbols NoTarget h = refl
cursor-same symbols (ColumnName n columns) h = refl
cursor-same symbols (TableName n) h = refl
cursor-same symbols (CursorName n scopes) h = refl
cursor-same symbols (Label l scopes) h = refl
cursor-same symbols (ConditionName n scopes) h = refl
cursor-same symbols (StateName s) h = refl
cursor-same symbols (ProcedureName n count) h = refl
cursor-same symbols (FunctionName n kinds) h = refl
cursor-same symbols (Declared name r) h = declared-cursor name r

slots-same : (symbols : SymbolTable) (os : List Occurrence) → together (map slot_of (looked_up symbols os)) ≡ together (map slot_in os)
slots-same symbols os = kept-in slot_of slot_in (record { columns = λ i. refl; same = slot-same }) symbols os

cursors-same : (symbols : SymbolTable) (os : List Occurrence) → together (map cursor_of (looked_up symbols os)) ≡ together (map cursor_in os)
cursors-same symbols os = kept-in cursor_of cursor_in (record { columns = λ i. refl; same = cursor-same }) symbols os

-- ---- routines

pub numbers-each_once : (symbols : SymbolTable) (r : Routine) → NumbersEachOnce (resolve_routine symbols r)
numbers-each_once symbols r =
    let os : List Occurrence = routine_occurrences symbols r in
    let opens = routine-opens symbols r in
    let after : ordinals (resolve_statement r.body (record { symbols = symbols; scopes = (routine_numbered r).0; row = None }) (routine_numbered r).1).1 ≡ (statement_occurrences r.body (control symbols (begin r).0) (begin r).1).1 = (body-lists symbols r).after in
    record {
      slots = subst (λ l. CountsUp 0 l (length (resolve_routine symbols r).slots)) (sym (ap (λ l. together (map slot_of l)) (routine-gives symbols r) ∙ slots-same symbols os))
          (subst (λ n. CountsUp 0 (together (map slot_in os)) n.variables) (sym after) opens.slots);
      cursors = subst (λ l. CountsUp 0 l (resolve_routine symbols r).cursors) (sym (ap (λ l. together (map cursor_of l)) (routine-gives symbols r) ∙ cursors-same symbols os))
          (subst (λ n. CountsUp 0 (together (map cursor_in os)) n.cursors) (sym after) opens.cursors);
    }

pub conditions-in_order : (symbols : SymbolTable) (r : Routine) → together (map own_condition (routine_occurrences symbols r)) ≡ in_order 0 (resolve_routine symbols r).conditions
conditions-in_order symbols r = (routine-opens symbols r).conditions ∙ ap (in_order 0) (sym (own-conditions symbols r))

pub routine-declared : (symbols : SymbolTable) (r : Routine) → AreDeclared symbols [] (routine_occurrences symbols r)
routine-declared symbols r = (routine-opens symbols r).declared [] (nothing-in [], tt, tt)

-- ---- CHECKs

rule-at : (t : TableTree) (r : ColumnRuleForm) → AllAt [] (in_column_rule (of_table t) r)
rule-at t column_rules.NotNull = at-none
rule-at t column_rules.PrimaryKey = at-none
rule-at t column_rules.Unique = at-none
rule-at t (column_rules.Check e) = expr-all_at e (of_table t)
rule-at t (column_rules.References r) = at-none

rules-at : (t : TableTree) (rs : List ColumnRule) → AllAt [] (together (map (λ r. in_column_rule (of_table t) r.form) rs))
rules-at t [] = at-none
rules-at t (r ∷ rs) = at-both (rule-at t r.form) (rules-at t rs)

table_rule-at : (t : TableTree) (r : TableRuleForm) → AllAt [] (in_table_rule (of_table t) r)
table_rule-at t (table_rules.PrimaryKey names) = at-none
table_rule-at t (table_rules.Unique names) = at-none
table_rule-at t (table_rules.Check e) = expr-all_at e (of_table t)
table_rule-at t (table_rules.ForeignKey names r) = at-none

element-at : (t : TableTree) (e : Element) → AllAt [] (in_element (of_table t) e)
element-at t (elements.Column name kind default rules) = rules-at t rules
element-at t (elements.Rule rule) = table_rule-at t rule.form

elements-at : (t : TableTree) (es : List Element) → AllAt [] (together (map (in_element (of_table t)) es))
elements-at t [] = at-none
elements-at t (e ∷ es) = at-both (element-at t e) (elements-at t es)

pub checks-declared : (t : TableTree) → AreDeclared no_symbols [] (in_checks t)
checks-declared t = each-declared no_symbols [] [] (in_checks t) (elements-at t (table_elements t)).each tt

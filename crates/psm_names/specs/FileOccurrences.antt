-- The occurrences of names in a module file: in its routines, and in the CHECKs of its tables (ISO/IEC 9075:1992, 11.9), which see the
-- columns of their table alone; and what its names of routines mean.
use Rattle.std.specs.Prelude.{◌≡◌, ℕ, suc, false, is_some, List, [], ◌∷◌, ◌++◌, length, map, Option, Some, None, if◌then◌else◌}
use Rattle.psm_value.specs.declared.sqltype.SqlType.{SqlType}
use Rattle.psm_scope.specs.Scopes.{Spelling}
use Rattle.psm_scope.specs.Choice.{Signature}
use Rattle.psm_scope.specs.Lookup.{named}
use Rattle.psm_scope.specs.Routines.{is_header}
use Rattle.psm_scope.specs.declared.procedures.ProcedureScope.{ProcedureScope}
use Rattle.psm_rules.specs.FileFaults.{columns_of, kinds_of, no_symbols, parameter_of, table_elements}
use Rattle.psm_rules.specs.CheckerScope.{Columns}
use Rattle.psm_rules.specs.Types.{type_of}
use Rattle.psm_tree.specs.declared.file.ColumnRuleForm.{ColumnRuleForm}
use Rattle.psm_tree.specs.declared.file.ColumnRuleForm.TheVariants as column_rules
use Rattle.psm_tree.specs.declared.file.Element.{Element}
use Rattle.psm_tree.specs.declared.file.Element.TheVariants as elements
use Rattle.psm_tree.specs.declared.file.Routine.{Routine}
use Rattle.psm_tree.specs.declared.file.TableRuleForm.{TableRuleForm}
use Rattle.psm_tree.specs.declared.file.TableRuleForm.TheVariants as table_rules
use Rattle.psm_tree.specs.declared.file.TableTree.{TableTree}
use Rattle.psm_tree.specs.declared.types.DataType.{DataType}
use Rattle.psm_resolved.specs.declared.file.ResolvedTable.{ResolvedTable}
use Rattle.psm_names.specs.Referents.{Referent, together}
use Rattle.psm_names.specs.Occurrences.{Occurrence, Site}
use Rattle.psm_names.specs.ExprOccurrences.{expr_occurrences}
use Rattle.psm_names.specs.ExprReferents.{expr_referents}

-- ---- CHECKs

abbrev pub of_table : TableTree → Site
of_table t = record { symbols = no_symbols; scopes = []; row = Some (record { name = t.name.name; alias = None; columns = columns_of (table_elements t) }) }

abbrev pub in_column_rule : Site → ColumnRuleForm → List Occurrence
in_column_rule site column_rules.NotNull = []
in_column_rule site column_rules.PrimaryKey = []
in_column_rule site column_rules.Unique = []
in_column_rule site (column_rules.Check e) = expr_occurrences e site
in_column_rule site (column_rules.References r) = []

abbrev pub in_table_rule : Site → TableRuleForm → List Occurrence
in_table_rule site (table_rules.PrimaryKey names) = []
in_table_rule site (table_rules.Unique names) = []
in_table_rule site (table_rules.Check e) = expr_occurrences e site
in_table_rule site (table_rules.ForeignKey names r) = []

abbrev pub in_element : Site → Element → List Occurrence
in_element site (elements.Column name kind default rules) = together (map (λ r. in_column_rule site r.form) rules)
in_element site (elements.Rule rule) = in_table_rule site rule.form

abbrev pub in_checks : TableTree → List Occurrence
in_checks t = together (map (in_element (of_table t)) (table_elements t))

abbrev pub of_checks : ResolvedTable → List Referent
of_checks t = together (map expr_referents t.checks)

-- ---- tables: where no two have one name, as in each accepted file, a table is known by its index among them

abbrev pub known_table : TableTree → Spelling × Columns
known_table t = (t.name.name, columns_of (table_elements t))

-- no table has the name of one that is known or stands before it
abbrev pub AreNew : List (Spelling × Columns) → List TableTree → Type 0
AreNew known [] = Unit {0}
AreNew known (t ∷ ts) = (is_some (named t.name.name known) ≡ false) × AreNew (known ++ known_table t ∷ []) ts

-- ---- routines: a procedure is known by its number among the procedures, the first with that name and number of parameters counts;
-- a function by that among the functions

abbrev pub or_next : Option DataType → ℕ → ℕ
or_next None i = suc i
or_next (Some t) i = i

-- one routine before what comes after it
abbrev pub before : Spelling → ℕ → ℕ → Routine → Option DataType → Option ProcedureScope → Option ProcedureScope
before n count i r None later = if is_header n count (r.name.name, length r.parameters) then Some (record { number = i; parameters = map parameter_of r.parameters }) else later
before n count i r (Some t) later = later

abbrev pub procedure_from : ℕ → Spelling → ℕ → List Routine → Option ProcedureScope
procedure_from i n count [] = None
procedure_from i n count (r ∷ rs) = before n count i r r.returns (procedure_from (or_next r.returns i) n count rs)

abbrev pub signature_of : Routine → Option DataType → List Signature
signature_of r None = []
signature_of r (Some t) = record { name = r.name.name; kinds = kinds_of r } ∷ []

abbrev pub result_of : Option DataType → List (Option SqlType)
result_of None = []
result_of (Some t) = type_of t ∷ []

abbrev pub functions_in : List Routine → List Signature
functions_in rs = together (map (λ r. signature_of r r.returns) rs)

abbrev pub results_in : List Routine → List (Option SqlType)
results_in rs = together (map (λ r. result_of r.returns) rs)

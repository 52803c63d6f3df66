-- The columns that the keys of a table name: its PRIMARY KEY, and what is UNIQUE (ISO/IEC 9075:1992, 11.7), and the columns and the table
-- that a FOREIGN KEY names (11.8). A column that itself is one of these or REFERENCES a table is named by its own definition.
use Rattle.std.specs.Prelude.{ℕ, List, [], ◌∷◌, ◌++◌, map, slice_get, Option, Some, None}
use Rattle.psm_scope.specs.Lookup.{index_named}
use Rattle.psm_rules.specs.CheckerScope.{Columns, SymbolTable}
use Rattle.psm_rules.specs.FileFaults.{columns_of, table_elements}
use Rattle.psm_rules.specs.StatementFaults.{several}
use Rattle.psm_tree.specs.declared.file.ColumnRuleForm.{ColumnRuleForm}
use Rattle.psm_tree.specs.declared.file.ColumnRuleForm.TheVariants as column_rules
use Rattle.psm_tree.specs.declared.file.Element.{Element}
use Rattle.psm_tree.specs.declared.file.Element.TheVariants as elements
use Rattle.psm_tree.specs.declared.file.FileTree.{FileTree}
use Rattle.psm_tree.specs.declared.file.References.{References}
use Rattle.psm_tree.specs.declared.file.TableRuleForm.{TableRuleForm}
use Rattle.psm_tree.specs.declared.file.TableRuleForm.TheVariants as table_rules
use Rattle.psm_tree.specs.declared.file.TableTree.{TableTree}
use Rattle.psm_tree.specs.Names.{Names}
use Rattle.psm_tree.specs.declared.name.Identifier.{Identifier}
use Rattle.psm_table.specs.declared.definition.ForeignKey.{ForeignKey}
use Rattle.psm_resolved.specs.declared.file.ResolvedTable.{ResolvedTable}
use Rattle.psm_resolve_expr.specs.Exprs.{columns_in}
use Rattle.psm_resolve.specs.SymbolTables.{known_symbols}
use Rattle.psm_names.specs.Referents.{Referent, Column, Table, together}
use Rattle.psm_names.specs.Occurrences.{Occurrence, ColumnName, TableName, place_of}

abbrev pub named_columns : Columns → List Identifier → List Occurrence
named_columns columns ns = map (λ n. ColumnName n.name columns) ns

-- ---- primary keys, of which an accepted file has one in each table

abbrev pub key_in_column_rule : Columns → Identifier → ColumnRuleForm → List (List Occurrence)
key_in_column_rule columns name column_rules.NotNull = []
key_in_column_rule columns name column_rules.PrimaryKey = named_columns columns (name ∷ []) ∷ []
key_in_column_rule columns name column_rules.Unique = []
key_in_column_rule columns name (column_rules.Check e) = []
key_in_column_rule columns name (column_rules.References r) = []

abbrev pub key_in_table_rule : Columns → TableRuleForm → List (List Occurrence)
key_in_table_rule columns (table_rules.PrimaryKey names) = named_columns columns (several names) ∷ []
key_in_table_rule columns (table_rules.Unique names) = []
key_in_table_rule columns (table_rules.Check e) = []
key_in_table_rule columns (table_rules.ForeignKey names r) = []

abbrev pub keys_in_element : Columns → Element → List (List Occurrence)
keys_in_element columns (elements.Column name kind default rules) = together (map (λ r. key_in_column_rule columns name r.form) rules)
keys_in_element columns (elements.Rule rule) = key_in_table_rule columns rule.form

abbrev pub first_key : List (List Occurrence) → List Occurrence
first_key [] = []
first_key (k ∷ ks) = k

abbrev pub in_key : TableTree → List Occurrence
in_key t = first_key (together (map (keys_in_element (columns_of (table_elements t))) (table_elements t)))

abbrev pub of_key : ResolvedTable → List Referent
of_key t = map (λ i. Column i) t.definition.key

-- ---- what is UNIQUE

abbrev pub unique_in_column_rule : Columns → Identifier → ColumnRuleForm → List (List Occurrence)
unique_in_column_rule columns name column_rules.NotNull = []
unique_in_column_rule columns name column_rules.PrimaryKey = []
unique_in_column_rule columns name column_rules.Unique = named_columns columns (name ∷ []) ∷ []
unique_in_column_rule columns name (column_rules.Check e) = []
unique_in_column_rule columns name (column_rules.References r) = []

abbrev pub unique_in_table_rule : Columns → TableRuleForm → List (List Occurrence)
unique_in_table_rule columns (table_rules.PrimaryKey names) = []
unique_in_table_rule columns (table_rules.Unique names) = named_columns columns (several names) ∷ []
unique_in_table_rule columns (table_rules.Check e) = []
unique_in_table_rule columns (table_rules.ForeignKey names r) = []

abbrev pub uniques_in_element : Columns → Element → List (List Occurrence)
uniques_in_element columns (elements.Column name kind default rules) = together (map (λ r. unique_in_column_rule columns name r.form) rules)
uniques_in_element columns (elements.Rule rule) = unique_in_table_rule columns rule.form

abbrev pub in_uniques : TableTree → List (List Occurrence)
in_uniques t = together (map (uniques_in_element (columns_of (table_elements t))) (table_elements t))

abbrev pub of_uniques : ResolvedTable → List (List Referent)
of_uniques t = map (map (λ i. Column i)) t.definition.unique

-- ---- FOREIGN KEY constraints: the columns of the table, the table that is referred to, and the columns there

abbrev pub in_key_of : Option TableTree → List Occurrence
in_key_of None = []
in_key_of (Some t) = in_key t

-- without a list those of the primary key
abbrev pub in_target : List TableTree → Option (ℕ × Columns) → Option Names → List Occurrence
in_target ts to None = in_key_of (slice_get ts (place_of to))
in_target ts to (Some names) = named_columns (columns_in to) (several names)

abbrev pub in_references : List TableTree → SymbolTable → List Occurrence → References → List Occurrence
in_references ts symbols own r = own ++ TableName r.table.name ∷ in_target ts (index_named 0 r.table.name symbols.tables) r.columns

abbrev pub reference_in_column_rule : List TableTree → SymbolTable → Columns → Identifier → ColumnRuleForm → List (List Occurrence)
reference_in_column_rule ts symbols columns name column_rules.NotNull = []
reference_in_column_rule ts symbols columns name column_rules.PrimaryKey = []
reference_in_column_rule ts symbols columns name column_rules.Unique = []
reference_in_column_rule ts symbols columns name (column_rules.Check e) = []
reference_in_column_rule ts symbols columns name (column_rules.References r) = in_references ts symbols (named_columns columns (name ∷ [])) r ∷ []

abbrev pub reference_in_table_rule : List TableTree → SymbolTable → Columns → TableRuleForm → List (List Occurrence)
reference_in_table_rule ts symbols columns (table_rules.PrimaryKey names) = []
reference_in_table_rule ts symbols columns (table_rules.Unique names) = []
reference_in_table_rule ts symbols columns (table_rules.Check e) = []
reference_in_table_rule ts symbols columns (table_rules.ForeignKey names r) = in_references ts symbols (named_columns columns (several names)) r ∷ []

abbrev pub references_in_element : List TableTree → SymbolTable → Columns → Element → List (List Occurrence)
references_in_element ts symbols columns (elements.Column name kind default rules) = together (map (λ r. reference_in_column_rule ts symbols columns name r.form) rules)
references_in_element ts symbols columns (elements.Rule rule) = reference_in_table_rule ts symbols columns rule.form

abbrev pub references_in_table : List TableTree → SymbolTable → TableTree → List (List Occurrence)
references_in_table ts symbols t = together (map (references_in_element ts symbols (columns_of (table_elements t))) (table_elements t))

abbrev pub in_foreign_keys : FileTree → List (List Occurrence)
in_foreign_keys f = together (map (references_in_table f.tables (known_symbols f)) f.tables)

abbrev pub of_foreign_key : ForeignKey → List Referent
of_foreign_key key = map (λ i. Column i) key.columns ++ Table key.to ∷ map (λ i. Column i) key.target

-- Tables that are declared once, as maps keep them.
use Rattle.std.proofs.Common.{◌≡◌, Bool, true, false, is_some, List, [], ◌∷◌, ◌++◌, ap, sym, ◌∙◌}
use Rattle.std.specs.Prelude.{Ok, if◌then◌else◌}
use Rattle.psm_scope.specs.Scopes.{Spelling}
use Rattle.psm_scope.specs.Names.{Adds}
use Rattle.psm_scope.specs.Routines.{Callable, Header}
use Rattle.psm_scope.specs.declared.procedures.ProcedureScope.{ProcedureScope}
use Rattle.psm_tree.specs.declared.file.TableTree.{TableTree}
use Rattle.psm_rules.specs.BlockFaults.{declared_once}
use Rattle.psm_rules.specs.FileFaults.{columns_of, table_elements}
use Rattle.psm_rules.specs.CheckerScope.{Columns, SymbolTable}
use Rattle.psm_resolve.specs.SymbolTables.{with_known_table}

added_once : {A : Type 0} (n : Spelling) (x : A) (old new : List (Spelling × A)) (added : Bool) → Adds n x old new (Ok added) → new ≡ declared_once old n x
added_once n x old new true a = a.1 ∙ sym (ap (λ o. if is_some o then old else old ++ (n, x) ∷ []) a.0)
added_once n x old new false a = a.1 ∙ sym (ap (λ b. if b then old else old ++ (n, x) ∷ []) a.0)

-- a table more
module _ (keys : List (Spelling × List Spelling)) (functions : Callable) (procedures : List (Header × ProcedureScope)) where
  abbrev pub known : List (Spelling × Columns) → SymbolTable
  known tables = record { tables = tables; keys = keys; functions = functions; procedures = procedures }

  pub table_added : (symbols : SymbolTable) (tables new_tables : List (Spelling × Columns)) (t : TableTree) (columns : Columns) (added : Bool)
      → known tables ≡ symbols → columns ≡ columns_of (table_elements t) → Adds t.name.name columns tables new_tables (Ok added) → known new_tables ≡ with_known_table symbols t
  table_added symbols tables new_tables t columns added checker_scope c a =
      ap known (added_once t.name.name columns tables new_tables added a ∙ ap (λ cs. declared_once tables t.name.name cs) c) ∙ ap (λ w. with_known_table w t) checker_scope

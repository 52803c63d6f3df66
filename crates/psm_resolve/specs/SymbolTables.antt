-- What the tables and the routines of a module file declare, with numbers. A name that is declared again stays what it is.
use Rattle.std.specs.Prelude.{ℕ, suc, Option, Some, None, is_some, List, [], ◌∷◌, ◌++◌, map, length, if◌then◌else◌}
use Rattle.psm_scope.specs.Scopes.{Spelling}
use Rattle.psm_scope.specs.Routines.{procedure}
use Rattle.psm_scope.specs.declared.procedures.ProcedureScope.{ProcedureScope}
use Rattle.psm_rules.specs.BlockFaults.{declared_once}
use Rattle.psm_rules.specs.FileFaults.{Procedures, columns_of, no_symbols, parameter_of, table_elements, with_function}
use Rattle.psm_rules.specs.CheckerScope.{SymbolTable}
use Rattle.psm_tree.specs.declared.file.FileTree.{FileTree}
use Rattle.psm_tree.specs.declared.file.Routine.{Routine}
use Rattle.psm_tree.specs.declared.file.TableTree.{TableTree}
use Rattle.psm_tree.specs.declared.types.DataType.{DataType}

-- a table is known by its place among the tables; keys play no part
abbrev pub with_known_table : SymbolTable → TableTree → SymbolTable
with_known_table symbols t = record symbols { tables = declared_once symbols.tables t.name.name (columns_of (table_elements t)) }

abbrev pub with_known_tables : SymbolTable → List TableTree → SymbolTable
with_known_tables symbols [] = symbols
with_known_tables symbols (t ∷ ts) = with_known_tables (with_known_table symbols t) ts

-- a procedure is known by its number among the procedures, and a function by that among the functions
abbrev pub with_known_procedure : Procedures → Spelling → ProcedureScope → Procedures
with_known_procedure ps n p = if is_some (procedure n (length p.parameters) ps) then ps else ps ++ ((n, length p.parameters), p) ∷ []

abbrev pub with_known_routine : SymbolTable → ℕ → Routine → Option DataType → SymbolTable
with_known_routine symbols n r None = record symbols { procedures = with_known_procedure symbols.procedures r.name.name (record { number = n; parameters = map parameter_of r.parameters }) }
with_known_routine symbols n r (Some t) = record symbols { functions = with_function symbols.functions r t }

-- the number of the next procedure
abbrev pub next_procedure : ℕ → Option DataType → ℕ
next_procedure n None = suc n
next_procedure n (Some t) = n

abbrev pub with_known_routines : SymbolTable → ℕ → List Routine → SymbolTable
with_known_routines symbols n [] = symbols
with_known_routines symbols n (r ∷ rs) = with_known_routines (with_known_routine symbols n r r.returns) (next_procedure n r.returns) rs

-- each routine is known in the whole module
abbrev pub known_symbols : FileTree → SymbolTable
known_symbols f = with_known_routines (with_known_tables no_symbols f.tables) 0 f.«module».routines

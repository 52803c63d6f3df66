-- What UPDATE makes of the rows of a table.
use Rattle.std.specs.Prelude.{ℕ, Bool, ◌&&◌, List, map, nat_eq, not, Result}
use Rattle.std.specs.List.{list_all, list_any}
use Rattle.psm_sqlstate.specs.declared.state.SqlState.{SqlState}
use Rattle.psm_value.specs.declared.datum.Datum.{Datum}
use Rattle.psm_exprcode.specs.declared.op.Line.{Line}
use Rattle.psm_exprcode.specs.declared.set_item.SetItem as set_code
use Rattle.psm_table.specs.declared.definition.TableDef.{TableDef}
use Rattle.psm_table.specs.Changing.{set_row, SetItem}
use Rattle.psm_table.specs.Evaluator.{mapped}
use Rattle.psm_table.specs.Key.{values_at}
use Rattle.psm_tablecode.specs.Codes.{over}
use Rattle.psm_dml.specs.declared.planning.Change.{Change}

-- the assignments, whose sources are code
abbrev pub set_of : set_code.SetItem → SetItem (List Line)
set_of s = record { column = s.column; source = s.source }

-- the row that they make of an old row
abbrev pub row_set : List Datum → TableDef → List set_code.SetItem → List Datum → Result (List Datum) SqlState
row_set vars def sets row = set_row (over vars) def (map set_of sets) row

-- the key of a row, and what is made of it
abbrev pub changing : List ℕ → (List Datum → Result (List Datum) SqlState) → List Datum → Result Change SqlState
changing columns make row = mapped (λ new. record { key = values_at columns row; made = new }) (make row)

-- whether no assignment sets one of the columns
abbrev pub sets_none : List set_code.SetItem → List ℕ → Bool
sets_none sets columns = list_all (λ s. not (list_any (λ c. nat_eq c s.column) columns)) sets

-- whether none sets a column of the key, nor one of a UNIQUE list
abbrev pub keep_places : TableDef → List set_code.SetItem → Bool
keep_places def sets = sets_none sets def.key && list_all (sets_none sets) def.unique

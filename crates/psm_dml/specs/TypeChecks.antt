-- When a statement may be carried out: its codes fit the table's columns and the variables.
use Rattle.std.specs.Prelude.{◌<◌, ◌&&◌, Bool, true, List, [], length, nat_lt, Option, IsTrue}
use Rattle.std.specs.List.{list_all}
use Rattle.std.specs.Option.{option_map_or}
use Rattle.psm_value.specs.declared.datum.Datum.{Datum}
use Rattle.psm_exprcode.specs.declared.op.Letter.{Letter}
use Rattle.psm_exprcode.specs.declared.op.Line.{Line}
use Rattle.psm_exprcode.specs.declared.set_item.SetItem.{SetItem}
use Rattle.psm_exprcode.specs.Kinds.{are_of}
use Rattle.psm_table.specs.declared.definition.TableDef.{TableDef}
use Rattle.psm_tablecode.specs.TypeChecks.{gives_truth, gives_value, letters_of, Runs}

-- the test ends with a truth value
pub record TypeChecksTest (test : Option (List Line)) (vars : List Datum) (def : TableDef) : Type 0 where
  pub variables : List Letter
  pub kinds : IsTrue (are_of variables vars)
  pub fits : IsTrue (option_map_or (gives_truth (letters_of def) variables) test true)

-- CHECKs, which see the columns alone, end with truth values
abbrev pub ChecksTypeCheck : List (List Line) → TableDef → Type 0
ChecksTypeCheck checks def = IsTrue (list_all (gives_truth (letters_of def) []) checks)

-- whether an assignment sets a column that there is to a value
abbrev pub fits_set : List Letter → List Letter → SetItem → Bool
fits_set columns variables s = nat_lt s.column (length columns) && gives_value columns variables s.source

-- each assignment does
pub record SetsTypeCheck (sets : List SetItem) (vars : List Datum) (def : TableDef) : Type 0 where
  pub variables : List Letter
  pub kinds : IsTrue (are_of variables vars)
  pub fits : IsTrue (list_all (fits_set (letters_of def) variables) sets)

-- the assignment may be made over a row
pub record Assigns (def : TableDef) (row vars : List Datum) (s : SetItem) : Type 0 where
  pub column : s.column < length def.columns
  pub runs : Runs row vars s.source

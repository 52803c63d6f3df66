-- What a query takes of one row.
use Rattle.std.specs.Prelude.{List, map, Result}
use Rattle.psm_sqlstate.specs.declared.state.SqlState.{SqlState}
use Rattle.psm_value.specs.declared.datum.Datum.{Datum}
use Rattle.psm_exprcode.specs.declared.items.Items.{Items}
use Rattle.psm_exprcode.specs.declared.items.Items.TheVariants.{Rows, Sets}
use Rattle.psm_table.specs.Evaluator.{values_of}
use Rattle.psm_table.specs.Queries.{operands_of}
use Rattle.psm_tablecode.specs.Codes.{over, set_of}

-- the values of its items, or what its set functions are of
abbrev pub values_for : List Datum → Items → List Datum → Result (List Datum) SqlState
values_for vars (Rows codes) row = values_of (over vars) codes row
values_for vars (Sets sets) row = operands_of (over vars) (map set_of sets) row

-- INSERT, and how it is a part of an instruction (ISO/IEC 9075:1992, 13.8).
use Rattle.std.specs.Prelude.{◌≡◌, ℕ, Bool, List, [], ◌*◌, length, map, slice_get, slice_set, IfSome, Result, Ok, Err}
use Rattle.psm_cond.specs.declared.fault.DataFault.{DataFault}
use Rattle.psm_cond.specs.declared.fault.DataFault.TheVariants as fault
use Rattle.psm_value.specs.declared.datum.Datum.{Datum}
use Rattle.psm_table.specs.Changing.{Changed, Failure, inserted}
use Rattle.psm_table.specs.declared.definition.ForeignKey.{ForeignKey}
use Rattle.psm_table.specs.Keyed.{are_keyed_with, rows_in}
use Rattle.psm_table.specs.Table.{Contents}
use Rattle.psm_tablecode.specs.NewRows.{new_row}
use Rattle.psm_dml.specs.Ends.{IsExpected}
use Rattle.psm_code.specs.declared.code.CodeTable.{CodeTable}
use Rattle.psm_code.specs.declared.code.RawCode.{RawCode}
use Rattle.psm_code.specs.declared.code.RawRoutine.{RawRoutine}
use Rattle.psm_code.specs.Plans.{in_rows, plain, put_in, schema_of, some_rows}
use Rattle.psm_code.specs.Querying.{answer_of, query_at}
use Rattle.psm_code.specs.Steps.{Act, pops, ◌>>=◌}

-- Table n, which was c, is expected to have some rows and the statement to be about n. It does, and the other tables stay; or the
-- condition that is expected is raised, which bears the name of the table where it is one of the table, or memory runs out, and then all
-- tables stay.
abbrev pub EndsIn : CodeTable → Contents → Result Changed Failure → List Contents → ℕ → List Contents → Result ℕ DataFault → Type 0
EndsIn t c expected old n new (Ok count) = (rows : List (List Datum)) × (expected ≡ Ok (record { rows = rows; count = count })) × (new ≡ slice_set old n (record c { rows = rows }))
EndsIn t c expected old n new (Err (fault.Raised condition)) = IsExpected t.definition expected condition × (new ≡ old)
EndsIn t c expected old n new (Err fault.Memory) = new ≡ old

-- what is expected where rows for some columns are put into a table, by what then holds among the tables
abbrev pub put_expected : (List (List Datum) → Bool) → CodeTable → List ℕ → List (List Datum) → Contents → Result Changed Failure
put_expected keyed t columns rows c = inserted plain (schema_of keyed t) (map (new_row t.definition columns) rows) c.rows

-- rows for some columns are put into table n, as expected
abbrev pub PutsInto : List ForeignKey → CodeTable → ℕ → List ℕ → List (List Datum) → List Contents → List Contents → Result ℕ DataFault → Type 0
PutsInto keys t n columns rows old new result = IfSome (slice_get old n) (λ c. EndsIn t c (put_expected (are_keyed_with keys (rows_in old) n) t columns rows c) old n new result)

-- the same of the table of the code with that number
abbrev pub PutsRows : RawCode → ℕ → List ℕ → List (List Datum) → List Contents → List Contents → Result ℕ DataFault → Type 0
PutsRows code n columns rows old new result = IfSome (slice_get code.tables n) (λ t. PutsInto code.keys t n columns rows old new result)

-- of n rows, whose values stand among the operands
abbrev pub put_operands : RawCode → ℕ → List ℕ → ℕ → Act (Unit {0})
put_operands code table columns rows = do
  ds ← pops (rows * length columns) []
  put_in code table columns (in_rows rows (length columns) ds)

-- of the rows of a query
abbrev pub put_query : RawCode → RawRoutine → ℕ → List ℕ → ℕ → Act (Unit {0})
put_query code r table columns n = do
  query ← query_at r n
  a ← answer_of query
  new ← some_rows a.rows
  put_in code table columns new

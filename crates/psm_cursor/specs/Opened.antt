-- Open cursors (ISO/IEC 9075:1992, 13.2).
use Rattle.std.specs.Prelude.{Bool, true, false, List, Result}
use Rattle.psm_exprcode.specs.declared.query.Query.{Query}
use Rattle.psm_sqlstate.specs.declared.state.SqlState.{SqlState}
use Rattle.psm_value.specs.declared.datum.Datum.{Datum}
use Rattle.psm_table.specs.Cursors.{Cursor, Closed, Plain, Insensitive}
use Rattle.psm_table.specs.Evaluator.{mapped}
use Rattle.psm_table.specs.Queries.{answer}
use Rattle.psm_table.specs.Table.{Contents}
use Rattle.psm_tablecode.specs.Codes.{over, query_of}

abbrev pub is_opened : Cursor → Bool
is_opened Closed = false
is_opened (Plain p vars) = true
is_opened (Insensitive rows) = true

-- an insensitive cursor has the answer over the rows of the table
abbrev pub opened_over : Query → List Datum → Contents → Result Cursor SqlState
opened_over query vars t = mapped (λ a. Insensitive a.rows) (answer (over vars) (query_of query) t.rows)

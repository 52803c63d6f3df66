use Rattle.psm_exprgen.specs.Queries.{TablesMade}
use Rattle.psm_exprgen.proofs.Lists.{Makes}
use Rattle.psm_codegen.proofs.tables.tables_code.Given as goal

abbrev pub invariant-loop-table : goal.invariant-loop-table
invariant-loop-table l = Makes TablesMade l.table-items l.table-index l.codes.items

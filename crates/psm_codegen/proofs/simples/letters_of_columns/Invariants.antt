use Rattle.std.proofs.Common.{◌≡◌, ◌++◌, drop}
use Rattle.psm_codegen.specs.Simples.{letters_of_columns}
use Rattle.psm_codegen.proofs.simples.letters_of_columns.Given as goal

abbrev pub invariant-loop-column : goal.invariant-loop-column
invariant-loop-column l = letters_of_columns l.known l.table l.columns ≡ l.letters.items ++ letters_of_columns l.known l.table (drop l.column-index l.column-items)

use Rattle.std.proofs.Common.{◌≡◌, take, map}
use Rattle.psm_resolved.specs.RowType.{row_type_of}
use Rattle.psm_exprgen.specs.Queries.{letter_of_row_type}
use Rattle.psm_exprgen.proofs.letters.row_letters.Given as goal

abbrev pub invariant-loop-e : goal.invariant-loop-e
invariant-loop-e l = l.letters.items ≡ map (λ e. letter_of_row_type (row_type_of l.columns l.variables e)) (take l.e-index l.e-items)

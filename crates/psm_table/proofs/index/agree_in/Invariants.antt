use Rattle.std.proofs.Common.{◌≡◌, take, true, get_or}
use Rattle.std.specs.List.{list_all}
use Rattle.psm_value.specs.declared.datum.Datum.TheVariants.{Null}
use Rattle.psm_table.specs.Unique.{equal_value}
use Rattle.psm_table.proofs.index.agree_in.Given as goal

abbrev pub invariant-loop-column : goal.invariant-loop-column
invariant-loop-column l = list_all (λ c. equal_value (get_or l.a c Null) (get_or l.b c Null)) (take l.column-index l.columns) ≡ true

use Rattle.std.proofs.Common.{◌≡◌, ◌≤◌, length}
use Rattle.std.specs.Prelude.{All}
use Rattle.psm_table.specs.Held.{entries_of}
use Rattle.psm_table.proofs.table.Table.new.Given as goal

abbrev pub invariant-loop : goal.invariant-loop
invariant-loop l = (length l.indexes.items ≡ l.index) × All (λ es. length es ≤ 0) (entries_of l.indexes.items)

use Rattle.std.specs.Prelude.{IfSome}
use Rattle.psm_table.specs.Definition.{HasColumns}
use Rattle.store_rows.proofs.walk.rising.Given as goal

abbrev pub invariant-walk : goal.invariant-walk
invariant-walk l = IfSome l.next (λ row. HasColumns l.table.contents.def row.now)

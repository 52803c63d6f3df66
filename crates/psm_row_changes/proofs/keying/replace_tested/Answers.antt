use Rattle.std.proofs.Common.{List, sym, subst}
use Rattle.std.specs.Prelude.{All}
use Rattle.psm_table.specs.Keyed.{defs_in, IsKeyOf}
use Rattle.psm_table.specs.Table.{Contents}
use Rattle.psm_row_changes.proofs.keying.replace_tested.Goals as goal

pub replace_then_test-done-requires-clause-constraints : goal.replace_then_test-done-requires-clause-constraints
replace_then_test-done-requires-clause-constraints g c = subst (λ (tables : List Contents). All (IsKeyOf (defs_in tables)) c.args.constraints.now) (sym c.mark.ensures.tables) c.requires.constraints

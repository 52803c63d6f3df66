use Rattle.std.proofs.Common.{List, sym, subst}
use Rattle.std.specs.Prelude.{IfSome}
use Rattle.psm_value.specs.declared.datum.Datum.{Datum}
use Rattle.psm_tablecode.specs.TypeChecks.{Runs}
use Rattle.psm_cursor.proofs.walking.if_met.Goals as goal

pub meets-requires : goal.meets-requires
meets-requires c = subst (λ (r : List Datum). IfSome c.args.query.now.test (Runs r c.args.vars.now)) (sym c.values.ensures) c.requires

use Rattle.std.proofs.Common.{List, sym, subst}
use Rattle.std.specs.Prelude.{Option}
use Rattle.psm_value.specs.declared.datum.Datum.{Datum}
use Rattle.psm_table.specs.Index.{IsPut}
use Rattle.psm_table.proofs.Entered.{put-some}
use Rattle.psm_table.proofs.index.put.Goals as goal

pub returns-in-Some : goal.returns-in-Some
returns-in-Some c =
    subst (λ (o : Option (List Datum)). IsPut c.args.index.now c.insert.new.self o) (sym c.in-Some.is) (put-some c.args.index.now c.insert.new.self c.in-Some.entry c.insert.ensures.pairs)

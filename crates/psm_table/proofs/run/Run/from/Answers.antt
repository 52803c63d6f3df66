use Rattle.std.proofs.Common.{ap, ◌∙◌}
use Rattle.std.specs.Prelude.{slice_get}
use Rattle.psm_table.specs.Map.{pairs_from}
use Rattle.psm_table.specs.PairPosition.{probe_key}
use Rattle.psm_table.proofs.Filters.{copied-get}
use Rattle.psm_table.proofs.Halves.{first_left}
use Rattle.psm_table.proofs.run.Run.from.Goals as goal

pub returns : goal.returns
returns g c =
    copied-get c.get.result c.as_slice-pairs.result.now c.turn.result c.get.ensures.lookup.0 c.get.ensures.lookup.1
    ∙ first_left c.as_slice-pairs.result.now (pairs_from (probe_key c.args.probe) c.as_slice-pairs.result.now) c.turn.result c.turn.ensures.past
    ∙ ap (λ l. slice_get (pairs_from (probe_key c.args.probe) l) 0) (c.as_slice-pairs.ensures.value ∙ c.self.view_is)

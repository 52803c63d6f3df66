use Rattle.std.proofs.Common.{rules, ◌∙◌}
use Rattle.psm_table.specs.Runs.{joined}
use Rattle.psm_table.proofs.Lefts.{from_none, parts_from}
use Rattle.psm_table.proofs.walk.pairs_from.Goals as goal

pub returns-in_default-clause-pairs : goal.returns-in_default-clause-pairs
returns-in_default-clause-pairs c = from_none c.args.low (joined c.args.runs.now) c.in_default.is

pub returns-clause-pairs : goal.returns-clause-pairs
returns-clause-pairs c =
    parts_from c.args.low c.in-Some.cut c.args.runs.now c.locate_past-at.result c.index-runs-at.result c.pairs-pairs.result.now c.turn.result c.in-Some.is
    (c.locate_past-at.ensures (search rules)) (c.pairs-pairs.ensures.value ∙ c.index-runs-at.is) c.turn.ensures.past

use Rattle.std.proofs.Common.{◌∙◌}
use Rattle.psm_table.proofs.Joined.{first-joined}
use Rattle.psm_table.proofs.runs.first_from.Goals as goal

pub returns-then-at-runs : goal.returns-then-at-runs
returns-then-at-runs g c =
    c.first.ensures ∙ first-joined c.args.runs.now c.args.at c.index-runs-at.result c.requires c.if-at-runs.true c.index-runs-at.is

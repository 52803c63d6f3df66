use Rattle.std.proofs.Common.{◌++◌, [], ap, ◌∙◌}
use Rattle.std.proofs.lemmas.List.{append-nil}
use Rattle.psm_table.specs.Held.{live_rows}
use Rattle.psm_table.specs.Queries.{in_walk}
use Rattle.psm_table.specs.Runs.{joined}
use Rattle.psm_table.proofs.Lefts.{live_walk}
use Rattle.psm_table.proofs.walk.RowsLeft.all.Goals as goal

pub returns : goal.returns
returns c =
    ap live_rows c.of.ensures ∙ live_walk c.args.downward (joined c.runs.result.now ++ [])
    ∙ ap (λ l. in_walk c.args.downward (live_rows l)) (append-nil (joined c.runs.result.now) ∙ c.runs.ensures.pairs)

use Rattle.std.proofs.Common.{rules, ◌∙◌}
use Rattle.std.proofs.lemmas.List.{append-nil}
use Rattle.psm_table.specs.Runs.{joined}
use Rattle.psm_table.proofs.Lefts.{parts_up_to, up_to_none}
use Rattle.psm_table.proofs.walk.pairs_up_to.Goals as goal

pub returns-in_default : goal.returns-in_default
returns-in_default c = append-nil (joined c.args.runs.now) ∙ up_to_none c.args.high (joined c.args.runs.now) c.in_default.is

pub returns : goal.returns
returns c =
    parts_up_to c.args.high c.in-Some.cut c.args.runs.now c.locate_past-at.result c.index-runs-at.result c.pairs-pairs.result.now c.turn.result c.in-Some.is
    (c.locate_past-at.ensures (search rules)) (c.pairs-pairs.ensures.value ∙ c.index-runs-at.is) c.turn.ensures.others

use Rattle.std.proofs.Common.{Option, ap}
use Rattle.std.specs.Prelude.{option_map}
use Rattle.psm_words.specs.Reading.{◌>>=◌}
use Rattle.psm_load_line.specs.Forms.{plans, PlanHead}
use Rattle.psm_load_line.specs.Readers.{LineReader}
use Rattle.psm_load_line.specs.Said.{plan_head_of}
use Rattle.psm_load_line.proofs.Entries.{none_chosen}
use Rattle.psm_load_line.proofs.Spelled.{◌&◌}
use Rattle.psm_load_line.proofs.queries.plan_of.Goals as goal

pub returns-in_default : goal.returns-in_default
returns-in_default c =
    let d = c.in_default in
    ap (λ (o : Option (LineReader PlanHead)). option_map plan_head_of (o >>= λ p. p c.args.rest.now)) (none_chosen plans c.args.word.now (d.not-INSERT & d.not-INSERTQ & d.not-UPDATE & d.not-DELETE & d.not-UPDATEAT & d.not-DELETEAT & tt))

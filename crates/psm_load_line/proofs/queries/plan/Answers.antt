use Rattle.std.proofs.Common.{refl, ap}
use Rattle.std.specs.Prelude.{option_map}
use Rattle.psm_load_line.specs.Forms.{plans}
use Rattle.psm_load_line.specs.Said.{plan_head_of}
use Rattle.psm_load_line.proofs.Entries.{no_word}
use Rattle.psm_load_line.proofs.queries.plan.Goals as goal

pub returns-in-None : goal.returns-in-None
returns-in-None c = ap (option_map plan_head_of) (no_word plans c.args.rest.now refl c.in-None.ensures)

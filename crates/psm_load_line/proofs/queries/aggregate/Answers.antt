use Rattle.std.proofs.Common.{◌∙◌}
use Rattle.psm_load_line.specs.Forms.{functions}
use Rattle.psm_load_line.specs.Said.{item_head_of}
use Rattle.psm_load_line.proofs.Entries.{last_map}
use Rattle.psm_load_line.proofs.queries.aggregate.Goals as goal

pub returns : goal.returns
returns c = c.pick_last.ensures ∙ last_map item_head_of functions c.args.rest.now

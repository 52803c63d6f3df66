use Rattle.std.proofs.Common.{refl}
use Rattle.psm_load_line.specs.Forms.{context_kinds}
use Rattle.psm_load_line.proofs.Entries.{no_word}
use Rattle.psm_load_line.proofs.handlers.context_kind.Goals as goal

pub returns-in-None : goal.returns-in-None
returns-in-None c = no_word context_kinds c.args.rest.now refl c.in-None.ensures

use Rattle.std.proofs.Common.{◌∙◌}
use Rattle.psm_codegen.proofs.FilesStand.{written_file_stands}
use Rattle.psm_codegen.proofs.lowering.lower.Goals as goal

pub returns-clause-stands : goal.returns-clause-stands
returns-clause-stands c can = written_file_stands c.args.file.now _ (record { tables = c.in_ok-tables.ensures; keys = c.in_ok-keys.ensures ∙ c.items.ensures; routines = c.in_ok-routines.ensures.written }) can

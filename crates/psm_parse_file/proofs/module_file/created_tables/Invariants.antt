use Rattle.std.proofs.Common.{◌-◌}
use Rattle.psm_parse_file.specs.Creating.{Creating}
use Rattle.psm_parse_file.proofs.module_file.created_tables.Given as goal

abbrev pub invariant-loop-turn : goal.invariant-loop-turn
invariant-loop-turn l = Creating l.levels l.fn.place l.initial.tokens.rest.now l.tables.items l.place (l._turn-end - l._turn) l.tokens.rest.now

use Rattle.psm_checker_sound.proofs.SpelledWhole.{spelled-expr, spelled-select, spelled-source}
use Rattle.psm_checker_sound.proofs.laws.null_stands_where_it_may.Goals as goal

pub returns : goal.returns
returns c = record { expressions = spelled-expr; sources = spelled-source; queries = spelled-select }

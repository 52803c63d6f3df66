use Rattle.psm_checker_sound.proofs.SmallTokens.{read-files-stand, read-scripts-stand, tokens-are-small}
use Rattle.psm_checker_sound.proofs.laws.null_stands_in_what_is_read_where_it_may.Goals as goal

pub returns : goal.returns
returns c = record { numbers = tokens-are-small; files = read-files-stand; scripts = read-scripts-stand }

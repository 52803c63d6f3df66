use Rattle.std.proofs.Common.{rules}
use Rattle.psm_tree.specs.FileGrammar.{next_params}
use Rattle.psm_tree.proofs.Firsts.{first_next_param}
use Rattle.psm_tree.proofs.Repeating.{turns}
use Rattle.psm_parse_file.proofs.parameters.next_params.Goals as goal

pub returns : goal.returns
unfolding next_params
returns c = search (rules, turns, first_next_param)

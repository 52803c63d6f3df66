use Rattle.std.proofs.Common.{rules}
use Rattle.psm_tree.specs.FileGrammar.{next_constants}
use Rattle.psm_tree.proofs.Firsts.{first_next_constant}
use Rattle.psm_tree.proofs.Repeating.{turns}
use Rattle.psm_parse_file.proofs.insert.next_constants.Goals as goal

pub returns : goal.returns
unfolding next_constants
returns c = search (rules, turns, first_next_constant)

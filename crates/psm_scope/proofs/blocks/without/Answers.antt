use Rattle.psm_scope.proofs.Narrowed.{others_set}
use Rattle.psm_scope.proofs.blocks.without.Goals as goal

pub returns-clause-members : goal.returns-clause-members
returns-clause-members c = λ test cs is. others_set c.args.set c.args.other test cs c.ranges.set.fits c.ranges.other.fits is

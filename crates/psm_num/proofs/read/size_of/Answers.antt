use Rattle.std.proofs.Common.{length}
use Rattle.psm_num.proofs.Digits.{one_fits}
use Rattle.psm_num.proofs.read.size_of.Goals as goal

pub digits_after-requires-clause-small : goal.digits_after-requires-clause-small
digits_after-requires-clause-small c = one_fits (length c.args.whole.now) (length c.args.fraction.now) c.requires.few

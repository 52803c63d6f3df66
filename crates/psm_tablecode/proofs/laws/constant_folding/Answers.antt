use Rattle.psm_tablecode.proofs.FoldLaws.{folding_same}
use Rattle.psm_tablecode.proofs.laws.constant_folding.Goals as goal

pub returns : goal.returns
returns c = λ test vars row. folding_same row vars test

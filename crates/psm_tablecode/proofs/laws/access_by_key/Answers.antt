use Rattle.psm_tablecode.proofs.KeyWalks.{walked_for}
use Rattle.psm_tablecode.proofs.Sought.{asked_only, asked_quiet}
use Rattle.psm_tablecode.proofs.laws.access_by_key.Goals as goal

pub returns-clause-quiet : goal.returns-clause-quiet
returns-clause-quiet c = λ columns test vars row key asks. asked_quiet row vars columns test key asks

pub returns-clause-only : goal.returns-clause-only
returns-clause-only c = λ columns test vars row key asks met. asked_only row vars columns test key asks met

pub returns-clause-walk : goal.returns-clause-walk
returns-clause-walk c = λ t downward test vars take is. walked_for t vars test take is.ascend downward

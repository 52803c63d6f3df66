use Rattle.std.proofs.Common.{refl}
use Rattle.psm_table.proofs.Advancing.{found_onward}
use Rattle.psm_table.proofs.laws.cursor_laws.Goals as goal

pub returns-clause-onward : goal.returns-clause-onward
returns-clause-onward c = found_onward

pub returns-clause-lost : goal.returns-clause-lost
returns-clause-lost c = λ key rows p. refl

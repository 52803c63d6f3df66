use Rattle.std.proofs.Common.{not, refl}
use Rattle.psm_check_stmt.proofs.Handling.{records_name}
use Rattle.psm_check_stmt.proofs.handled_conditions.HandledConditions.repeats_name.Goals as goal

pub returns : goal.returns
returns c =
    records_name c.args.self.now (record c.args.self.now { names = c.add.new.self }) c.args.name.now c.in_ok-added.added (not c.in_ok-added.added)
    refl refl refl refl c.in_ok-added.ensures refl

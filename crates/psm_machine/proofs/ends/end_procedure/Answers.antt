use Rattle.std.proofs.Common.{refl}
use Rattle.psm_unwind.proofs.Unwinding.{unwinds_none}
use Rattle.psm_machine.proofs.Standing.{still_unwound}
use Rattle.psm_machine.proofs.ends.end_procedure.Goals as goal

pub returns-in_err-values-in-Some-clause-unwinds : goal.returns-in_err-values-in-Some-clause-unwinds
returns-in_err-values-in-Some-clause-unwinds g c =
    unwinds_none (g.S.Store.holds c.args.store.now) (g.S.Store.at c.args.store.now) (g.S.Store.marks c.args.store.now) (g.S.Store.tables c.args.store.now) c.args.run.now c.args.run.now c.requires refl refl refl refl

pub returns-in-None-clause-unwinds : goal.returns-in-None-clause-unwinds
returns-in-None-clause-unwinds g c =
    unwinds_none (g.S.Store.holds c.args.store.now) (g.S.Store.at c.args.store.now) (g.S.Store.marks c.args.store.now) (g.S.Store.tables c.args.store.now) c.args.run.now c.args.run.now c.requires refl refl refl refl

pub returns-in_ok-values-in-Some-clause-still : goal.returns-in_ok-values-in-Some-clause-still
returns-in_ok-values-in-Some-clause-still g c =
    still_unwound (g.S.Store.holds c.args.store.now) (g.S.Store.at c.args.store.now) (g.S.Store.marks c.args.store.now) (g.S.Store.tables c.args.store.now) c.args.run.now
    (g.S.Store.holds c.leave.new.store) (g.S.Store.at c.leave.new.store) (g.S.Store.marks c.leave.new.store) (g.S.Store.tables c.leave.new.store) c.leave.new.run c.leave.ensures.unwinds

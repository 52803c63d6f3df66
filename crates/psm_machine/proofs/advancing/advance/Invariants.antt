use Rattle.std.proofs.Common.{◌≡◌, ℕ, Some}
use Rattle.psm_code.specs.Parts.{routine_at}
use Rattle.psm_code.specs.Run.{steps}
use Rattle.psm_code.specs.MachineInvariant.{MachineInvariant}
use Rattle.psm_code.specs.State.{More}
use Rattle.psm_termination.specs.Measure.{steps_at_most, shape}
use Rattle.psm_unwind.specs.Marks.{SameFrames}
use Rattle.psm_unwind.specs.View.{machine_of}
use Rattle.psm_machine.proofs.advancing.advance.Given as goal

abbrev pub invariant-common : goal.invariant-common
invariant-common g l = record {
  before : (k : ℕ) × (steps l.code k (More (machine_of (g.S.Store.tables l.store) (g.S.Store.at l.store) l.initial.run)) ≡ More (machine_of (g.S.Store.tables l.store) (g.S.Store.at l.store) l.run));
  machine_invariant : MachineInvariant l.code (machine_of (g.S.Store.tables l.store) (g.S.Store.at l.store) l.run);
  same : SameFrames l.initial.run l.run;
  routine : routine_at l.code l.run.running.routine ≡ Some l.routine;
  store : l.store ≡ l.initial.store;
}

abbrev pub decreases-common : goal.decreases-common
decreases-common g l = steps_at_most l.code (shape (machine_of (g.S.Store.tables l.store) (g.S.Store.at l.store) l.run))

use Rattle.std.proofs.Common.{◌≡◌, ℕ}
use Rattle.psm_code.specs.Run.{steps}
use Rattle.psm_code.specs.MachineInvariant.{MachineInvariant}
use Rattle.psm_code.specs.State.{More}
use Rattle.psm_termination.specs.Measure.{steps_at_most, shape}
use Rattle.psm_unwind.specs.Marks.{MarksStand}
use Rattle.psm_unwind.specs.View.{machine_of}
use Rattle.psm_machine.specs.Successors.{StandStill}
use Rattle.psm_machine.proofs.running.go_through.Given as goal

abbrev pub invariant-rows : goal.invariant-rows
invariant-rows g l = record {
  before : (k : ℕ) × (steps l.code k (More (machine_of (g.S.Store.tables l.initial.store) (g.S.Store.at l.initial.store) l.initial.run)) ≡ More (machine_of (g.S.Store.tables l.store) (g.S.Store.at l.store) l.run));
  machine_invariant : MachineInvariant l.code (machine_of (g.S.Store.tables l.store) (g.S.Store.at l.store) l.run);
  stand : MarksStand (g.S.Store.holds l.store) (g.S.Store.marks l.store) l.run;
  still : StandStill (g.S.Store.holds l.initial.store) (g.S.Store.at l.initial.store) (g.S.Store.marks l.initial.store) l.initial.run (g.S.Store.holds l.store) (g.S.Store.at l.store) (g.S.Store.marks l.store) l.run;
}

abbrev pub decreases-rows : goal.decreases-rows
decreases-rows g l = steps_at_most l.code (shape (machine_of (g.S.Store.tables l.store) (g.S.Store.at l.store) l.run))

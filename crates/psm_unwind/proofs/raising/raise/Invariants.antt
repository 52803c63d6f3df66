use Rattle.std.proofs.Common.{◌≡◌, length}
use Rattle.psm_code.specs.Raising.{raised}
use Rattle.psm_unwind.specs.Marks.{Unwinds}
use Rattle.psm_unwind.specs.View.{machine_of}
use Rattle.psm_unwind.proofs.raising.raise.Given as goal

abbrev pub invariant-loop-condition : goal.invariant-loop-condition
invariant-loop-condition g l = record {
  expected : raised l.code l.initial.condition (machine_of (g.S.Store.tables l.initial.store) (g.S.Store.at l.initial.store) l.initial.run) ≡ raised l.code l.condition (machine_of (g.S.Store.tables l.store) (g.S.Store.at l.store) l.run);
  unwinds : Unwinds (g.S.Store.holds l.initial.store) (g.S.Store.at l.initial.store) (g.S.Store.marks l.initial.store) (g.S.Store.tables l.initial.store) l.initial.run
      (g.S.Store.holds l.store) (g.S.Store.at l.store) (g.S.Store.marks l.store) (g.S.Store.tables l.store) l.run;
}

abbrev pub decreases-loop-condition : goal.decreases-loop-condition
decreases-loop-condition g l = length l.run.callers.items

use Rattle.psm_store.specs.Marks.{IsOutside, Keeps}
use Rattle.psm_code.specs.MachineInvariant.{AreLawful}
use Rattle.psm_session.specs.Ends.{beginning}
use Rattle.psm_session.specs.Steps.{StaysMarked, standing}
use Rattle.psm_session.proofs.Puts.{sunk}
use Rattle.psm_session.proofs.Scripts.{SoFar}
use Rattle.psm_session.proofs.script.run_commands.Given as goal

abbrev pub invariant-loop-index : goal.invariant-loop-index
invariant-loop-index g l = record {
  so_far : SoFar l.code l.commands l.index (beginning (g.S.Store.tables l.fn.store) l.fn.turns) (sunk (g.K.Sink.written l.fn.out) (g.K.Sink.faults l.fn.out) (g.K.Sink.written l.out) (g.K.Sink.faults l.out))
      (standing (g.S.Store.tables l.store) l.turns (g.S.Store.at l.store l.transaction));
  kept : AreLawful l.code (g.S.Store.tables l.store);
  committed : AreLawful l.code (g.S.Store.at l.store l.transaction);
  marked : StaysMarked (g.S.Store.holds l.fn.store) l.fn.mark (g.S.Store.holds l.store) (g.S.Store.marks l.store) l.transaction;
  keeps : Keeps (IsOutside l.fn.mark) (g.S.Store.holds l.fn.store) (g.S.Store.at l.fn.store) (g.S.Store.holds l.store) (g.S.Store.at l.store);
}

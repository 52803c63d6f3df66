use Rattle.std.proofs.Common.{◌≡◌, true}
use Rattle.psm_code.specs.MachineInvariant.{AreLawful}
use Rattle.psm_session.specs.Ends.{beginning}
use Rattle.psm_session.specs.Steps.{HasMark, standing}
use Rattle.psm_session.proofs.Commands.{SoFarSilent}
use Rattle.psm_session.proofs.silent.run_commands.Given as goal

abbrev pub invariant-loop-index : goal.invariant-loop-index
invariant-loop-index g l = record {
  so_far : SoFarSilent l.code l.commands l.index (beginning (g.S.Store.tables l.fn.store) l.turns) l.last.piece.items (standing (g.S.Store.tables l.store) l.left (g.S.Store.at l.store l.mark));
  goes : l.last.goes_on ≡ true;
  kept : AreLawful l.code (g.S.Store.tables l.store);
  committed : AreLawful l.code (g.S.Store.at l.store l.mark);
  marked : HasMark (g.S.Store.holds l.store) (g.S.Store.marks l.store) l.fn.mark.depth l.mark;
}

use Rattle.std.proofs.Common.{sym, subst, get_or}
use Rattle.psm_table.specs.State.{State}
use Rattle.psm_table.specs.Table.{IsTable}
use Rattle.psm_undostore.specs.declared.entry.Entry.{Entry}
use Rattle.psm_undostore.specs.Journal.{IsReady, Takes}
use Rattle.psm_undostore.specs.Undone.{undone}
use Rattle.psm_undostore.proofs.journal.undo_entry.Goals as goal

pub undo_unpacked-requires-clause-ready : goal.undo_unpacked-requires-clause-ready
undo_unpacked-requires-clause-ready g c = subst (λ (e : Entry). IsReady c.args.tables.now e) (sym c.into_entry.ensures) c.requires.ready

pub undo_unpacked-requires-clause-good : goal.undo_unpacked-requires-clause-good
undo_unpacked-requires-clause-good g c =
    subst (λ (e : Entry). (d : State) → IsTable (undone e.change (get_or c.args.tables.now e.table d).contents)) (sym c.into_entry.ensures) c.requires.good

pub returns-clause-taken : goal.returns-clause-taken
returns-clause-taken g c = subst (λ (e : Entry). Takes e c.args.tables.now c.undo_unpacked.new.tables) c.into_entry.ensures c.undo_unpacked.ensures.taken

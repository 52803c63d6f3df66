use Rattle.std.proofs.Common.{◌∙◌, ap, refl, subst}
use Rattle.std.proofs.lemmas.List.{get_or_default}
use Rattle.psm_table.specs.State.{State, StillKeeps}
use Rattle.psm_undostore.specs.Undone.{undone}
use Rattle.psm_undostore.proofs.journal.undo_unpacked.Goals as goal

pub undo_change-requires-clause-can : goal.undo_change-requires-clause-can
undo_change-requires-clause-can g c = c.requires.ready.can c.index-tables-table.result

pub undo_change-requires-clause-good : goal.undo_change-requires-clause-good
undo_change-requires-clause-good g c = c.requires.good c.index-tables-table.result

pub returns-clause-taken : goal.returns-clause-taken
returns-clause-taken g c = record {
  state = c.undo_change.new.table;
  others = refl;
  back = λ d.
      c.undo_change.ensures.table
      ∙ ap (λ (s : State). undone c.args.entry.change s.contents)
      (get_or_default c.args.tables.now c.args.entry.table c.index-tables-table.result d c.requires.ready.inside);
  keeps = λ d.
      subst (λ (s : State). StillKeeps s c.undo_change.new.table)
      (get_or_default c.args.tables.now c.args.entry.table c.index-tables-table.result d c.requires.ready.inside)
      c.undo_change.ensures.keeps;
}
